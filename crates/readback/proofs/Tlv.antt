-- A TLV that is written reads back, with whatever stands after it. Assumes nothing.
use mathlib.Core.Path.{◌≡◌, refl, sym, ap, ◌∙◌}
use mathlib.Core.List.{List, [], ◌∷◌, ◌++◌, append_assoc, append-nil}
use mathlib.Core.Bool.{Bool, ◌&&◌}
use Prim.Native.Nat.{ℕ, suc, ◌+◌, ◌-◌}
use native.Mathlib.Omega.{arith}
use lib.ListN.{length, take, drop, replicate, length-append}
use lib.Seq.{take_at, drop_at}
use Rattle.octets.specs.Numbers.{be16, oct16, padded}
use Rattle.tlv.specs.declared.First.TheVariants.{Tlv}
use Rattle.tlv.specs.First.{first_tlv}
use Rattle.tlv.specs.Depth.{inside_ok, all_tlvs, list_ok}
use Rattle.tlv.proofs.Firsts.{first_end, first-stood}
use Rattle.tlv.proofs.Depth.{all_tlv}
use Rattle.items.specs.Items.{Item, item, items_of}
use Rattle.items.proofs.Items.{items_end, items-tlv}
use Rattle.writers.specs.Tlvs.{tlv_of}
use Rattle.writers.proofs.Tlvs.{length-tlv}
use Rattle.readback.specs.Reads.{Reads}

module _ (t : ℕ) (c r : List ℕ) where
  type_back : be16 (tlv_of t c ++ r) 0 ≡ t
  unfolding tlv_of oct16
  type_back = omega arith

  length_back : be16 (tlv_of t c ++ r) 2 ≡ length c
  unfolding tlv_of oct16
  length_back = omega arith

  first_back : Tlv t (length c) (4 + padded (length c)) ≡ first_tlv (tlv_of t c ++ r)
  first_back =
      first-stood (tlv_of t c ++ r) _ _ _ (sym type_back) (sym length_back) (rw length_back)
      (omega (arith, length-append (tlv_of t c) r, length-tlv t c))

  content-back : take (length c) (drop 4 (tlv_of t c ++ r)) ≡ c
  unfolding tlv_of oct16
  content-back =
      let p : List ℕ = replicate (padded (length c) - length c) 0 in
      ap (take (length c)) (append_assoc c p r) ∙ take_at c (p ++ r) (length c) refl

  rest_back : drop (4 + padded (length c)) (tlv_of t c ++ r) ≡ r
  rest_back = drop_at (tlv_of t c) r _ (length-tlv t c)

  pub items_back : items_of (tlv_of t c ++ r) ≡ item t c ∷ items_of r
  items_back =
      items-tlv (tlv_of t c ++ r) first_back refl
      ∙ ap (λ (w : List ℕ). item t w ∷ items_of (drop (4 + padded (length c)) (tlv_of t c ++ r))) content-back
      ∙ ap (λ (w : List ℕ). item t c ∷ items_of w) rest_back

  -- a list that begins with a TLV that was written is in order where its inside is, and what stands after it
  pub list_back : (d : ℕ) (b : Bool) → list_ok (suc d) b (tlv_of t c ++ r) ≡ (inside_ok (list_ok d) b t c && list_ok (suc d) b r)
  unfolding list_ok
  list_back d b =
      all_tlv (inside_ok (list_ok d) b) (tlv_of t c ++ r) first_back (inside_ok (list_ok d) b t c) refl (ap (inside_ok (list_ok d) b t) (sym content-back))
      ∙ ap (λ (w : List ℕ). inside_ok (list_ok d) b t c && all_tlvs (inside_ok (list_ok d) b) w) rest_back

pub items-none : items_of [] ≡ []
items-none = items_end [] (first_end [] refl) refl

-- a TLV that stands last
pub items-last : (t : ℕ) (c : List ℕ) → items_of (tlv_of t c) ≡ item t c ∷ []
items-last t c = ap items_of (sym (append-nil (tlv_of t c))) ∙ items_back t c [] ∙ ap (λ (is : List Item). item t c ∷ is) items-none

-- a written TLV reads back with the fields of its content
pub reads : (t : ℕ) (c : List ℕ) {Fields : List ℕ → Type 0} → Fields c → Reads (tlv_of t c) t Fields
reads t c f = record { content = c; stands = λ r. items_back t c r; fields = f }
