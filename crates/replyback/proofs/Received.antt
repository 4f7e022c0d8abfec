-- The TLVs of a received list that passed the check: each one's inside is in order, also of the Commands among
-- them. Assumes nothing.
use mathlib.Core.Path.{◌≡◌, refl, sym, ap, ◌∙◌}
use mathlib.Core.List.{List, [], ◌∷◌, ◌++◌}
use mathlib.Core.Bool.{Bool, true, false, cond}
use Prim.Native.Nat.{ℕ, suc}
use native.Mathlib.Nat.{le_refl}
use lib.ListN.{length}
use lib.Dec.{eqb}
use borrow.Author.Tests.{eqb-true}
use Rattle.octets.proofs.Tests.{both}
use Rattle.tlv.specs.Depth.{inside_ok, all_tlvs, list_ok}
use Rattle.tlv.proofs.Fold.{fold_related}
use Rattle.items.specs.Items.{Item, items_of, of_type}

-- each of some TLVs passes the test
abbrev pub EachOk : (ℕ → List ℕ → Bool) → List Item → Type 0
EachOk ok [] = Unit {0}
EachOk ok (i ∷ is) = (ok i.kind i.content ≡ true) × EachOk ok is

each_ok : (ok : ℕ → List ℕ → Bool) (s : List ℕ) → all_tlvs ok s ≡ true → EachOk ok (items_of s)
unfolding all_tlvs items_of
each_ok ok s =
    fold_related (λ (a : Bool) (is : List Item). a ≡ true → EachOk ok is) true false _ [] [] _ (length s) (λ h. tt) (λ h. tt)
    (λ t c a is k f h. let b = both (ok t c) a h in (b.0, f b.1)) s (le_refl (length s))

pub insides_ok : (d : ℕ) (s : List ℕ) → list_ok (suc d) false s ≡ true → EachOk (inside_ok (list_ok d) false) (items_of s)
unfolding list_ok
insides_ok d s h = each_ok (inside_ok (list_ok d) false) s h

module _ (ok : ℕ → List ℕ → Bool) where
  -- ---- those of one type
  abbrev EachOf : ℕ → List (List ℕ) → Type 0
  EachOf t [] = Unit {0}
  EachOf t (c ∷ cs) = (ok t c ≡ true) × EachOf t cs

  of_by : (t : ℕ) (b : Bool) (i : Item) (cs : List (List ℕ)) → eqb i.kind t ≡ b → ok i.kind i.content ≡ true → EachOf t cs
      → EachOf t (cond b (i.content ∷ cs) cs)
  of_by t true i cs e h r = (ap (λ (k : ℕ). ok k i.content) (sym (eqb-true _ _ e)) ∙ h, r)
  of_by t false i cs e h r = r

  of_ok : (t : ℕ) (is : List Item) → EachOk ok is → EachOf t (of_type t is)
  unfolding of_type
  of_ok t [] h = tt
  of_ok t (i ∷ is) h = of_by t (eqb i.kind t) i (of_type t is) refl h.0 (of_ok t is h.1)

  among : (t : ℕ) (front : List (List ℕ)) (c : List ℕ) (after : List (List ℕ)) → EachOf t (front ++ (c ∷ after)) → ok t c ≡ true
  among t [] c after h = h.0
  among t (x ∷ front) c after h = among t front c after h.1

  pub one_ok : (t : ℕ) (is : List Item) (front : List (List ℕ)) (c : List ℕ) (after : List (List ℕ))
      → EachOk ok is → of_type t is ≡ front ++ (c ∷ after) → ok t c ≡ true
  one_ok t is front c after h e = among t front c after (rw e at (of_ok t is h))
