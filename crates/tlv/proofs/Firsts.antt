-- What stands first in a list, by cases.
--     first_is          each case with what it says of the length
--     first_end, ..     each case from the tests that lead to it
--     tlv-fits          a TLV lies in the list with its padding
-- Assumes nothing.
use mathlib.Core.Path.{◌≡◌, refl, sym, ◌∙◌}
use mathlib.Core.List.{List}
use mathlib.Core.Bool.{Bool, true, false, cond}
use Prim.Native.Nat.{ℕ, ◌+◌, ◌≤◌, ◌<◌}
use native.Mathlib.Nat.{pos_of_ne-zero}
use native.Mathlib.Omega.{arith}
use lib.ListN.{length}
use lib.Dec.{leb, eqb}
use borrow.Author.Tests.{leb-true, eqb-true, eqb-false, eq-eqb, ne_eqb, le-leb, lt-leb}
use Rattle.octets.specs.Numbers.{be16, padded}
use Rattle.tlv.specs.declared.First.{First}
use Rattle.tlv.specs.declared.First.TheVariants.{End, Broken, Tlv}
use Rattle.tlv.specs.First.{first_tlv}

pub data FirstIs (s : List ℕ) : First → Type 0 where
  ended : length s ≡ 0 → FirstIs s End
  broke : 0 < length s → FirstIs s Broken
  stood : 4 + padded (be16 s 2) ≤ length s → FirstIs s (Tlv (be16 s 0) (be16 s 2) (4 + padded (be16 s 2)))

first_by : (s : List ℕ) (a b : Bool) → eqb (length s) 0 ≡ a → leb (4 + padded (be16 s 2)) (length s) ≡ b
    → FirstIs s (cond a End (cond b (Tlv (be16 s 0) (be16 s 2) (4 + padded (be16 s 2))) Broken))
first_by s true b ha hb = ended (eqb-true _ _ ha)
first_by s false true ha hb = stood (leb-true _ _ hb)
first_by s false false ha hb = broke (pos_of_ne-zero (eqb-false _ _ ha))

pub first_is : (s : List ℕ) → FirstIs s (first_tlv s)
unfolding first_tlv
first_is s = first_by s _ _ refl refl

module _ (s : List ℕ) where
  pub first_end : length s ≡ 0 → End ≡ first_tlv s
  unfolding first_tlv
  first_end h = rw (eq-eqb (length s) 0 h)

  pub first-broken : (length s ≡ 0 → ⊥) → length s < 4 + padded (be16 s 2) → Broken ≡ first_tlv s
  unfolding first_tlv
  first-broken h l = simp (ne_eqb (length s) 0 h, lt-leb (4 + padded (be16 s 2)) (length s) l)

  pub first-stood : (t n m : ℕ) → t ≡ be16 s 0 → n ≡ be16 s 2 → m ≡ 4 + padded (be16 s 2) → m ≤ length s → Tlv t n m ≡ first_tlv s
  unfolding first_tlv
  first-stood t n m et en em l =
      simp (et, en, em, ne_eqb (length s) 0 (λ z. omega arith), le-leb (4 + padded (be16 s 2)) (length s) (omega arith))

fits : {s : List ℕ} {x : First} {t n m : ℕ} → FirstIs s x → x ≡ Tlv t n m → (m ≡ 4 + padded n) × (m ≤ length s)
fits (ended h) e = let z : ◌≡◌ {A = ℕ} 0 1 = cc in absurd (omega arith)
fits (broke h) e = let z : ◌≡◌ {A = ℕ} 0 1 = cc in absurd (omega arith)
fits {s} {x} {t} {n} {m} (stood h) e =
    let a : be16 s 2 ≡ n = cc in
    let b : 4 + padded (be16 s 2) ≡ m = cc in
    omega arith

-- x is what `first_tlv` gave of s
pub tlv-fits : (s : List ℕ) {x : First} {t n m : ℕ} → x ≡ first_tlv s → x ≡ Tlv t n m → (m ≡ 4 + padded n) × (m ≤ length s)
tlv-fits s e h = fits (first_is s) (sym e ∙ h)
