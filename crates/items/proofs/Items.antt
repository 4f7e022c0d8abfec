-- The TLVs of a list: what stands first, and then those of the rest; and how many octets each takes. Assumes nothing.
use mathlib.Core.Path.{◌≡◌, ap}
use mathlib.Core.List.{List, [], ◌∷◌}
use Prim.Native.Nat.{ℕ, zero, suc, ◌+◌, ◌≤◌, ◌<◌}
use native.Mathlib.Nat.{le_refl}
use native.Mathlib.Omega.{arith}
use lib.ListN.{length, take, drop}
use Rattle.octets.specs.Numbers.{padded}
use Rattle.tlv.specs.declared.First.{First}
use Rattle.tlv.specs.declared.First.TheVariants.{End, Broken, Tlv}
use Rattle.tlv.specs.First.{first_tlv}
use Rattle.tlv.specs.Fold.{fold_by, fold_up_to, fold_tlvs}
use Rattle.tlv.proofs.Fold.{fold_end, fold_broken, fold_tlv, fold_related}
use Rattle.items.specs.Items.{Item, item, items_of}

-- x is what `first_tlv` gave of s
module _ (s : List ℕ) {x : First} (e : x ≡ first_tlv s) where
  pub items_end : x ≡ End → items_of s ≡ []
  unfolding items_of
  items_end h = fold_end [] [] _ s e h

  pub items-broken : x ≡ Broken → items_of s ≡ []
  unfolding items_of
  items-broken h = fold_broken [] [] _ s e h

  pub items-tlv : {t n m : ℕ} → x ≡ Tlv t n m → items_of s ≡ item t (take n (drop 4 s)) ∷ items_of (drop m s)
  unfolding items_of
  items-tlv h = fold_tlv [] [] _ s e h

-- each TLV takes at most n octets with header and padding
abbrev pub Fit : ℕ → List Item → Type 0
Fit n [] = Unit {0}
Fit n (i ∷ is) = (4 + padded (length i.content) ≤ n) × Fit n is

pub items_fit : (s : List ℕ) → Fit (length s) (items_of s)
unfolding items_of
items_fit s =
    fold_related (λ (is : List Item) (u : Unit {0}). Fit (length s) is) [] [] _ tt tt (λ t c u. tt) (length s) tt tt (λ t c is u k f. (k, f)) s (le_refl (length s))

pub shorter : {is js : List Item} {i : Item} → is ≡ i ∷ js → length js < length is
shorter e = omega (arith, ap length e)

-- there are at most as many as octets
few-by : (f : ℕ) (r : List ℕ → List Item) (s : List ℕ) (x : First) → ((l : List ℕ) → length (r l) ≤ f)
    → length (fold_by [] [] (λ t c is. item t c ∷ is) r s x) ≤ suc f
unfolding fold_by
few-by f r s End h = omega arith
few-by f r s Broken h = omega arith
few-by f r s (Tlv t n m) h = omega (arith, h (drop m s))

few-up_to : (f : ℕ) (s : List ℕ) → length (fold_up_to [] [] (λ t c is. item t c ∷ is) f s) ≤ f
unfolding fold_up_to
few-up_to zero s = omega arith
few-up_to (suc f) s = few-by f _ s (first_tlv s) (few-up_to f)

pub items_fewer : (s : List ℕ) → length (items_of s) ≤ length s
unfolding items_of fold_tlvs
items_fewer s = few-up_to (length s) s
