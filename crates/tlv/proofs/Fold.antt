-- The law of a run over TLVs, once for every run: what it gives at the end, at a broken length and at a TLV. Assumes nothing.
use mathlib.Core.Path.{◌≡◌, refl, sym, ap, ◌∙◌}
use mathlib.Core.List.{List}
use Prim.Native.Nat.{ℕ, zero, suc, ◌+◌, ◌≤◌}
use native.Mathlib.Nat.{le_refl}
use native.Mathlib.Omega.{arith}
use lib.ListN.{length, take, drop, length-drop}
use Rattle.octets.specs.Numbers.{be16, padded}
use Rattle.octets.proofs.Parts.{part_length}
use Rattle.tlv.specs.declared.First.{First}
use Rattle.tlv.specs.declared.First.TheVariants.{End, Broken, Tlv}
use Rattle.tlv.specs.First.{first_tlv}
use Rattle.tlv.specs.Fold.{fold_by, fold_up_to, fold_tlvs}
use Rattle.tlv.proofs.Firsts.{FirstIs, ended, broke, stood, first_is}

module _ {B : Type 0} (end broken : B) (turn : ℕ → List ℕ → B → B) where
  -- the rest is asked only of shorter lists
  by-same : (r r' : List ℕ → B) (s : List ℕ) (x : First) → FirstIs s x
      → ((m : ℕ) → 4 ≤ m → m ≤ length s → r (drop m s) ≡ r' (drop m s))
      → fold_by end broken turn r s x ≡ fold_by end broken turn r' s x
  unfolding fold_by
  by-same r r' s _ (ended h) e = refl
  by-same r r' s _ (broke h) e = refl
  by-same r r' s _ (stood h) e = rw (e (4 + padded (be16 s 2)) (omega arith) h)

  by-none : (r : List ℕ → B) (s : List ℕ) (x : First) → FirstIs s x → length s ≡ 0 → fold_by end broken turn r s x ≡ end
  unfolding fold_by
  by-none r s _ (ended h) e = refl
  by-none r s _ (broke h) e = absurd (omega arith)
  by-none r s _ (stood h) e = absurd (omega arith)

  -- any bound from the length on gives the same
  bound : (f g : ℕ) (s : List ℕ) → length s ≤ f → length s ≤ g → fold_up_to end broken turn f s ≡ fold_up_to end broken turn g s
  unfolding fold_up_to
  bound zero zero s hf hg = refl
  bound zero (suc g) s hf hg = sym (by-none (fold_up_to end broken turn g) s _ (first_is s) (omega arith))
  bound (suc f) zero s hf hg = by-none (fold_up_to end broken turn f) s _ (first_is s) (omega arith)
  bound (suc f) (suc g) s hf hg =
      by-same (fold_up_to end broken turn f) (fold_up_to end broken turn g) s _ (first_is s)
      (λ m h l. bound f g (drop m s) (simp length-drop (omega arith)) (simp length-drop (omega arith)))

  pub fold_step : (s : List ℕ) → fold_tlvs end broken turn s ≡ fold_by end broken turn (fold_tlvs end broken turn) s (first_tlv s)
  unfolding fold_tlvs fold_up_to
  fold_step s =
      bound (length s) (suc (length s)) s (le_refl (length s)) (omega arith)
      ∙ by-same (fold_up_to end broken turn (length s)) (fold_tlvs end broken turn) s _ (first_is s)
      (λ m h l. bound (length s) (length (drop m s)) (drop m s) (simp length-drop (omega arith)) (le_refl (length (drop m s))))

  -- x is what `first_tlv` gave of s
  module _ (s : List ℕ) {x : First} (e : x ≡ first_tlv s) where
    at_first : {y : First} → x ≡ y → fold_tlvs end broken turn s ≡ fold_by end broken turn (fold_tlvs end broken turn) s y
    at_first h = fold_step s ∙ ap (fold_by end broken turn (fold_tlvs end broken turn) s) (sym e ∙ h)

    pub fold_end : x ≡ End → fold_tlvs end broken turn s ≡ end
    unfolding fold_by
    fold_end h = at_first h

    pub fold_broken : x ≡ Broken → fold_tlvs end broken turn s ≡ broken
    unfolding fold_by
    fold_broken h = at_first h

    pub fold_tlv : {t n m : ℕ} → x ≡ Tlv t n m → fold_tlvs end broken turn s ≡ turn t (take n (drop 4 s)) (fold_tlvs end broken turn (drop m s))
    unfolding fold_by
    fold_tlv h = at_first h

-- two runs that are related at the end, at a broken length and, from what follows, at each TLV of at most n octets, are related at each
-- list of at most n octets
module _ {B C : Type 0} (R : B → C → Type 0) (end broken : B) (turn : ℕ → List ℕ → B → B) (end' broken' : C) (turn' : ℕ → List ℕ → C → C)
    (n : ℕ) (re : R end end') (rb : R broken broken')
    (rt : (t : ℕ) (c : List ℕ) (x : B) (y : C) → 4 + padded (length c) ≤ n → R x y → R (turn t c x) (turn' t c y)) where
  related_by : (r : List ℕ → B) (r' : List ℕ → C) (s : List ℕ) (x : First) → FirstIs s x → length s ≤ n
      → ((l : List ℕ) → length l ≤ n → R (r l) (r' l))
      → R (fold_by end broken turn r s x) (fold_by end' broken' turn' r' s x)
  unfolding fold_by
  related_by r r' s _ (ended h) k f = re
  related_by r r' s _ (broke h) k f = rb
  related_by r r' s _ (stood h) k f =
      let e : length (take (be16 s 2) (drop 4 s)) ≡ be16 s 2 = part_length 4 (be16 s 2) s (omega arith) in
      rt (be16 s 0) (take (be16 s 2) (drop 4 s)) _ _ (rw e (omega arith)) (f _ (simp length-drop (omega arith)))

  related_up-to : (f : ℕ) (s : List ℕ) → length s ≤ n → R (fold_up_to end broken turn f s) (fold_up_to end' broken' turn' f s)
  unfolding fold_up_to
  related_up-to zero s k = re
  related_up-to (suc f) s k =
      related_by (fold_up_to end broken turn f) (fold_up_to end' broken' turn' f) s _ (first_is s) k (λ l h. related_up-to f l h)

  pub fold_related : (s : List ℕ) → length s ≤ n → R (fold_tlvs end broken turn s) (fold_tlvs end' broken' turn' s)
  unfolding fold_tlvs
  fold_related s k = related_up-to (length s) s k
