-- The laws of the check of lengths and depth. Assumes nothing.
use mathlib.Core.Path.{◌≡◌, refl, sym, ap, ◌∙◌}
use mathlib.Core.List.{List}
use mathlib.Core.Bool.{Bool, true, false, cond, ◌&&◌, false≢true}
use Prim.Native.Nat.{ℕ, zero, suc, ◌-◌}
use native.Mathlib.Nat.{le_refl}
use native.Mathlib.Omega.{arith}
use lib.ListN.{length, take, drop}
use lib.Dec.{eqb}
use borrow.Author.Tests.{eqb-true}
use Rattle.tlv.specs.declared.First.{First}
use Rattle.tlv.specs.declared.First.TheVariants.{End, Broken, Tlv}
use Rattle.tlv.specs.declared.Inside.{Inside}
use Rattle.tlv.specs.declared.Inside.TheVariants.{Plain, Short, Holds}
use Rattle.tlv.specs.First.{first_tlv}
use Rattle.tlv.specs.Depth.{inside_of, held_ok, inside_ok, all_tlvs, list_ok}
use Rattle.tlv.proofs.Firsts.{first_end}
use Rattle.tlv.proofs.Fold.{fold_end, fold_broken, fold_tlv, fold_related}

pub list_pos : (d : ℕ) (b : Bool) (s : List ℕ) → (d ≡ 0 → ⊥) → list_ok d b s ≡ all_tlvs (inside_ok (list_ok (d - 1)) b) s
unfolding list_ok
list_pos zero b s h = absurd (h refl)
list_pos (suc d) b s h = let e : suc d - 1 ≡ d = omega arith in rw e

-- x is what `first_tlv` gave of s
module _ (ok : ℕ → List ℕ → Bool) (s : List ℕ) {x : First} (e : x ≡ first_tlv s) where
  pub all_end : x ≡ End → all_tlvs ok s ≡ true
  unfolding all_tlvs
  all_end h = fold_end true false _ s e h

  pub all_broken : x ≡ Broken → all_tlvs ok s ≡ false
  unfolding all_tlvs
  all_broken h = fold_broken true false _ s e h

  pub all_tlv : {t n m : ℕ} (b : Bool) → x ≡ Tlv t n m → b ≡ ok t (take n (drop 4 s)) → all_tlvs ok s ≡ (b && all_tlvs ok (drop m s))
  unfolding all_tlvs
  all_tlv b h g = fold_tlv true false _ s e h ∙ rw (sym g)

-- ---- what passes a check passes a weaker one
and_both : (a b a' b' : Bool) → (a ≡ true → a' ≡ true) → (b ≡ true → b' ≡ true) → (a && b) ≡ true → (a' && b') ≡ true
and_both true b a' b' f g h = ap (λ (x : Bool). x && b') (f refl) ∙ g h
and_both false b a' b' f g h = absurd (false≢true h)

pub all_weaker : (ok ok' : ℕ → List ℕ → Bool) → ((t : ℕ) (c : List ℕ) → ok t c ≡ true → ok' t c ≡ true)
    → (s : List ℕ) → all_tlvs ok s ≡ true → all_tlvs ok' s ≡ true
unfolding all_tlvs
all_weaker ok ok' f s =
    fold_related (λ a b. a ≡ true → b ≡ true) true false _ true false _ (length s) (λ h. h) (λ h. h)
    (λ t c a b k g. and_both (ok t c) a (ok' t c) b (f t c) g) s (le_refl (length s))

module _ (inner inner' : Bool → List ℕ → Bool) (f : (b : Bool) (s : List ℕ) → inner b s ≡ true → inner' b s ≡ true) where
  entered_weaker : (c : List ℕ) (x : Inside) → held_ok inner c x ≡ true → held_ok inner' c x ≡ true
  unfolding held_ok
  entered_weaker c Plain h = h
  entered_weaker c Short h = h
  entered_weaker c (Holds k b) h = f b (drop k c) h

  pub inside_weaker : (b : Bool) (t : ℕ) (c : List ℕ) → inside_ok inner b t c ≡ true → inside_ok inner' b t c ≡ true
  unfolding inside_ok
  inside_weaker b t c h = entered_weaker c (inside_of b t c) h

-- where bare headers may stand, what passes without them passes
bare-by : (inner : Bool → List ℕ → Bool) (c : List ℕ) (b : Bool) (x : Inside) → held_ok inner c x ≡ true → held_ok inner c (cond b Plain x) ≡ true
unfolding held_ok
bare-by inner c true x h = refl
bare-by inner c false x h = h

pub inside_bare : (inner : Bool → List ℕ → Bool) (t : ℕ) (c : List ℕ) → inside_ok inner false t c ≡ true → inside_ok inner true t c ≡ true
unfolding inside_ok inside_of
inside_bare inner t c h = bare-by inner c (eqb (length c) 0) _ h

pub list_bare : (d : ℕ) (s : List ℕ) → list_ok d false s ≡ true → list_ok d true s ≡ true
unfolding list_ok
list_bare zero s h = h
list_bare (suc d) s h = all_weaker (inside_ok (list_ok d) false) (inside_ok (list_ok d) true) (inside_bare (list_ok d)) s h

-- what may nest d deep may nest deeper
pub list_deeper : (d : ℕ) (b : Bool) (s : List ℕ) → list_ok d b s ≡ true → list_ok (suc d) b s ≡ true
unfolding list_ok
list_deeper zero b s h = all_end _ s (first_end s (eqb-true _ _ h)) refl
list_deeper (suc d) b s h =
    all_weaker (inside_ok (list_ok d) b) (inside_ok (list_ok (suc d)) b)
    (inside_weaker (list_ok d) (list_ok (suc d)) (list_deeper d) b) s h
