-- Laws of the list of f at the numbers that pass a test.
--     pick_to-zero, pick_to-take, pick_to_pass     no number, and one number more that passes or does not, as a loop takes it
--     pick_to-start                              the list up to i is the beginning of every longer one
--     sum_by-append, sum_by_pick, length_pick     its sum and its length, as sums over the numbers
-- Assumes nothing.
use Prim.Native.Nat.{ℕ, zero, suc, ◌+◌, ◌≤◌, ◌<◌}
use mathlib.Core.Path.{◌≡◌, refl, sym, ap, ◌∙◌}
use mathlib.Core.Bool.{Bool, true, false, cond}
use mathlib.Core.List.{List, [], ◌∷◌, ◌++◌}
use mathlib.Core.Logic.{⊎_elim}
use native.Mathlib.Nat.{eq-or-lt_of_le, le_of_suc-le-suc}
use native.Mathlib.Numerals.{add-one}
use native.Mathlib.Omega.{arith}
use lib.ListN.{length, take, length-take}
use lib.Seq.{take-length, take-append-le}
use Rattle.sums.specs.Sums.{sum_to, pick_to, sum_by}

pub sum_by-append {ℓ} : {A : Type ℓ} (g : A → ℕ) (xs ys : List A) → sum_by g (xs ++ ys) ≡ sum_by g xs + sum_by g ys
unfolding sum_by
sum_by-append g [] ys = omega arith
sum_by-append g (x ∷ xs) ys = omega (arith, sum_by-append g xs ys)

length-sum {ℓ} : {A : Type ℓ} (xs : List A) → length xs ≡ sum_by (λ a. 1) xs
unfolding sum_by
length-sum [] = refl
length-sum (x ∷ xs) = omega (arith, length-sum xs)

module _ {ℓ} {A : Type ℓ} (test : ℕ → Bool) (f : ℕ → A) where
  pub pick_to-zero : pick_to 0 test f ≡ []
  unfolding pick_to
  pick_to-zero = refl

  pub pick_to-take : (n : ℕ) → test n ≡ true → pick_to (n + 1) test f ≡ pick_to n test f ++ (f n ∷ [])
  unfolding pick_to
  pick_to-take n t = rw (add-one n) (simp t)

  pub pick_to_pass : (n : ℕ) → test n ≡ false → pick_to (n + 1) test f ≡ pick_to n test f
  unfolding pick_to
  pick_to_pass n t = rw (add-one n) (simp t)

  pub pick_to-start : (i n : ℕ) → i ≤ n → take (length (pick_to i test f)) (pick_to n test f) ≡ pick_to i test f
  unfolding pick_to
  pick_to-start zero zero h = refl
  pick_to-start (suc i) zero h = absurd (omega arith)
  pick_to-start i (suc n) h =
      ⊎_elim
      (λ (s : i ≡ suc n). ap (λ (m : ℕ). take (length (pick_to i test f)) (pick_to m test f)) (sym s) ∙ take-length (pick_to i test f))
      (λ (l : i < suc n). go (test n) (pick_to-start i n (le_of_suc-le-suc l)))
      (eq-or-lt_of_le h)
    where
      go : (b : Bool) → take (length (pick_to i test f)) (pick_to n test f) ≡ pick_to i test f
          → take (length (pick_to i test f)) (cond b (pick_to n test f ++ (f n ∷ [])) (pick_to n test f)) ≡ pick_to i test f
      go true e =
          take-append-le (length (pick_to i test f)) (pick_to n test f) (f n ∷ [])
          (omega (arith, ap length e, length-take (length (pick_to i test f)) (pick_to n test f)))
          ∙ e
      go false e = e

  pub sum_by_pick : (g : A → ℕ) (n : ℕ) → sum_by g (pick_to n test f) ≡ sum_to n (λ i. cond (test i) (g (f i)) 0)
  unfolding pick_to sum_by sum_to
  sum_by_pick g zero = refl
  sum_by_pick g (suc n) = go (test n) (sum_by_pick g n)
    where
      go : (b : Bool) → sum_by g (pick_to n test f) ≡ sum_to n (λ i. cond (test i) (g (f i)) 0)
          → sum_by g (cond b (pick_to n test f ++ (f n ∷ [])) (pick_to n test f)) ≡ cond b (g (f n)) 0 + sum_to n (λ i. cond (test i) (g (f i)) 0)
      go true e = omega (arith, sum_by-append g (pick_to n test f) (f n ∷ []))
      go false e = omega arith

  pub length_pick : (n : ℕ) → length (pick_to n test f) ≡ sum_to n (λ i. cond (test i) 1 0)
  length_pick n = length-sum (pick_to n test f) ∙ sum_by_pick (λ a. 1) n
