-- Laws of a sum over the numbers below a bound.
--     sum_to-zero, sum_to-suc                    no term, and one term more, as a loop takes it
--     sum_to_ext, sum_to_mono, sum_to_strict      equal terms; smaller terms; smaller terms of which one is smaller still
--     sum_to-add, sum_to_const, sum_to_swap       a sum of sums; one term at each number; two sums, one inside the other
--     sum_to_change                             only one term differs
--     sum_to-at, sum_to-none, sum_to_some         a term is at most the sum; no term; a sum that is not 0 has a term that is not
--     test_most, one_hot                       a test counts 1 at most; a number is met once among those below a bound
-- Assumes nothing.
use Prim.Native.Nat.{ℕ, zero, suc, ◌+◌, ◌*◌, ◌≤◌, ◌<◌}
use mathlib.Core.Path.{◌≡◌, refl, sym, ap}
use mathlib.Core.Bool.{Bool, true, false, cond}
use mathlib.Core.Logic.{⊎_elim}
use native.Mathlib.Nat.{eq-or-lt_of_le, le_of_suc-le-suc}
use native.Mathlib.Numerals.{add-one}
use native.Mathlib.Omega.{arith}
use lib.Dec.{eqb, ltb}
use borrow.Author.Tests.{eqb-true, eqb-false, lt-ltb, le-ltb, ltb-true, ltb-false}
use Rattle.sums.specs.Sums.{sum_to}

pub sum_to-zero : (f : ℕ → ℕ) → sum_to 0 f ≡ 0
unfolding sum_to
sum_to-zero f = refl

pub sum_to-suc : (n : ℕ) (f : ℕ → ℕ) → sum_to (n + 1) f ≡ f n + sum_to n f
unfolding sum_to
sum_to-suc n f = ap (λ (m : ℕ). sum_to m f) (add-one n)

module _ (f g : ℕ → ℕ) where
  pub sum_to_ext : (n : ℕ) → ((q : ℕ) → q < n → f q ≡ g q) → sum_to n f ≡ sum_to n g
  unfolding sum_to
  sum_to_ext zero e = refl
  sum_to_ext (suc n) e = omega (arith, e n (omega arith), sum_to_ext n (λ q l. e q (omega arith)))

  pub sum_to_mono : (n : ℕ) → ((q : ℕ) → q < n → f q ≤ g q) → sum_to n f ≤ sum_to n g
  unfolding sum_to
  sum_to_mono zero e = omega arith
  sum_to_mono (suc n) e = omega (arith, e n (omega arith), sum_to_mono n (λ q l. e q (omega arith)))

  pub sum_to-add : (n : ℕ) → sum_to n (λ q. f q + g q) ≡ sum_to n f + sum_to n g
  unfolding sum_to
  sum_to-add zero = refl
  sum_to-add (suc n) = omega (arith, sum_to-add n)

  -- only the term at p differs
  pub sum_to_change : (n p : ℕ) → p < n → ((q : ℕ) → q < n → (q ≡ p → ⊥) → f q ≡ g q) → sum_to n g + f p ≡ sum_to n f + g p
  unfolding sum_to
  sum_to_change zero p h e = absurd (omega arith)
  sum_to_change (suc n) p h e =
      ⊎_elim
      (λ (s : p ≡ n).
      let r : sum_to n f ≡ sum_to n g = sum_to_ext n (λ q l. e q (omega arith) (λ z. omega arith)) in
      omega (arith, ap f s, ap g s))
      (λ (l : p < n). omega (arith, e n (omega arith) (λ z. omega arith), sum_to_change n p l (λ q m. e q (omega arith))))
      (eq-or-lt_of_le (le_of_suc-le-suc h))

pub sum_to_const : (n c : ℕ) → sum_to n (λ q. c) ≡ n * c
unfolding sum_to
sum_to_const zero c = omega arith
sum_to_const (suc n) c = omega (arith, sum_to_const n c)

pub sum_to-none : (n : ℕ) (f : ℕ → ℕ) → ((q : ℕ) → q < n → f q ≡ 0) → sum_to n f ≡ 0
sum_to-none n f e = omega (arith, sum_to_ext f (λ q. 0) n e, sum_to_const n 0)

pub sum_to-at : (n : ℕ) (f : ℕ → ℕ) (p : ℕ) → p < n → f p ≤ sum_to n f
unfolding sum_to
sum_to-at zero f p h = absurd (omega arith)
sum_to-at (suc n) f p h =
    ⊎_elim (λ (s : p ≡ n). omega (arith, ap f s)) (λ (l : p < n). omega (arith, sum_to-at n f p l)) (eq-or-lt_of_le (le_of_suc-le-suc h))

-- a sum that is not 0 has a term that is not
pub sum_to_some : (n : ℕ) (f : ℕ → ℕ) → ((q : ℕ) → q < n → 0 < f q → ⊥) → sum_to n f ≡ 0
sum_to_some n f e = sum_to-none n f (λ q l. omega (arith, e q l))

-- no term is larger and the one at p is smaller
pub sum_to_strict : (f g : ℕ → ℕ) (n p : ℕ) → p < n → ((q : ℕ) → q < n → f q ≤ g q) → f p < g p → sum_to n f < sum_to n g
unfolding sum_to
sum_to_strict f g zero p h e s = absurd (omega arith)
sum_to_strict f g (suc n) p h e s =
    ⊎_elim
    (λ (r : p ≡ n). omega (arith, ap f r, ap g r, sum_to_mono f g n (λ q l. e q (omega arith))))
    (λ (l : p < n). omega (arith, e n (omega arith), sum_to_strict f g n p l (λ q m. e q (omega arith)) s))
    (eq-or-lt_of_le (le_of_suc-le-suc h))

pub sum_to_swap : (m n : ℕ) (f : ℕ → ℕ → ℕ) → sum_to m (λ p. sum_to n (f p)) ≡ sum_to n (λ i. sum_to m (λ p. f p i))
unfolding sum_to
sum_to_swap zero n f = sym (sum_to-none n (λ i. 0) (λ q l. refl))
sum_to_swap (suc m) n f =
    omega (arith, sum_to_swap m n f, sum_to-add (f m) (λ i. sum_to m (λ p. f p i)) n)

-- a test counts 1 at most
pub test_most : (b : Bool) → cond b 1 0 ≤ 1
test_most true = omega arith
test_most false = omega arith

-- a number o is met once among the numbers below n, if it is one of them
pub one_hot : (n o : ℕ) → sum_to n (λ q. cond (eqb o q) 1 0) ≡ cond (ltb o n) 1 0
unfolding sum_to
one_hot zero o = rw (le-ltb o 0 (omega arith))
one_hot (suc n) o = go (one_hot n o) (eqb o n) refl
  where
    go : sum_to n (λ q. cond (eqb o q) 1 0) ≡ cond (ltb o n) 1 0 → (b : Bool) → eqb o n ≡ b → cond (eqb o n) 1 0 + sum_to n (λ q. cond (eqb o q) 1 0) ≡ cond (ltb o (suc n)) 1 0
    go ih true t =
        let r : o ≡ n = eqb-true o n t in
        rw (t, ih, le-ltb o n (omega arith), lt-ltb o (suc n) (omega arith))
    go ih false t = less (ltb o n) refl
      where
        less : (b : Bool) → ltb o n ≡ b → cond (eqb o n) 1 0 + sum_to n (λ q. cond (eqb o q) 1 0) ≡ cond (ltb o (suc n)) 1 0
        less true u = let k = ltb-true o n u in rw (t, ih, u, lt-ltb o (suc n) (omega arith))
        less false u = let k = ltb-false o n u in rw (t, ih, u, le-ltb o (suc n) (omega (arith, eqb-false o n t)))
