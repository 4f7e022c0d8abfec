-- Laws of the circle of transaction numbers.
--     after-suc, after-add        one place further; places after places
--     after_range                 a number's places are numbers
--     after-plain, after_wrap     the closed form, up to 16,777,215 places
--     after_round, after_rounds   once around, and any number of times
--     after-apart                 fewer than 16,777,215 places apart: different numbers
--     left_is                     what numbers_left counts
-- Assumes nothing.
use Prim.Native.Nat.{ℕ, zero, suc, ◌+◌, ◌*◌, ◌-◌, ◌≤◌, ◌<◌}
use mathlib.Core.Path.{◌≡◌, refl, sym, ap, ◌∙◌}
use mathlib.Core.Bool.{Bool, true, false, cond}
use mathlib.Core.Logic.{◌⊎◌, inl, inr, ⊎_elim}
use native.Mathlib.Omega.{arith}
use lib.Dec.{leb}
use borrow.Author.Tests.{leb-true, leb-false, lt-leb}
use Rattle.ports.specs.Transactions.{next_number}
use Rattle.numbers.specs.Numbers.{number_after, numbers_left, Left}

pub next-plain : (n : ℕ) → n < 16777215 → next_number n ≡ n + 1
next-plain n h = rw (lt-leb 16777215 n h)

pub next_wrap : next_number 16777215 ≡ 1
next_wrap = refl

-- one of the two closed forms holds
by_size : (a b : ℕ) → (a ≤ b) ⊎ (b < a)
by_size a b = go (leb a b) refl
  where
    go : (t : Bool) → leb a b ≡ t → (a ≤ b) ⊎ (b < a)
    go true e = inl (leb-true a b e)
    go false e = inr (leb-false a b e)

pub next_range : (n : ℕ) → 1 ≤ n → n ≤ 16777215 → (1 ≤ next_number n) × (next_number n ≤ 16777215)
next_range n low high = go (leb 16777215 n) refl
  where
    go : (t : Bool) → leb 16777215 n ≡ t → (1 ≤ cond t 1 (n + 1)) × (cond t 1 (n + 1) ≤ 16777215)
    go true e = (omega arith, omega arith)
    go false e = (omega arith, omega (arith, leb-false 16777215 n e))

-- ---- places after places
pub after-zero : (n : ℕ) → number_after n 0 ≡ n
unfolding number_after
after-zero n = refl

pub after_next : (n k : ℕ) → number_after n (suc k) ≡ number_after (next_number n) k
unfolding number_after
after_next n k = refl

pub after-suc : (n k : ℕ) → number_after n (suc k) ≡ next_number (number_after n k)
unfolding number_after
after-suc n zero = refl
after-suc n (suc k) = after-suc (next_number n) k

pub after-add : (n j k : ℕ) → number_after n (j + k) ≡ number_after (number_after n j) k
unfolding number_after
after-add n zero k = let e : 0 + k ≡ k = omega arith in ap (number_after n) e
after-add n (suc j) k =
    let e : suc j + k ≡ suc (j + k) = omega arith in
    ap (number_after n) e ∙ after-add (next_number n) j k

pub after_range : (k n : ℕ) → 1 ≤ n → n ≤ 16777215 → (1 ≤ number_after n k) × (number_after n k ≤ 16777215)
unfolding number_after
after_range zero n low high = (low, high)
after_range (suc k) n low high = let r = next_range n low high in after_range k (next_number n) r.0 r.1

-- ---- the closed form
pub after-plain : (k n : ℕ) → n + k ≤ 16777215 → number_after n k ≡ n + k
unfolding number_after
after-plain zero n h = omega arith
after-plain (suc k) n h =
    ap (λ (m : ℕ). number_after m k) (next-plain n (omega arith)) ∙ after-plain k (n + 1) (omega arith) ∙ omega arith

pub after_wrap : (k n : ℕ) → 1 ≤ n → n ≤ 16777215 → k ≤ 16777215 → 16777215 < n + k → number_after n k ≡ n + k - 16777215
after_wrap k n low high few h =
    let j : ℕ = 16777215 - n in
    let m : ℕ = n + k - 16777216 in
    let parts : k ≡ j + suc m = omega arith in
    let top : number_after n j ≡ 16777215 = after-plain j n (omega arith) ∙ omega arith in
    ap (number_after n) parts ∙ after-add n j (suc m) ∙ ap (λ (i : ℕ). number_after i (suc m)) top ∙ after_next 16777215 m ∙ ap (λ (i : ℕ). number_after i m) next_wrap
    ∙ after-plain m 1 (omega arith) ∙ omega arith

-- ---- around
module _ (n : ℕ) (low : 1 ≤ n) (high : n ≤ 16777215) where
  pub after_round : number_after n 16777215 ≡ n
  after_round = after_wrap 16777215 n low high (omega arith) (omega arith) ∙ omega arith

  pub after_rounds : (q r : ℕ) → number_after n (q * 16777215 + r) ≡ number_after n r
  after_rounds zero r = let e : 0 * 16777215 + r ≡ r = omega arith in ap (number_after n) e
  after_rounds (suc q) r =
      let e : suc q * 16777215 + r ≡ 16777215 + (q * 16777215 + r) = omega arith in
      ap (number_after n) e ∙ after-add n 16777215 (q * 16777215 + r) ∙ ap (λ (i : ℕ). number_after i (q * 16777215 + r)) after_round ∙ after_rounds q r

  -- one of two closed forms
  after_form : (k : ℕ) → k < 16777215
      → ((n + k ≤ 16777215) × (number_after n k ≡ n + k)) ⊎ ((16777215 < n + k) × (number_after n k + 16777215 ≡ n + k))
  after_form k few =
      ⊎_elim
      (λ (h : n + k ≤ 16777215). inl (h, after-plain k n h))
      (λ (h : 16777215 < n + k). inr (h, omega (arith, after_wrap k n low high (omega arith) h)))
      (by_size (n + k) 16777215)

  pub after-apart : (j k : ℕ) → j < 16777215 → k < 16777215 → number_after n j ≡ number_after n k → j ≡ k
  after-apart j k fewer few e =
      ⊎_elim
      (λ (a : (n + j ≤ 16777215) × (number_after n j ≡ n + j)).
      ⊎_elim
      (λ (b : (n + k ≤ 16777215) × (number_after n k ≡ n + k)). omega arith)
      (λ (b : (16777215 < n + k) × (number_after n k + 16777215 ≡ n + k)). omega arith)
      (after_form k few))
      (λ (a : (16777215 < n + j) × (number_after n j + 16777215 ≡ n + j)).
      ⊎_elim
      (λ (b : (n + k ≤ 16777215) × (number_after n k ≡ n + k)). omega arith)
      (λ (b : (16777215 < n + k) × (number_after n k + 16777215 ≡ n + k)). omega arith)
      (after_form k few))
      (after_form j fewer)

-- ---- what is left
module _ (n limit : ℕ) (low : 1 ≤ n) (high : n ≤ 16777215) (least : 1 ≤ limit) (most : limit ≤ 16777215) where
  pub left_few : numbers_left n limit < 16777215
  unfolding numbers_left
  left_few = go (leb n limit) refl
    where
      go : (t : Bool) → leb n limit ≡ t → cond t (limit - n) (limit + 16777215 - n) < 16777215
      go true e = omega arith
      go false e = omega (arith, leb-false n limit e)

  left_reaches : number_after n (numbers_left n limit) ≡ limit
  unfolding numbers_left
  left_reaches = go (leb n limit) refl
    where
      go : (t : Bool) → leb n limit ≡ t → number_after n (cond t (limit - n) (limit + 16777215 - n)) ≡ limit
      go true e = let h = leb-true n limit e in after-plain (limit - n) n (omega arith) ∙ omega arith
      go false e =
          let h = leb-false n limit e in
          after_wrap (limit + 16777215 - n) n low high (omega arith) (omega arith) ∙ omega arith

  pub left_is : Left n limit (numbers_left n limit)
  left_is = record {
    reached = left_reaches;
    before = λ j l e. omega (arith, left_few, after-apart n low high j (numbers_left n limit) (omega (arith, left_few)) left_few (e ∙ sym left_reaches));
  }
