-- What a host gets, case by case.
--     number_range                        the numbers
--     after_none, after_low, after_high   number_after: no number; the sum; the sum less 16,777,215
--     left-none, left_at                  numbers_left: one of the two is no number; both are
-- Assumes nothing.
use Prim.Native.Nat.{ℕ, ◌+◌, ◌-◌, ◌/◌, ◌%◌, ◌≤◌, ◌<◌}
use mathlib.Core.Path.{◌≡◌, sym, ap, subst, ◌∙◌}
use mathlib.Core.Bool.{true, false, false≢true}
use mathlib.Core.List.{[], ◌∷◌}
use mathlib.Core.Logic.{◌⊎◌, ⊎_elim}
use native.Mathlib.Nat.{mod-lt, div-add-mod'}
use native.Mathlib.Omega.{arith}
use lib.Dec.{leb}
use borrow.Author.Tests.{leb-true}
use Rattle.octets.specs.Tests.{every}
use Rattle.octets.proofs.Tests.{each, every-by, false_by}
use Rattle.numbers.specs.Numbers.{is_number, number_after, numbers_left, Left, after_of, left_of, Counted}
use Rattle.numbers.proofs.Circle.{after-plain, after_wrap, after_rounds, left_is}

pub number_range : (n : ℕ) → is_number n ≡ true → (1 ≤ n) × (n ≤ 16777215)
unfolding is_number
number_range n h =
    let s = each (leb 1 n ∷ leb n 16777215 ∷ []) h in
    (leb-true 1 n s.0, leb-true n 16777215 s.1.0)

-- ---- the number after
pub after_none : (n by : ℕ) → is_number n ≡ false → 0 ≡ after_of n by
unfolding after_of
after_none n by h = rw h

module _ (n by : ℕ) (is : is_number n ≡ true) where
  -- whole rounds do not count
  pub after_few : number_after n (by % 16777215) ≡ after_of n by
  unfolding after_of
  after_few =
      let r = number_range n is in
      rw is (sym (after_rounds n r.0 r.1 (by / 16777215) (by % 16777215)) ∙ ap (number_after n) (div-add-mod' by 16777215))

  pub after_low : n + by % 16777215 ≤ 16777215 → n + by % 16777215 ≡ after_of n by
  after_low h = sym (after-plain (by % 16777215) n h) ∙ after_few

  pub after_high : 16777215 < n + by % 16777215 → n + by % 16777215 - 16777215 ≡ after_of n by
  after_high h =
      let r = number_range n is in
      sym (after_wrap (by % 16777215) n r.0 r.1 (omega (arith, mod-lt by {m = 16777215} (omega arith))) h) ∙ after_few

-- ---- the numbers left
pub left-none : (n limit : ℕ) → (is_number n ≡ false) ⊎ (is_number limit ≡ false) → Counted n limit 0
unfolding left_of
left-none n limit h = record { is = rw (sym never); left = λ a b. absurd (neither a b) }
  where
    neither : is_number n ≡ true → is_number limit ≡ true → ⊥
    neither a b = ⊎_elim (λ (e : is_number n ≡ false). false≢true (sym e ∙ a)) (λ (e : is_number limit ≡ false). false≢true (sym e ∙ b)) h

    never : false ≡ every (is_number n ∷ is_number limit ∷ [])
    never = false_by _ (λ t. let s = each (is_number n ∷ is_number limit ∷ []) t in neither s.0 s.1.0)

pub left_at : (n limit r : ℕ) → is_number n ≡ true → is_number limit ≡ true → r ≡ numbers_left n limit → Counted n limit r
unfolding left_of
left_at n limit r a b e =
    let s = number_range n a in
    let t = number_range limit b in
    record {
      is = rw (every-by (is_number n ∷ is_number limit ∷ []) (a, (b, tt))) e;
      left = λ _ _. subst (Left n limit) (sym e) (left_is n limit s.0 s.1 t.0 t.1);
    }
