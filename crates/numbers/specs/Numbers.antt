-- The circle of transaction numbers: 1 to 16,777,215, and then 1 again (CARD.md, "What the card writes").
-- Assumes nothing: these are definitions.
use Rattle.std.specs.Prelude.{ℕ, zero, suc, ◌+◌, ◌-◌, ◌<◌, ◌≡◌, Bool, true, cond, [], ◌∷◌, leb}
use Rattle.octets.specs.Tests.{every}
use Rattle.ports.specs.Transactions.{next_number}

-- n is a transaction number
unfoldable pub is_number : ℕ → Bool
is_number n = every (leb 1 n ∷ leb n 16777215 ∷ [])

-- the number k places after n
unfoldable pub number_after : ℕ → ℕ → ℕ
number_after n zero = n
number_after n (suc k) = number_after (next_number n) k

-- how many numbers from n on, around the circle, come before limit; `Left` says that it is this.
-- Of transaction numbers no `-` stops at 0.
unfoldable pub numbers_left : ℕ → ℕ → ℕ
numbers_left n limit = cond (leb n limit) (limit - n) (limit + 16777215 - n)

-- limit stands k places after n, and no fewer
pub record Left (n limit k : ℕ) : Type 0 where
  pub reached : number_after n k ≡ limit
  pub before : (j : ℕ) → j < k → number_after n j ≡ limit → ⊥

-- what a host gets: 0, which no message has, where what it gives is no transaction number
unfoldable pub after_of : ℕ → ℕ → ℕ
after_of number by = cond (is_number number) (number_after number by) 0

unfoldable pub left_of : ℕ → ℕ → ℕ
left_of number limit = cond (every (is_number number ∷ is_number limit ∷ [])) (numbers_left number limit) 0

-- the count that a host gets, and what it says where both are transaction numbers
pub record Counted (number limit r : ℕ) : Type 0 where
  pub is : r ≡ left_of number limit
  pub left : is_number number ≡ true → is_number limit ≡ true → Left number limit r
