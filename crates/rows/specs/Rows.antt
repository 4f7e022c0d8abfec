-- Tests on the rows of a table, by their numbers. Assumes nothing: these are definitions.
use Rattle.std.specs.Prelude.{ℕ, zero, suc, ◌≤◌, ◌<◌, ◌≡◌, Bool, true, false, cond, not, ◌&&◌, [], ◌∷◌, leb, Option, Some, None}
use Rattle.octets.specs.Tests.{every}

-- the first of the n rows from i on that passes the test
unfoldable pub first_from : ℕ → ℕ → (ℕ → Bool) → Option ℕ
first_from i zero test = None
first_from i (suc n) test = cond (test i) (Some i) (first_from (suc i) n test)

-- the first of n rows that passes the test
unfoldable pub first_row : ℕ → (ℕ → Bool) → Option ℕ
first_row n test = first_from 0 n test

-- each of n rows passes the test
unfoldable pub all_of : ℕ → (ℕ → Bool) → Bool
all_of zero test = true
all_of (suc n) test = all_of n test && test n

-- none of n rows passes the test
unfoldable pub none_of : ℕ → (ℕ → Bool) → Bool
none_of n test = all_of n (λ i. not (test i))

-- row r is the first from row `from` on with the word x, or r is n where none of the n rows is
pub record NextWith (word : ℕ → ℕ) (x n from r : ℕ) : Type 0 where
  pub reached : from ≤ r
  pub most : r ≤ n
  pub has : r < n → word r ≡ x
  pub others : (i : ℕ) → from ≤ i → i < r → word i ≡ x → ⊥

-- the first row from `from` on that passes, and none where none of the n rows does: gives i b says that the test of row i gives b
abbrev pub NextRow : (ℕ → Bool → Type 0) → ℕ → ℕ → Option ℕ → Type 0
NextRow gives n from None = (i : ℕ) → from ≤ i → i < n → gives i false
NextRow gives n from (Some r) = (from ≤ r) × (r < n) × gives r true × ((i : ℕ) → from ≤ i → i < r → gives i false)

-- a table of n rows has at most so many, and each passes the test
unfoldable pub rows_ok : ℕ → ℕ → (ℕ → Bool) → Bool
rows_ok most n test = every (leb n most ∷ all_of n test ∷ [])
