-- Addresses as 32-bit words, the highest first, of any number of words. Assumes nothing: these are definitions.
use Rattle.std.specs.Prelude.{ℕ, ◌+◌, Bool, true, false, ◌&&◌, List, [], ◌∷◌, ◌++◌, drop, get_or, eqb}
use Rattle.octets.specs.Numbers.{oct32}
use Rattle.std.specs.Cmp.Lexicographic.{slice_cmp}
use Rattle.std.specs.Ordering.{nat_cmp}
use Rattle.std.specs.declared.cmp.Ordering.{Ordering}

-- the four words that a table has from a place on
abbrev pub address_at : List ℕ → ℕ → List ℕ
address_at t at = get_or t at 0 ∷ get_or t (at + 1) 0 ∷ get_or t (at + 2) 0 ∷ get_or t (at + 3) 0 ∷ []

-- the octets of words
unfoldable pub octets_of : List ℕ → List ℕ
octets_of [] = []
octets_of (x ∷ xs) = oct32 x ++ octets_of xs

-- the same numbers one by one, and as many of them
unfoldable pub same : List ℕ → List ℕ → Bool
same [] [] = true
same [] (b ∷ ys) = false
same (a ∷ xs) [] = false
same (a ∷ xs) (b ∷ ys) = eqb a b && same xs ys

-- all are zero, and all from the n-th on
unfoldable pub zeros : List ℕ → Bool
zeros [] = true
zeros (a ∷ xs) = eqb a 0 && zeros xs

abbrev pub zero_from : ℕ → List ℕ → Bool
zero_from n xs = zeros (drop n xs)

-- the first words that differ say which address goes first
abbrev pub words_order : List ℕ → List ℕ → Ordering
words_order = slice_cmp nat_cmp
