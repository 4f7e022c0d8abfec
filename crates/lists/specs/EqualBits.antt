-- How many leading bits two addresses have equal, and what comparing by them rests on (Req 05). Assumes nothing: these
-- are definitions, and statements that the contract of `lists::equal_bits` owes.
use Rattle.std.specs.Prelude.{ℕ, suc, ◌+◌, ◌*◌, ◌^◌, ◌≤◌, ◌<◌, min, ◌≡◌, cond, List, [], ◌∷◌, length, take, eqb, leb}
use Rattle.std.specs.Int.Bits.{bit_xor}
use Rattle.std.specs.Int.Count.{count_leading_zeros}
use Rattle.flows.specs.Words.{same}
use Rattle.lists.specs.Prefix.{bits, bits_of, prefix_matches}

-- so many numbers are the same in two lists, from the first on
unfoldable pub same_first : List ℕ → List ℕ → ℕ
same_first [] ys = 0
same_first (x ∷ xs) [] = 0
same_first (x ∷ xs) (y ∷ ys) = cond (eqb x y) (suc (same_first xs ys)) 0

-- the leading bits that two addresses have equal
unfoldable pub equal_bits : List ℕ → List ℕ → ℕ
equal_bits a b = same_first (bits_of a) (bits_of b)

pub record PrefixLaws : Type 0 where
  -- a prefix matches where as many leading bits are equal as it asks, or all that there are; for any number of words
  pub asked : (n : ℕ) (a b : List ℕ) → length a ≡ length b → prefix_matches n a b ≡ leb (min n (32 * length a)) (equal_bits a b)
  -- the first n of two words' k bits are equal exactly when n is at most the leading zeros of their xor
  pub zeros : (k n x y : ℕ) → n ≤ k → x < 2 ^ k → y < 2 ^ k → same (take n (bits k x)) (take n (bits k y)) ≡ leb n (count_leading_zeros k (bit_xor x y))
  -- word by word: the equal bits of two addresses are all 32 of equal words, and then the leading zeros of the xor
  pub words : (x y : ℕ) (xs ys : List ℕ) → x < 2 ^ 32 → y < 2 ^ 32
      → equal_bits (x ∷ xs) (y ∷ ys) ≡ cond (eqb x y) (32 + equal_bits xs ys) (count_leading_zeros 32 (bit_xor x y))
