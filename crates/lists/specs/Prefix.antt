-- A prefix matches: as many leading bits are equal as it asks. For addresses of any number of words. Assumes nothing: these are definitions.
use Rattle.std.specs.Prelude.{ℕ, zero, suc, ◌/◌, ◌%◌, ◌^◌, Bool, List, [], ◌∷◌, ◌++◌, take}
use Rattle.flows.specs.Words.{same}

-- the last k bits of a word, the highest first
unfoldable pub bits : ℕ → ℕ → List ℕ
bits zero x = []
bits (suc k) x = x / 2 ^ k % 2 ∷ bits k x

-- the bits of an address, 32 to a word
unfoldable pub bits_of : List ℕ → List ℕ
bits_of [] = []
bits_of (x ∷ xs) = bits 32 x ++ bits_of xs

-- the first n bits of two addresses are equal; all their bits, where they have fewer
unfoldable pub prefix_matches : ℕ → List ℕ → List ℕ → Bool
prefix_matches n a b = same (take n (bits_of a)) (take n (bits_of b))
