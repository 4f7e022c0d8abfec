-- Numbers in octets, big-endian, and padding (CARD.md, "Octets"). Assumes nothing: these are definitions.
-- An octet that is read past the end counts as 0; every caller has tested the length before.
use Rattle.std.specs.Prelude.{ℕ, ◌+◌, ◌*◌, ◌/◌, ◌%◌, List, [], ◌∷◌, get_or}

-- the number of 8, 16, 24 and 32 bits that stands at octet i of s
abbrev pub be8 : List ℕ → ℕ → ℕ
be8 s i = get_or s i 0

abbrev pub be16 : List ℕ → ℕ → ℕ
be16 s i = get_or s i 0 * 256 + get_or s (i + 1) 0

abbrev pub be24 : List ℕ → ℕ → ℕ
be24 s i = (get_or s i 0 * 256 + get_or s (i + 1) 0) * 256 + get_or s (i + 2) 0

abbrev pub be32 : List ℕ → ℕ → ℕ
be32 s i = ((get_or s i 0 * 256 + get_or s (i + 1) 0) * 256 + get_or s (i + 2) 0) * 256 + get_or s (i + 3) 0

-- the octets of a number x of 8, 16, 24 and 32 bits (24: the low 24 bits of x)
unfoldable pub oct8 : ℕ → List ℕ
oct8 x = x ∷ []

unfoldable pub oct16 : ℕ → List ℕ
oct16 x = x / 256 ∷ x % 256 ∷ []

unfoldable pub oct24 : ℕ → List ℕ
oct24 x = x / 65536 % 256 ∷ x / 256 % 256 ∷ x % 256 ∷ []

unfoldable pub oct32 : ℕ → List ℕ
oct32 x = x / 16777216 ∷ x / 65536 % 256 ∷ x / 256 % 256 ∷ x % 256 ∷ []

-- n octets with zero to three octets of padding, up to a multiple of 4
abbrev pub padded : ℕ → ℕ
padded n = (n + 3) / 4 * 4
