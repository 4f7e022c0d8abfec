-- What stands first in a list of TLVs (CARD.md, "Octets": type, length, content, padding). Assumes nothing: these are
-- definitions.
use Rattle.std.specs.Prelude.{ℕ, ◌+◌, List, cond, length, leb, eqb}
use Rattle.octets.specs.Numbers.{be16, padded}
use Rattle.tlv.specs.declared.First.{First}
use Rattle.tlv.specs.declared.First.TheVariants.{End, Broken, Tlv}

-- nothing; or a TLV with its type, its length and how many octets it takes with header and padding, all of which lie in s;
-- or, where they do not, a broken length
unfoldable pub first_tlv : List ℕ → First
first_tlv s =
    cond (eqb (length s) 0) End
    (cond (leb (4 + padded (be16 s 2)) (length s)) (Tlv (be16 s 0) (be16 s 2) (4 + padded (be16 s 2)))
    Broken)
