-- The header of a message (CARD.md, "Octets"): when a message is unusable, what its header says, and how a header is
-- written. Assumes nothing: these are definitions.
use Rattle.std.specs.Prelude.{ℕ, ◌+◌, ◌-◌, List, [], ◌∷◌, ◌++◌, Bool, cond, length, leb, eqb, Option, None, Some}
use Rattle.octets.specs.Numbers.{be8, be16, be24, oct8, oct16, oct24}
use Rattle.octets.specs.Tests.{every}
use Rattle.header.specs.Bits.{result_of, code_of, result_and_code, i_bit_of, submessage_of, i_bit_and_submessage}
use Rattle.header.specs.declared.Header.{Header}

-- the size of a message that is handed in. What the card writes may be longer, and reads back by the same rules but this one
unfoldable pub size_ok : List ℕ → Bool
size_ok s = every (leb 16 (length s) ∷ leb (length s) 4096 ∷ [])

-- 0x880C, the first length, the version, I = 1 and submessage = 1, the second length. Both lengths count from the version octet,
-- the fifth, to the end of the octets handed in
unfoldable pub usable : List ℕ → Bool
usable s =
    every (leb 16 (length s)
    ∷ eqb (be16 s 0) 0x880C
    ∷ eqb (be16 s 2) (length s - 4)
    ∷ eqb (be8 s 4) 0x32
    ∷ eqb (i_bit_of (be16 s 12)) 1
    ∷ eqb (submessage_of (be16 s 12)) 1
    ∷ eqb (be16 s 14) (length s - 4)
    ∷ [])

-- type, Result and Result Code, partition, transaction
unfoldable pub header_in : List ℕ → Header
header_in s =
    record {
      kind = be8 s 5;
      result = result_of (be16 s 6);
      code = code_of (be16 s 6);
      partition = be8 s 8;
      transaction = be24 s 9;
    }

unfoldable pub head_in : List ℕ → Option Header
head_in s = cond (usable s) (Some (header_in s)) None

-- the octets of a header before n octets of TLVs: 0x880C; length; version; type; Result and Result Code; partition; transaction;
-- I bit and submessage number; length
unfoldable pub header_of : Header → ℕ → List ℕ
header_of h n =
    oct16 0x880C
    ++ oct16 (12 + n)
    ++ oct8 0x32
    ++ oct8 h.kind
    ++ oct16 (result_and_code h.result h.code)
    ++ oct8 h.partition
    ++ oct24 h.transaction
    ++ oct16 (i_bit_and_submessage 1)
    ++ oct16 (12 + n)

-- a whole message: the header, and the TLVs after it
unfoldable pub message_of : Header → List ℕ → List ℕ
message_of h body = header_of h (length body) ++ body
