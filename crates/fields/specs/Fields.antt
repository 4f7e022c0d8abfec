-- The fields of a TLV with content c (CARD.md, "Octets"). An octet past the end of c counts as 0.
-- Assumes nothing: these are definitions.
use Rattle.std.specs.Prelude.{ℕ, ◌+◌, List, Bool, true, cond, length, take, drop, eqb}
use Rattle.octets.specs.Numbers.{be8, be16, be32, padded}
use Rattle.items.specs.Items.{items_of, count_of, first_of}
use Rattle.fields.specs.declared.Command.{Command}
use Rattle.fields.specs.declared.Status.{Status}
use Rattle.fields.specs.declared.Request.{Request}

-- Target 0x1000: how many Access-Loop-Circuit-IDs 0x0001 it holds, and the first of them
abbrev pub circuit_ids : List ℕ → ℕ
circuit_ids c = count_of 0x0001 (items_of c)

abbrev pub circuit_id : List ℕ → List ℕ
circuit_id c = first_of 0x0001 (items_of c)

-- Status-Info 0x0106: reserved (8), message type (8), text length (16), text, TLVs
unfoldable pub status_in : List ℕ → Status
status_in c = record { kind = be8 c 1; text = be16 c 2 }

abbrev pub status_text : List ℕ → List ℕ
status_text c = take (be16 c 2) (drop 4 c)

abbrev pub status_tlvs : List ℕ → List ℕ
status_tlvs c = drop (4 + padded (be16 c 2)) c

-- Command 0x0011: code (8), accounting (8), reserved (16), then TLVs
unfoldable pub command_in : List ℕ → Command
command_in c = record { code = be8 c 0; accounting = be8 c 1 }

abbrev pub command_tlvs : List ℕ → List ℕ
command_tlvs c = drop 4 c

-- Bandwidth-Allocation 0x0015
abbrev pub allocation_in : List ℕ → ℕ
allocation_in c = be32 c 0

-- Bandwidth-Request 0x0016: required, preferred
unfoldable pub request_in : List ℕ → Request
request_in c = record { required = be32 c 0; preferred = be32 c 4 }

-- Sequence-Number 0x0022
abbrev pub sequence_in : List ℕ → ℕ
sequence_in c = be32 c 0

-- a TLV of type t has its fixed length: Bandwidth-Allocation 4, Bandwidth-Request 8, Sequence-Number 4; others have none
unfoldable pub length_ok : ℕ → List ℕ → Bool
length_ok t c =
    cond (eqb t 0x0015) (eqb (length c) 4)
    (cond (eqb t 0x0016) (eqb (length c) 8)
    (cond (eqb t 0x0022) (eqb (length c) 4)
    true))
