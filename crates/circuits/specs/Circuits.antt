-- The circuit ids of the ports. Assumes nothing: these are definitions.
use Rattle.std.specs.Prelude.{ℕ, ◌+◌, ◌*◌, ◌%◌, min, Bool, List, get_or, take, drop, Option}
use Rattle.flows.specs.Words.{same}
use Rattle.rows.specs.Rows.{first_row}

-- what row p of 64 octets says of the id's length
unfoldable pub id_length : List ℕ → ℕ → ℕ
id_length ids p = get_or ids (p * 64) 0

-- the circuit id of port p, which stands after its length (one above 63, which start refuses, counts modulo 64)
unfoldable pub id_at : List ℕ → ℕ → List ℕ
id_at ids p = take (id_length ids p % 64) (drop (p * 64 + 1) ids)

-- octet k of row p
abbrev pub id_octet : List ℕ → ℕ → ℕ → ℕ
id_octet ids k p = get_or ids (p * 64 + k) 0

-- port p has the circuit id, compared octet by octet
abbrev pub has_id : List ℕ → List ℕ → ℕ → Bool
has_id ids id p = same (id_at ids p) id

-- the first of n ports that has the circuit id; the table has 64 rows
unfoldable pub port_of : List ℕ → ℕ → List ℕ → Option ℕ
port_of ids n id = first_row (min n 64) (has_id ids id)
