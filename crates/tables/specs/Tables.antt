-- What start takes of its tables; it refuses all others with number 14 (CARD.md, "Sizes" and "Calls and their
-- numbers"). Assumes nothing: these are definitions.
use Rattle.std.specs.Prelude.{ℕ, ◌*◌, Bool, List, [], ◌∷◌, leb}
use Rattle.octets.specs.Tests.{every}
use Rattle.flows.specs.Flows.{known_family, width, good_flow}
use Rattle.rows.specs.Rows.{none_of, rows_ok}
use Rattle.channels.specs.Channels.{channel_at, rate_at, is_row}
use Rattle.circuits.specs.Circuits.{id_length, id_at, has_id}
use Rattle.lists.specs.Lists.{entry_at}
use Rattle.lists.specs.declared.Entry.{Entry}

-- a circuit id has 1 to 63 octets, and no port before p has it
unfoldable pub id_ok : List ℕ → ℕ → Bool
id_ok ids p = every (leb 1 (id_length ids p) ∷ leb (id_length ids p) 63 ∷ none_of p (has_id ids (id_at ids p)) ∷ [])

-- a channel has a rate of 1 to 10,000,000 kbit/s and a good address, and no channel before i is the same flow, whatever the rates
unfoldable pub channel_ok : List ℕ → ℕ → Bool
channel_ok t i =
    every (leb 1 (rate_at t i)
    ∷ leb (rate_at t i) 10000000
    ∷ good_flow (channel_at t i)
    ∷ none_of i (is_row t (channel_at t i))
    ∷ [])

-- lists are 1 white, 2 black, 3 grey
unfoldable pub known_list : ℕ → Bool
known_list list = every (leb 1 list ∷ leb list 3 ∷ [])

-- a prefix is no longer than an address of the family: 32 bits, or 128
unfoldable pub within_address : ℕ → ℕ → Bool
within_address family length = leb length (32 * width family)

-- a list entry's family and list are known, and its prefix lengths are within their limits.
-- Nothing else is asked: equal entries, bits beyond the prefix and groups outside the multicast ranges are taken.
unfoldable pub entry_ok : Entry → Bool
entry_ok e =
    every (known_family e.family
    ∷ known_list e.list
    ∷ within_address e.family e.group_length
    ∷ within_address e.family e.source_length
    ∷ [])

abbrev pub entry_ok_at : List ℕ → ℕ → Bool
entry_ok_at t i = entry_ok (entry_at t i)

-- up to 64 ports, 256 channels and 128 list entries; 0 of any is taken
unfoldable pub tables_ok : List ℕ → ℕ → List ℕ → ℕ → List ℕ → ℕ → Bool
tables_ok ids ports channels channel_count entries entry_count =
    every (rows_ok 64 ports (id_ok ids)
    ∷ rows_ok 256 channel_count (channel_ok channels)
    ∷ rows_ok 128 entry_count (entry_ok_at entries)
    ∷ [])
