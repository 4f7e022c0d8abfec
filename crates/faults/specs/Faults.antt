-- Why start refuses (number 14): its tests in their order, each with the place that it is about. Assumes nothing: these
-- are definitions.
use Rattle.std.specs.Prelude.{ℕ, zero, suc, ◌≡◌, Bool, true, false, cond, ◌&&◌, List, [], ◌∷◌, ◌++◌, eqb, leb, Result, Ok, Err}
use Rattle.octets.specs.Tests.{every}
use Rattle.flows.specs.Flows.{known_family, good_group, good_source}
use Rattle.rows.specs.Rows.{none_of}
use Rattle.channels.specs.Channels.{channel_at, rate_at, is_row}
use Rattle.circuits.specs.Circuits.{id_length, id_at, has_id}
use Rattle.lists.specs.Lists.{entry_at}
use Rattle.tables.specs.Tables.{known_list, within_address}
use Rattle.card.specs.Start.{first_ok}
use Rattle.faults.specs.declared.Fault.{Fault}

-- a test, and what is named where it fails
pub record Check : Type 0 where
  pub passes : Bool
  pub fault : Fault

abbrev pub fault_at : ℕ → ℕ → ℕ → Fault
fault_at table row field = record { row = row; table = table; field = field }

abbrev pub no_fault : Fault
no_fault = fault_at 0 0 0

abbrev pub check : ℕ → ℕ → ℕ → Bool → Check
check table row field b = record { passes = b; fault = fault_at table row field }

-- ---- lists of tests

unfoldable pub all_pass : List Check → Bool
all_pass [] = true
all_pass (c ∷ cs) = c.passes && all_pass cs

-- what the first test that fails names; nothing where all pass
unfoldable pub first_fault : List Check → Fault
first_fault [] = no_fault
first_fault (c ∷ cs) = cond c.passes (first_fault cs) c.fault

-- r is what the first test that fails names, and its table is 0 exactly where all pass
pub record NamesFault (cs : List Check) (r : Fault) : Type 0 where
  pub first : r ≡ first_fault cs
  pub whole : eqb r.table 0 ≡ all_pass cs

-- what a check of these tests answers: an error is what the first that fails names, and its table is not 0
abbrev pub Tested : {U : Type 0} → List Check → Result U Fault → Type 0
Tested cs (Ok u) = NamesFault cs no_fault
Tested cs (Err f) = NamesFault cs f × (eqb f.table 0 ≡ false)

-- ---- the tests of a row. Tables: 1 ports, 2 channels, 3 list entries, 4 the first number

-- field 2: the circuit id has 1 to 63 octets; field 3: no port before p has it
unfoldable pub port_checks : List ℕ → ℕ → List Check
port_checks ids p =
    check 1 p 2 (every (leb 1 (id_length ids p) ∷ leb (id_length ids p) 63 ∷ []))
    ∷ check 1 p 3 (none_of p (has_id ids (id_at ids p)))
    ∷ []

-- field 4: the rate; 5: the family; 6: the group; 7: the source; 3: no channel before i is the same flow
unfoldable pub channel_checks : List ℕ → ℕ → List Check
channel_checks t i =
    check 2 i 4 (every (leb 1 (rate_at t i) ∷ leb (rate_at t i) 10000000 ∷ []))
    ∷ check 2 i 5 (known_family (channel_at t i).family)
    ∷ check 2 i 6 (good_group (channel_at t i).family (channel_at t i).group)
    ∷ check 2 i 7 (good_source (channel_at t i).family (channel_at t i).sourced (channel_at t i).source)
    ∷ check 2 i 3 (none_of i (is_row t (channel_at t i)))
    ∷ []

-- field 5: the family; 8: the list; 9: the group's prefix length; 10: the source's
unfoldable pub entry_checks : List ℕ → ℕ → List Check
entry_checks t i =
    check 3 i 5 (known_family (entry_at t i).family)
    ∷ check 3 i 8 (known_list (entry_at t i).list)
    ∷ check 3 i 9 (within_address (entry_at t i).family (entry_at t i).group_length)
    ∷ check 3 i 10 (within_address (entry_at t i).family (entry_at t i).source_length)
    ∷ []

-- ---- the tests of a start

-- those of the n rows from i on
unfoldable pub rows_from : ℕ → ℕ → (ℕ → List Check) → List Check
rows_from i zero checks = []
rows_from i (suc n) checks = checks i ++ rows_from (suc i) n checks

-- a table of n rows: field 1: it has no more than so many; then row by row
unfoldable pub table_checks : ℕ → ℕ → ℕ → (ℕ → List Check) → List Check
table_checks table most n checks = check table 0 1 (leb n most) ∷ rows_from 0 n checks

-- ports, channels, list entries; then the first transaction number (field 11)
unfoldable pub start_checks : List ℕ → ℕ → List ℕ → ℕ → List ℕ → ℕ → ℕ → List Check
start_checks ids ports channels channel_count entries entry_count first =
    table_checks 1 64 ports (port_checks ids)
    ++ (table_checks 2 256 channel_count (channel_checks channels)
    ++ (table_checks 3 128 entry_count (entry_checks entries)
    ++ (check 4 0 11 (first_ok first) ∷ [])))
