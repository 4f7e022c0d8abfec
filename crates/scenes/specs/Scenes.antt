-- What the programs write into the tables, and what their calls come to. Assumes nothing: these are definitions.
use Rattle.std.specs.Prelude.{ℕ, ◌≡◌, ◌+◌, List, [], ◌∷◌, ◌++◌, length, take, drop, replicate}
use Rattle.flows.specs.declared.Flow.{Flow}
use Rattle.card.specs.declared.Core.{Core}
use Rattle.card.specs.Cards.{Card, no_areas, card_of, core_of}
use Rattle.card.specs.Outcome.{Outcome}
use Rattle.demand3.specs.Calls.{Call, outcome_of}
use Rattle.calls.specs.Calls.{tables_of}
use Rattle.scenes.specs.declared.Prefix.{Prefix}
use Rattle.scenes.specs.declared.Tables.{Tables}

-- tables of no rows
abbrev pub no_rows : Tables
no_rows = record { ids = replicate 4096 0; channels = replicate 2816 0; entries = replicate 1536 0 }

-- a table with these words at a place
abbrev pub written : List ℕ → ℕ → List ℕ → List ℕ
written table at words = take at table ++ (words ++ drop (at + length words) table)

-- the table of circuit ids with one at a place: its length, and its octets
abbrev pub with_id : List ℕ → ℕ → List ℕ → List ℕ
with_id ids at id = written ids at (length id ∷ id)

-- the table of channels with one at a place: family, whether it has a source, rate, group, source
abbrev pub with_channel : List ℕ → ℕ → Flow → ℕ → List ℕ
with_channel channels at f rate =
    written (written (written channels at (f.family ∷ f.sourced ∷ rate ∷ [])) (at + 3) f.group) (at + 7) f.source

-- the table of list entries with one at a place: IPv4, list, prefix lengths, group, source
abbrev pub with_entry : List ℕ → ℕ → ℕ → Prefix → Prefix → List ℕ
with_entry entries at list g s =
    written entries at (1 ∷ list ∷ g.length ∷ s.length ∷ g.address ∷ 0 ∷ 0 ∷ 0 ∷ s.address ∷ 0 ∷ 0 ∷ 0 ∷ [])

-- the card of a core
abbrev pub whole : Core → Card
whole core = card_of core no_areas

-- what a call on a core comes to with these tables
abbrev pub comes_to : Tables → Core → Call → Outcome
comes_to t core call = outcome_of (tables_of (whole core) t.ids t.channels t.entries) (whole core) call

-- a call left this core, and gave this number
pub record Gives (o : Outcome) (after : Core) (gave : ℕ) : Type 0 where
  pub core : after ≡ core_of o.card
  pub number : gave ≡ o.number
