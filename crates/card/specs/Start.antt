-- Start (CARD.md, "Calls and their numbers": number 14). Assumes nothing: these are definitions.
use Rattle.std.specs.Prelude.{ℕ, ◌≡◌, Bool, false, cond, List, [], ◌∷◌, replicate, leb, eqb}
use Rattle.octets.specs.Tests.{every}
use Rattle.tables.specs.Tables.{tables_ok}
use Rattle.ports.specs.Ports.{fresh_port}
use Rattle.pool.specs.Pool.{fresh_pool}
use Rattle.card.specs.declared.Core.{Core}
use Rattle.card.specs.declared.Fresh.{Fresh}
use Rattle.card.specs.Cards.{Card, Areas, no_areas, card_of, core_of}

pub record Started : Type 0 where
  pub card : Card
  pub number : ℕ

-- ports begin down, delegation 0, no flows, all records free
abbrev pub fresh_core : ℕ → ℕ → ℕ → Bool → Bool → ℕ → Core
fresh_core ports channels entries white add first =
    record {
      ports = replicate 64 fresh_port;
      pool = fresh_pool;
      head = record {
        port_count = ports;
        channel_count = channels;
        entry_count = entries;
        counter = record { number = first };
        white_cac = white;
        add_cac = add;
      };
    }

-- what the areas hold at first
unfoldable pub fresh_areas : Areas
fresh_areas = no_areas

abbrev pub fresh_card : ℕ → ℕ → ℕ → Bool → Bool → ℕ → Card
fresh_card ports channels entries white add first = card_of (fresh_core ports channels entries white add first) fresh_areas

-- the first transaction number is 1 to 16,777,215
unfoldable pub first_ok : ℕ → Bool
first_ok first = every (leb 1 first ∷ leb first 16777215 ∷ [])

-- 14 gives a card of no ports, on which every call that names a port answers 7
unfoldable pub start_of : List ℕ → ℕ → List ℕ → ℕ → List ℕ → ℕ → Bool → Bool → ℕ → Started
start_of ids ports channels channel_count entries entry_count white add first =
    cond (every (tables_ok ids ports channels channel_count entries entry_count ∷ first_ok first ∷ []))
    (record { card = fresh_card ports channel_count entry_count white add first; number = 0 })
    (record { card = fresh_card 0 0 0 false false 1; number = 14 })

-- what a start gives and leaves in the areas: those of the card where it is taken, and else they are kept
pub record StartGives (s : Started) (r : Fresh) (before after : Areas) : Type 0 where
  pub number : r.number ≡ s.number
  pub core : r.core ≡ core_of s.card
  pub areas : after ≡ cond (eqb s.number 0) s.card.areas before
