-- The card as the definitions speak of it: what a host keeps in one struct (`Core`: ports, pool, head), and what stands
-- in the areas that it lends beside it. Its parts, and the card with one part changed. Assumes nothing: these are
-- definitions.
use Rattle.std.specs.Prelude.{ℕ, Bool, List, [], ◌∷◌, get_or, set, ltb}
use Rattle.octets.specs.Tests.{every}
use Rattle.ports.specs.declared.Port.{Port}
use Rattle.ports.specs.declared.Counter.{Counter}
use Rattle.ports.specs.Ports.{fresh_port}
use Rattle.pool.specs.declared.Pool.{Pool}
use Rattle.card.specs.declared.CardHead.{CardHead}
use Rattle.card.specs.declared.Core.{Core}

-- the areas: a list for each array that a host lends with every call beside the core. There is none yet
pub record Areas : Type 0 where

abbrev pub no_areas : Areas
no_areas = record {}

pub record Card : Type 0 where
  pub ports : List Port
  pub pool : Pool
  pub head : CardHead
  pub areas : Areas

-- the core of a card, and the card of a core and areas
abbrev pub core_of : Card → Core
core_of card = record { ports = card.ports; pool = card.pool; head = card.head }

abbrev pub card_of : Core → Areas → Card
card_of core areas = record { ports = core.ports; pool = core.pool; head = core.head; areas = areas }

-- p is the number of a port: below the count that start was given, of which there are at most 64
unfoldable pub is_port : ℕ → ℕ → Bool
is_port count p = every (ltb p 64 ∷ ltb p count ∷ [])

abbrev pub has_port : Card → ℕ → Bool
has_port card p = is_port card.head.port_count p

abbrev pub port_at : Card → ℕ → Port
port_at card p = get_or card.ports p fresh_port

-- no other port's record changes
abbrev pub with_port : Card → ℕ → Port → Card
with_port card p x = record { ports = set card.ports p x; pool = card.pool; head = card.head; areas = card.areas }

abbrev pub with_pool : Card → Pool → Card
with_pool card pool = record { ports = card.ports; pool = pool; head = card.head; areas = card.areas }

abbrev pub with_head : Card → CardHead → Card
with_head card head = record { ports = card.ports; pool = card.pool; head = head; areas = card.areas }

abbrev pub with_areas : Card → Areas → Card
with_areas card areas = record { ports = card.ports; pool = card.pool; head = card.head; areas = areas }

-- ---- heads

abbrev pub counted : CardHead → Counter → CardHead
counted head counter =
    record {
      port_count = head.port_count;
      channel_count = head.channel_count;
      entry_count = head.entry_count;
      counter = counter;
      white_cac = head.white_cac;
      add_cac = head.add_cac;
    }

abbrev pub with_counter : Card → Counter → Card
with_counter card counter = with_head card (counted card.head counter)
