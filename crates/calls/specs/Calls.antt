-- A host's call as a call of demand 3, and the port that it is about. Assumes nothing: these are definitions.
use Rattle.std.specs.Prelude.{ℕ, ◌≡◌, cond, List, length, replicate, eqb, ltb}
use Rattle.octets.specs.Writing.{over}
use Rattle.flows.specs.declared.Flow.{Flow}
use Rattle.card.specs.declared.Returned.{Returned}
use Rattle.card.specs.Cards.{Card, Areas, core_of}
use Rattle.card.specs.Outcome.{Outcome}
use Rattle.messages.specs.Messages.{named_in}
use Rattle.demand3.specs.Calls.{Tables, Call}
use Rattle.demand3.specs.Calls.Call.{port_up, port_down, set_delegation, join, leave, ask, message}
use Rattle.calls.specs.declared.HostCall.{HostCall}

-- the three lent tables, with the counts and switches that the card keeps
abbrev pub tables_of : Card → List ℕ → List ℕ → List ℕ → Tables
tables_of card ids channels entries =
    record {
      ids = ids;
      ports = card.head.port_count;
      channels = channels;
      channel_count = card.head.channel_count;
      entries = entries;
      entry_count = card.head.entry_count;
      white_cac = card.head.white_cac;
      add_cac = card.head.add_cac;
    }

-- the flow of a call that has none
abbrev pub no_flow : Flow
no_flow = record { family = 0; sourced = 0; group = replicate 4 0; source = replicate 4 0 }

-- the host's call of number n; `space` is how many octets the lent reply buffer has
unfoldable pub hosted : ℕ → HostCall → ℕ → Call
hosted n c space =
    cond (eqb n 0) (port_up c.port)
    (cond (eqb n 1) (port_down c.port)
    (cond (eqb n 2) (set_delegation c.port c.amount)
    (cond (eqb n 3) (join c.port c.flow space)
    (cond (eqb n 4) (leave c.port c.flow)
    (ask c.port c.amount c.preferred space)))))

-- the host's calls have the numbers 0 to 5; every other number is a message
unfoldable pub call_of : HostCall → List ℕ → ℕ → Call
call_of c octets space = cond (ltb c.which 6) (hosted c.which c space) (message octets space)

-- the port whose record a call may read and change: the host's number, or that of the port which a usable message's
-- Target names
unfoldable pub port_about : List ℕ → ℕ → HostCall → List ℕ → ℕ
port_about ids count c octets = cond (ltb c.which 6) c.port (named_in ids count octets)

-- what a call on a core by value gives that came to o, and what it leaves in the areas and in the buffer that it is
-- lent
pub record CallGives (o : Outcome) (r : Returned) (areas : Areas) (before after : List ℕ) : Type 0 where
  pub core : r.core ≡ core_of o.card
  pub number : r.number ≡ o.number
  pub size : r.length ≡ length o.reply
  pub kept : areas ≡ o.card.areas
  pub text : after ≡ over o.reply before
