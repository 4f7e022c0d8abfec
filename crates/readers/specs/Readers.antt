-- What a host may read of a card that lies in its memory: a reader is lent the parts that it looks at. Of a number that
-- is no port's: no open request, no flow. Assumes nothing: these are definitions.
use Rattle.std.specs.Prelude.{ℕ, ◌<◌, ◌≡◌, false, true, cond, List, Option, Some, None}
use Rattle.flows.specs.declared.Flow.{Flow}
use Rattle.channels.specs.Channels.{channel_of}
use Rattle.ports.specs.declared.Port.{Port}
use Rattle.pool.specs.declared.Pool.{Pool}
use Rattle.pool.specs.declared.FlowState.{FlowState}
use Rattle.pool.specs.Pool.{no_state, state_of}
use Rattle.card.specs.Cards.{Card, has_port, port_at}
use Rattle.readers.specs.declared.Request.{Request}

-- the card has so many ports, and x is port p's record; of a number from 64 on x is any record
pub record HasRecord (card : Card) (count p : ℕ) (x : Port) : Type 0 where
  pub ports : card.head.port_count ≡ count
  pub port : p < 64 → port_at card p ≡ x

abbrev pub no_request : Request
no_request = record { asking = false; required = 0; preferred = 0; transaction = 0 }

-- a request with the figures of a port's record
abbrev pub request_for : Port → Request
request_for x =
    record { asking = true; required = x.required; preferred = x.preferred; transaction = x.transaction }

-- the open request of a port's record
unfoldable pub open_request_in : Port → Request
open_request_in x = cond x.asking (request_for x) no_request

-- the port's open request
unfoldable pub open_request_of : Card → ℕ → Request
open_request_of card p = cond (has_port card p) (open_request_in (port_at card p)) no_request

-- what the port's flow of channel k has: whether it is active, its charge, its accounting
unfoldable pub row_state_at : Card → ℕ → ℕ → FlowState
row_state_at card p k = cond (has_port card p) (state_of card.pool p k) no_state

unfoldable pub state_row : Pool → ℕ → Option ℕ → FlowState
state_row pool p None = no_state
state_row pool p (Some k) = state_of pool p k

-- what the flow has on the port
unfoldable pub flow_state_at : List ℕ → Card → ℕ → Flow → FlowState
flow_state_at channels card p f =
    cond (has_port card p) (state_row card.pool p (channel_of channels card.head.channel_count f)) no_state
