-- Port up, port down, set delegation and leave, check by check in CARD.md's order. Assumes nothing: these are
-- definitions.
use Rattle.std.specs.Prelude.{ℕ, cond, List, leb}
use Rattle.flows.specs.declared.Flow.{Flow}
use Rattle.flows.specs.Flows.{good_flow}
use Rattle.ports.specs.Ports.{brought_up, taken_down, delegated}
use Rattle.pool.specs.Pool.{has_flow, committed_of, ended_flow, ended_all}
use Rattle.card.specs.Cards.{Card, has_port, port_at, with_port, with_pool}
use Rattle.card.specs.Outcome.{Outcome, keeps, becomes}

-- Up: 7
unfoldable pub port_up_of : Card → ℕ → Outcome
port_up_of card p = cond (has_port card p) (becomes (with_port card p (brought_up (port_at card p)))) (keeps card 7)

-- Down: 7. Port down ends its flows and closes its request; down on a down port changes nothing and returns 0
unfoldable pub port_down_of : Card → ℕ → Outcome
port_down_of card p =
    cond (has_port card p)
    (cond (port_at card p).up
    (becomes (with_pool (with_port card p (taken_down (port_at card p))) (ended_all card.pool p)))
    (keeps card 0))
    (keeps card 7)

-- Set delegation: 7, 11; it closes an open request
unfoldable pub set_delegation_of : List ℕ → Card → ℕ → ℕ → Outcome
set_delegation_of channels card p amount =
    cond (has_port card p)
    (cond (leb (committed_of channels card.pool p) amount)
    (becomes (with_port card p (delegated (port_at card p) amount)))
    (keeps card 11))
    (keeps card 7)

-- the port's flow with this address ends, whoever began it
unfoldable pub leave_flow : List ℕ → Card → ℕ → Flow → Outcome
leave_flow channels card p f =
    cond (has_flow channels card.pool p f) (becomes (with_pool card (ended_flow channels card.pool p f))) (keeps card 10)

-- Leave: 7, 6, 8, 10
unfoldable pub leave_of : List ℕ → Card → ℕ → Flow → Outcome
leave_of channels card p f =
    cond (has_port card p)
    (cond (port_at card p).up
    (cond (good_flow f)
    (leave_flow channels card p f)
    (keeps card 8))
    (keeps card 6))
    (keeps card 7)
