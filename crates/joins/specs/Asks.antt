-- Ask: 13, 7, 6, 12 unless delegation < required <= preferred and none is open. Assumes nothing: these are definitions.
use Rattle.std.specs.Prelude.{ℕ, cond, List, ltb}
use Rattle.circuits.specs.Circuits.{id_at}
use Rattle.ports.specs.Ports.{asked, may_ask}
use Rattle.ports.specs.Transactions.{taken_from}
use Rattle.card.specs.Cards.{Card, has_port, port_at, with_port, with_counter}
use Rattle.card.specs.Outcome.{Outcome, keeps}
use Rattle.begun.specs.Begun.{reallocation_of}

-- the request is open, with its figures and the transaction number of the message that is written
unfoldable pub asked_of : List ℕ → Card → ℕ → ℕ → ℕ → Outcome
asked_of ids card p required preferred =
    record {
      card =
          with_counter (with_port card p (asked (port_at card p) required preferred (taken_from card.head.counter).number))
          (taken_from card.head.counter).next;
      number = 0;
      reply = reallocation_of (taken_from card.head.counter).number (id_at ids p) required preferred;
    }

unfoldable pub ask_of : List ℕ → Card → ℕ → ℕ → ℕ → ℕ → Outcome
ask_of ids card p required preferred space =
    cond (ltb space 4608) (keeps card 13)
    (cond (has_port card p)
    (cond (port_at card p).up
    (cond (may_ask (port_at card p) required preferred) (asked_of ids card p required preferred) (keeps card 12))
    (keeps card 6))
    (keeps card 7))
