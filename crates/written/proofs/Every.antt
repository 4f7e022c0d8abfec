-- What every call writes, on every card that calls reach. Assumes nothing.
use Prim.Native.Nat.{◌<◌}
use native.Mathlib.Omega.{arith}
use Rattle.card.specs.Cards.{Card}
use Rattle.demand3.specs.Calls.{Tables, Call, ours, outcome_of, started_of, card_after, by_call}
use Rattle.demand3.specs.Calls.Call.{port_up, port_down, set_delegation, join, leave, ask, message}
use Rattle.demand3.specs.Ledger.{Ledger, opened}
use Rattle.demand3.proofs.Agree.{Agree, TablesTaken}
use Rattle.demand3.proofs.Fresh.{agree_fresh}
use Rattle.demand3.proofs.Calls.{calls_agree}
use Rattle.demand3.proofs.Counter.{counter_range}
use Rattle.written.specs.Written.{Written}
use Rattle.written.specs.Every.{InOctets, EveryWritten}
use Rattle.written.proofs.Good.{rows-good}
use Rattle.written.proofs.Host.{up_writes, down_writes, delegation-writes, join_writes, leave_writes, ask_writes}
use Rattle.written.proofs.Messages.{message_writes}

module _ (t : Tables) (taken : TablesTaken t) (card : Card) (l : Ledger) (a : Agree t card l) (range : card.head.counter.number < 16777216) where
  call_writes : (x : Call) → InOctets x → Written t card x (outcome_of t card x).reply
  unfolding outcome_of by_call
  call_writes (port_up p) o = up_writes t card p
  call_writes (port_down p) o = down_writes t card p
  call_writes (set_delegation p amount) o = delegation-writes t card p amount
  call_writes (join p f space) o = join_writes t card p range f space
  call_writes (leave p f) o = leave_writes t card p f
  call_writes (ask p required preferred space) o = ask_writes t card p range required preferred space
  call_writes (message m space) o = message_writes t card m space o (rows-good t taken card l a)

pub every_written : EveryWritten
every_written =
    record {
      each = λ t first e calls x o.
          let s = agree_fresh t first e in
          call_writes t s.0 (card_after ours t (started_of t first).card calls) _ (calls_agree t s.0 calls _ opened s.1) (omega (arith, (counter_range t first e calls).1)) x o;
    }
