-- What calls do to one port's record, and to its open request.
--     Survives, calls_keep     a fact of a port's record that no change of a record ends holds after any list of calls
--     stays_closed             a request that is closed stays closed until the host asks for the port
--     down_closed              a port that is down has no open request
-- Assumes nothing.
use Prim.Native.Nat.{ℕ, ◌<◌}
use mathlib.Core.Path.{◌≡◌, refl, sym, subst, ◌∙◌}
use mathlib.Core.Bool.{Bool, true, false, cond, false≢true}
use mathlib.Core.List.{List, [], ◌∷◌}
use native.Mathlib.Omega.{arith}
use lib.ListN.{get_or}
use lib.Seq.{get_or-set_other}
use Rattle.circuits.specs.Circuits.{id_at}
use Rattle.ports.specs.declared.Port.{Port}
use Rattle.ports.specs.Ports.{fresh_port, brought_up, taken_down, closed, delegated, asked}
use Rattle.ports.specs.Transactions.{taken_from}
use Rattle.card.specs.Cards.{Card, port_at, with_port}
use Rattle.card.specs.Outcome.{Outcome}
use Rattle.joins.specs.Joins.{grey_of}
use Rattle.joins.specs.Asks.{asked_of}
use Rattle.control.specs.Control.{commands_in, controlled}
use Rattle.transfers.specs.Transfers.{transfer_gives}
use Rattle.demand3.specs.Calls.{Tables, Call, ours, outcome_of, card_after, seen, by_call}
use Rattle.demand3.specs.Calls.Call.{ask}
use Rattle.demand3.specs.Ledger.{Ledger, entered}
use Rattle.demand3.specs.Corollaries.{Asks, NoneAsks}
use Rattle.demand3.proofs.Agree.{Agree, TablesTaken, same_or_not}
use Rattle.demand3.proofs.Steps.{port_set}
use Rattle.demand3.proofs.Ways.{Way, stays, replies, rises, falls, sets, closes, reduces, asks, keeps_ports, commanded, grey}
use Rattle.demand3.proofs.Each.{call_way, call_step}
use Rattle.demand3.proofs.Counter.{commands_keep}

-- ---- a fact of a record that no change of a record ends, asking apart
pub record Survives (R : Port → Type 0) : Type 0 where
  pub rise : (y : Port) → R y → R (brought_up y)
  pub fall : (y : Port) → R y → R (taken_down y)
  pub close : (y : Port) → R y → R (closed y)
  pub give : (y : Port) (amount : ℕ) → R y → R (delegated y amount)

module _ (t : Tables) (taken : TablesTaken t) (p : ℕ) (below : p < 64) (R : Port → Type 0) (s : Survives R) where
  -- and that asking for port p by this call does not end
  abbrev Opens : Call → Type 0
  Opens x = (q required preferred space : ℕ) → x ≡ ask q required preferred space → q ≡ p → (y : Port) → y.up ≡ true → (n : ℕ) → R (asked y required preferred n)

  unfoldable AllOpen : List Call → Type 0
  AllOpen [] = Unit {0}
  AllOpen (x ∷ xs) = Opens x × AllOpen xs

  module _ (card : Card) (l : Ledger) (a : Agree t card l) (r : R (port_at card p)) where
    -- a record written, of port p or of another
    written : (q : ℕ) (y : Port) → (q ≡ p → R (port_at card q) → R y) → R (port_at (with_port card q y) p)
    written q y f =
        same_or_not p q
        (λ (e : p ≡ q). subst (λ (i : ℕ). R (port_at (with_port card q y) i)) (sym e)
        (subst R (sym (port_set t card l a q (omega arith) y)) (f (sym e) (subst (λ (i : ℕ). R (port_at card i)) e r))))
        (λ n. subst R (sym (get_or-set_other card.ports q p y fresh_port n)) r)

    way_keeps : (x : Call) → Opens x → (o : Outcome) → Way t card x o → R (port_at o.card p)
    unfolding grey_of asked_of controlled transfer_gives
    way_keeps x n o (stays k) = r
    way_keeps x n o (replies reply w) = r
    way_keeps x n o (rises q) = written q _ (λ e. s.rise (port_at card q))
    way_keeps x n o (falls q) = written q _ (λ e. s.fall (port_at card q))
    way_keeps x n o (sets q amount) = written q _ (λ e. s.give (port_at card q) amount)
    way_keeps x n o (closes q) = written q _ (λ e. s.close (port_at card q))
    way_keeps x n o (reduces h q amount) = written q _ (λ e. s.give (port_at card q) amount)
    way_keeps x n o (asks q required preferred space is has up) =
        written q _ (λ e z. n q required preferred space is e (port_at card q) up (taken_from card.head.counter).number)
    way_keeps x n o (keeps_ports card' e m) = subst (λ (ps : List Port). R (get_or ps p fresh_port)) (sym e) r
    way_keeps x n o (commanded h q w) =
        subst (λ (ps : List Port). R (get_or ps p fresh_port)) (sym (commands_keep (λ c. c.ports) (λ c pool. refl) t.channels q h (id_at t.ids q) card 1 (commands_in w))) r
    way_keeps x n o (grey q f space e) = r

    call_keeps : (x : Call) → Opens x → R (port_at (outcome_of t card x).card p)
    call_keeps x n = way_keeps x n (outcome_of t card x) (call_way t card x)

  calls_keep : (xs : List Call) → AllOpen xs → (card : Card) (l : Ledger) → Agree t card l → R (port_at card p) → R (port_at (card_after ours t card xs) p)
  unfolding AllOpen card_after
  calls_keep [] n card l a r = r
  calls_keep (x ∷ xs) n card l a r =
      calls_keep xs n.1 (outcome_of t card x).card (entered t l (seen ours t card x)) (call_step t taken card l a x) (call_keeps card l a r x n.0)

-- ---- two such facts
-- no request is open
abbrev pub Closed : Port → Type 0
Closed y = y.asking ≡ false

-- none is open on a port that is down
abbrev pub DownClosed : Port → Type 0
DownClosed y = y.up ≡ false → y.asking ≡ false

fall_closed : (b : Bool) (y z : Port) → Closed y → Closed z → Closed (cond b y z)
fall_closed true y z f g = f
fall_closed false y z f g = g

closed_survives : Survives Closed
unfolding taken_down
closed_survives =
    record {
      rise = λ y r. r;
      fall = λ y r. fall_closed y.up _ y refl r;
      close = λ y r. refl;
      give = λ y amount r. refl;
    }

down_survives : Survives DownClosed
unfolding taken_down
down_survives =
    record {
      rise = λ y r e. absurd (false≢true (sym e));
      fall = λ y r. go y y.up refl r;
      close = λ y r e. refl;
      give = λ y amount r e. refl;
    }
  where
    go : (y : Port) (b : Bool) → y.up ≡ b → DownClosed y
        → DownClosed (cond b (record { up = false; asking = false; delegation = y.delegation; required = 0; preferred = 0; transaction = 0 }) y)
    go y true e r z = refl
    go y false e r z = r e

module _ (t : Tables) (taken : TablesTaken t) (p : ℕ) (below : p < 64) where
  not_opened : (x : Call) → (Asks x p → ⊥) → Opens t taken p below Closed closed_survives x
  unfolding Asks by_call
  not_opened x n q required preferred space e same y u k = absurd (n (subst (λ (z : Call). Asks z p) (sym e) same))

  none_opened : (xs : List Call) → NoneAsks xs p → AllOpen t taken p below Closed closed_survives xs
  unfolding NoneAsks AllOpen
  none_opened [] n = tt
  none_opened (x ∷ xs) n = (not_opened x n.0, none_opened xs n.1)

  pub stays_closed : (ys : List Call) → NoneAsks ys p → (card : Card) (l : Ledger) → Agree t card l → Closed (port_at card p) → Closed (port_at (card_after ours t card ys) p)
  stays_closed ys n = calls_keep t taken p below Closed closed_survives ys (none_opened ys n)

  -- asking needs a port that is up
  up_opened : (x : Call) → Opens t taken p below DownClosed down_survives x
  up_opened x q required preferred space e same y u k d = absurd (false≢true (sym d ∙ u))

  all_opened : (xs : List Call) → AllOpen t taken p below DownClosed down_survives xs
  unfolding AllOpen
  all_opened [] = tt
  all_opened (x ∷ xs) = (up_opened x, all_opened xs)

  pub down_closed : (xs : List Call) (card : Card) (l : Ledger) → Agree t card l → DownClosed (port_at card p) → DownClosed (port_at (card_after ours t card xs) p)
  down_closed xs = calls_keep t taken p below DownClosed down_survives xs (all_opened xs)

  pub down_closes : (card : Card) (l : Ledger) → Agree t card l → DownClosed (port_at card p) → (x : Call) → DownClosed (port_at (outcome_of t card x).card p)
  down_closes card l a r x = call_keeps t taken p below DownClosed down_survives card l a r x (up_opened x)
