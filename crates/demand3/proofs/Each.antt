-- What is shown of each call, in one place: a call more is a line more in `each_call`.
--     call_way             what it comes to on any card
--     call_step            card and ledger agree after it
--     entered_other        it leaves the line of every port that it does not name
--     entered-delegation   and every delegation, unless it is set delegation, a 146, or a 147 with Result 3
--     entered-none         and the line of a number that is no port's
-- Assumes nothing.
use Rattle.std.specs.Prelude.{Some}
use Prim.Native.Nat.{ℕ, ◌≤◌, ◌<◌}
use mathlib.Core.Path.{◌≡◌, refl, ap, subst}
use mathlib.Core.Bool.{Bool, true, false, cond}
use mathlib.Core.List.{List}
use native.Mathlib.Omega.{arith}
use lib.Dec.{eqb}
use borrow.Author.Tests.{eqb-true}
use Rattle.card.specs.Cards.{Card}
use Rattle.demand3.specs.Calls.{Tables, Call, ours, outcome_of, seen, by_call}
use Rattle.demand3.specs.Calls.Call.{port_up, port_down, set_delegation, join, leave, ask, message}
use Rattle.demand3.specs.Ledger.{Ledger, entry, entered}
use Rattle.demand3.specs.Reads.{IsAbout}
use Rattle.demand3.proofs.Agree.{Agree, TablesTaken}
use Rattle.demand3.proofs.Host.{up_step, down_step, delegation_step, leave_step, ask_step}
use Rattle.demand3.proofs.Join.{join_step}
use Rattle.demand3.proofs.Messages.{message_step}
use Rattle.demand3.proofs.Ways.{Way, up_way, down_way, delegation_way, join-way, leave_way, ask-way, message_way}
use Rattle.demand3.proofs.Transfers.{at_eq}
use Rattle.demand3.proofs.Taken.{Known, up_known, down_known, delegation_known, join_known, leave_known, ask_known, named_known}
use Rattle.demand3.proofs.Frames.{NotSet, NotMoved, Frame, kept_frame, line_frame, set-frame, message_frame}

-- card and ledger agree after a call
abbrev pub Keeps : Tables → Card → Ledger → Call → Type 0
Keeps t card l x = Agree t (outcome_of t card x).card (entered t l (seen ours t card x))

pub record Each (t : Tables) (x : Call) : Type 0 where
  pub way : (card : Card) → Way t card x (outcome_of t card x)
  pub step : TablesTaken t → (card : Card) (l : Ledger) → Agree t card l → Keeps t card l x
  pub frame : TablesTaken t → (card : Card) (l : Ledger) → Agree t card l → (p : ℕ) → Frame t l x (outcome_of t card x).reply p
  pub known : (card : Card) → card.head.port_count ≡ t.ports → (p : ℕ) → IsAbout t x p → Known t card x p

module _ (t : Tables) where
  -- a call about q is one about p where these are the same
  about : (card : Card) (x : Call) {q p : ℕ} → Known t card x q → q ≡ p → Known t card x p
  about card x k e z = subst (λ (i : ℕ). i < t.ports) e (k z)

  each_call : (x : Call) → Each t x
  unfolding entry IsAbout by_call
  each_call (port_up q) =
      record {
        way = λ c. up_way t c _ q;
        step = λ k c l a. up_step t c l a q;
        frame = λ k c l a p. line_frame t l _ _ p q (ap Some) _ refl refl;
        known = λ c e p n. about c (port_up q) (up_known t c e q) (at_eq n);
      }
  each_call (port_down q) =
      record {
        way = λ c. down_way t c _ q;
        step = λ k c l a. down_step t c l a q;
        frame = λ k c l a p. line_frame t l _ _ p q (ap Some) _ refl refl;
        known = λ c e p n. about c (port_down q) (down_known t c e q) (at_eq n);
      }
  each_call (set_delegation q amount) =
      record {
        way = λ c. delegation_way t c _ q amount;
        step = λ k c l a. delegation_step t c l a q amount;
        frame = λ k c l a p. set-frame t l _ _ p q (ap Some) _ refl amount refl;
        known = λ c e p n. about c (set_delegation q amount) (delegation_known t c e q amount) (at_eq n);
      }
  each_call (join q f space) =
      record {
        way = λ c. join-way t c _ q f space refl;
        step = λ k c l a. join_step t c l a q f space;
        frame = λ k c l a p. line_frame t l _ _ p q (λ e. e) _ refl refl;
        known = λ c e p n. about c (join q f space) (join_known t c e q f space) n;
      }
  each_call (leave q f) =
      record {
        way = λ c. leave_way t c _ q f;
        step = λ k c l a. leave_step t c l a q f;
        frame = λ k c l a p. line_frame t l _ _ p q (ap Some) _ refl refl;
        known = λ c e p n. about c (leave q f) (leave_known t c e q f) (at_eq n);
      }
  each_call (ask q m n space) =
      record {
        way = λ c. ask-way t c _ q m n space refl;
        step = λ k c l a. ask_step t c l a q m n space;
        frame = λ k c l a p. kept_frame t l _ _ p refl;
        known = λ c e p s. about c (ask q m n space) (ask_known t c e q m n space) s;
      }
  each_call (message m space) =
      record {
        way = λ c. message_way t c _ m space;
        step = λ k c l a. message_step t c l a m k space;
        frame = λ k c l a p. message_frame t k p c l a m space;
        known = λ c e p n z. named_known t m p n;
      }

  pub call_way : (card : Card) (x : Call) → Way t card x (outcome_of t card x)
  call_way card x = (each_call x).way card

  module _ (taken : TablesTaken t) (card : Card) (l : Ledger) (a : Agree t card l) (x : Call) where
    pub call_step : Keeps t card l x
    call_step = (each_call x).step taken card l a

    module _ (p : ℕ) where
      frame : Frame t l x (outcome_of t card x).reply p
      frame = (each_call x).frame taken card l a p

      -- only number 0 changes the ledger
      pub entered_other : (IsAbout t x p → ⊥) → entered t l (seen ours t card x) p ≡ l p
      unfolding entered
      entered_other n = go (eqb (outcome_of t card x).number 0)
        where
          go : (b : Bool) → cond b (entry t l x (outcome_of t card x).reply) l p ≡ l p
          go true = frame.other n
          go false = refl

      pub entered-delegation : NotSet x p → NotMoved x → (entered t l (seen ours t card x) p).delegation ≡ (l p).delegation
      unfolding entered
      entered-delegation n k = go (eqb (outcome_of t card x).number 0)
        where
          go : (b : Bool) → (cond b (entry t l x (outcome_of t card x).reply) l p).delegation ≡ (l p).delegation
          go true = frame.delegation n k
          go false = refl

      -- what is taken is about a port
      pub entered-none : t.ports ≤ p → entered t l (seen ours t card x) p ≡ l p
      unfolding entered
      entered-none beyond = go (eqb (outcome_of t card x).number 0) refl
        where
          go : (b : Bool) → eqb (outcome_of t card x).number 0 ≡ b → cond b (entry t l x (outcome_of t card x).reply) l p ≡ l p
          go true z =
              frame.other
              (λ n. let port = (each_call x).known card a.ports p n (eqb-true (outcome_of t card x).number 0 z) in omega arith)
          go false z = refl
