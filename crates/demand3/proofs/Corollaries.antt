-- What follows from demand 3, and of the calls beside it: `Corollaries`, from the claim and the laws of Frames, Quiet and Closed.
-- Assumes nothing.
use Prim.Native.Nat.{ℕ, ◌+◌, ◌≤◌, ◌<◌}
use mathlib.Core.Path.{◌≡◌, sym, ap, subst, ◌∙◌}
use mathlib.Core.Bool.{Bool, true, false}
use mathlib.Core.List.{List, ◌++◌}
use mathlib.Core.Logic.{inl}
use lib.ListN.{length}
use Rattle.flows.specs.declared.Flow.{Flow}
use Rattle.header.specs.Header.{header_in}
use Rattle.ports.specs.declared.Port.{Port}
use Rattle.card.specs.Cards.{port_at}
use Rattle.card.specs.Outcome.{Outcome}
use Rattle.demand3.specs.Calls.{Tables, Call, Build, ours, outcome_of, started_of}
use Rattle.demand3.specs.Calls.Call.{set_delegation, message}
use Rattle.demand3.specs.Ledger.{Line, Ledger, holds, opened}
use Rattle.demand3.specs.Reads.{kind_in, result_in, rate_of, NoneIsAbout}
use Rattle.demand3.specs.Claim.{charges, Starts, Wanted, Sound, Claim}
use Rattle.demand3.specs.Corollaries.{lines_by, card_from, lines_of, Fits, FirstFour, NoneUntilAsked, Moves, list_reply, Corollaries}
use Rattle.demand3.proofs.Agree.{Agree, TablesTaken}
use Rattle.demand3.proofs.Figures.{reads-delegation}
use Rattle.demand3.proofs.Lists.{lists_reply}
use Rattle.demand3.proofs.Reached.{sound_below, flows_queried}
use Rattle.demand3.proofs.Fresh.{agree_fresh, started_port}
use Rattle.demand3.proofs.Quiet.{call_quiet}
use Rattle.demand3.proofs.Each.{call_step, entered-delegation}
use Rattle.demand3.proofs.Calls.{calls_agree}
use Rattle.demand3.proofs.Requests.{DownClosed, down_closed}
use Rattle.demand3.proofs.Closed.{closed_none, host_none, portdown_none, reduction_none}
use Rattle.demand3.proofs.ListsLast.{lists_last}
use Rattle.demand3.proofs.Zero.{zero-refused}

-- with under 4 flows and a rate that fits there is room, with admission control and without
few_starts : (t : Tables) (cac : Bool) (l : Ledger) (p : ℕ) (f : Flow) → length (l p).flows < 4 → Fits t l p f → Starts t cac l p f
unfolding Starts
few_starts t true l p f few fits = (fits, inl few)
few_starts t false l p f few fits = inl few

-- ---- the first four, of a build that meets the claim
module _ (b : Build) (c : Claim b) (t : Tables) (first : ℕ) (started : (b.start t first).number ≡ 0) (xs ys : List Call) (p : ℕ) (others : NoneIsAbout t ys p) where
  line : lines_by b t first (xs ++ ys) p ≡ lines_by b t first xs p
  line = c.others_keep t first started xs ys p others

  wanted : (f : Flow) → Wanted t (lines_by b t first xs) p f → Wanted t (lines_by b t first (xs ++ ys)) p f
  wanted f w =
      record {
        port = w.port;
        is_listed = w.is_listed;
        is_up = ap (λ (x : Line). x.is_up) line ∙ w.is_up;
        idle = ap (λ (x : Line). holds f x.flows) line ∙ w.idle;
      }

  first_four : FirstFour b t first xs ys p
  first_four =
      let d = c.holds_after t first started (xs ++ ys) in
      record {
        line = line;
        join-starts = λ f space few fits w white large.
            (d.joins p f space (wanted f w) white large).0.1
            (few_starts t t.white_cac (lines_by b t first (xs ++ ys)) p f
            (subst (λ (x : Line). length x.flows < 4) (sym line) few)
            (subst (λ (x : Line). charges t x + rate_of t f ≤ x.delegation) (sym line) fits));
        add-starts = λ m space f before rest reaches few fits large.
            (d.adds m space p f before rest reaches large).1 (few_starts t t.add_cac _ p f few fits);
      }

module _ (t : Tables) (first : ℕ) (started : (started_of t first).number ≡ 0) where
  taken : TablesTaken t
  taken = (agree_fresh t first started).0

  -- card and ledger after any list of calls
  after : (xs : List Call) → Agree t (card_from t first xs) (lines_of t first xs)
  after xs = calls_agree t taken xs (started_of t first).card opened (agree_fresh t first started).1

  -- ---- requests
  down-after : (xs : List Call) (p : ℕ) → p < 64 → DownClosed (port_at (card_from t first xs) p)
  down-after xs p h =
      down_closed t taken p h xs (started_of t first).card opened (agree_fresh t first started).1
      (λ e. ap (λ (x : Port). x.asking) (started_port t first started p h))

  fresh_none : (p : ℕ) → NoneUntilAsked t (started_of t first).card p
  fresh_none p =
      closed_none t taken _ opened (agree_fresh t first started).1 p (λ h. ap (λ (x : Port). x.asking) (started_port t first started p h))

  -- ---- the delegation
  delegation-kept : (xs : List Call) (x : Call) (p : ℕ) → p < t.ports
      → ((amount : ℕ) → x ≡ set_delegation p amount → ⊥) → ((m : List ℕ) (space : ℕ) → x ≡ message m space → Moves m → ⊥)
      → ours.delegation (outcome_of t (card_from t first xs) x).card p ≡ ours.delegation (card_from t first xs) p
  delegation-kept xs x p port n k =
      let a = after xs in
      reads-delegation t _ _ (call_step t taken _ _ a x) taken p port
      ∙ entered-delegation t taken _ _ a x p n k
      ∙ sym (reads-delegation t _ _ a taken p port)

  -- ---- the list of flows
  flows_answered : (xs : List Call) (m : List ℕ) (space p : ℕ) → Sound t m 149 p → result_in m ≡ 2 → (lines_of t first xs p).is_up ≡ true → 4608 ≤ space
      → (outcome_of t (card_from t first xs) (message m space)).reply ≡ list_reply t m p (ours.flows t (card_from t first xs) p)
  unfolding outcome_of kind_in
  flows_answered xs m space p r two up k =
      let a = after xs in
      ap (λ (o : Outcome). o.reply) (flows_queried t _ _ a m p r two up space k)
      ∙ lists_reply t _ _ a taken p (sound_below t _ _ a m 149 p r).0 (header_in m) r.is_kind

pub corollaries : Corollaries
corollaries =
    record {
      first_four = first_four;
      refused = λ t card x a b. call_quiet t card x a b;
      fresh-takes-none = λ t first s p. fresh_none t first s p;
      closed-by_host = λ t first s xs p amount e. host_none t (taken t first s) _ _ (after t first s xs) p amount e;
      closed-by-down = λ t first s xs p e. portdown_none t (taken t first s) _ _ (after t first s xs) p (down-after t first s xs p) e;
      closed-by_146 = λ t first s xs m space p kind port k r. reduction_none t (taken t first s) _ _ (after t first s xs) p m kind port space k r;
      delegation-kept = λ t first s xs x p port n k. delegation-kept t first s xs x p port n k;
      flows_answered = λ t first s xs m space p r two up k. flows_answered t first s xs m space p r two up k;
      lists_last = lists_last;
      zero-refused = λ t card m space size header right zero k. zero-refused t card m size header space k zero right;
    }
