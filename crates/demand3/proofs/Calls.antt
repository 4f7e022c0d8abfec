-- Demand 3 of our build: any list of calls from a start that is taken.
--     calls_agree                 card and ledger agree after a list of calls
--     lines_kept                  calls that name other ports leave a port's line
--     none_line                   a number that is no port's has its line of the start
--     demand3_at, claim           what demand 3 says, from that agreement
-- Assumes nothing.
use Prim.Native.Nat.{ℕ, ◌≤◌}
use mathlib.Core.Path.{◌≡◌, refl, ◌∙◌}
use mathlib.Core.List.{List, [], ◌∷◌, ◌++◌}
use Rattle.card.specs.Cards.{Card}
use Rattle.demand3.specs.Calls.{Tables, Call, ours, outcome_of, card_after, history, seen}
use Rattle.demand3.specs.Ledger.{Ledger, entered, ledger_from, opened}
use Rattle.demand3.specs.Claim.{Demand3, Claim}
use Rattle.demand3.specs.Reads.{NoneIsAbout}
use Rattle.demand3.proofs.Agree.{Agree, TablesTaken}
use Rattle.demand3.proofs.Figures.{reads_up, reads-delegation, reads-active, reads-committed, reads_once, reads-listed, reads_bounded}
use Rattle.demand3.proofs.Lists.{lists_times, lists_count, lists_order}
use Rattle.demand3.proofs.Fresh.{agree_fresh, start-takes}
use Rattle.demand3.proofs.Join.{join-starts}
use Rattle.demand3.proofs.Taken.{ups_exactly, sets_exactly}
use Rattle.demand3.proofs.Each.{call_step, entered_other, entered-none}
use Rattle.demand3.proofs.Adds.{adds, last-add}

module _ (t : Tables) (taken : TablesTaken t) where
  pub calls_agree : (xs : List Call) (card : Card) (l : Ledger) → Agree t card l → Agree t (card_after ours t card xs) (ledger_from t l (history ours t card xs))
  unfolding card_after history ledger_from
  calls_agree [] card l a = a
  calls_agree (x ∷ xs) card l a = calls_agree xs (outcome_of t card x).card (entered t l (seen ours t card x)) (call_step t taken card l a x)

  -- calls that name other ports leave port p's line, after any list of calls
  module _ (p : ℕ) where
    none_enter : (ys : List Call) (card : Card) (l : Ledger) → Agree t card l → NoneIsAbout t ys p → ledger_from t l (history ours t card ys) p ≡ l p
    unfolding history ledger_from NoneIsAbout
    none_enter [] card l a n = refl
    none_enter (y ∷ ys) card l a n =
        none_enter ys (outcome_of t card y).card (entered t l (seen ours t card y)) (call_step t taken card l a y) n.1 ∙ entered_other t taken card l a y p n.0

    pub lines_kept : (xs ys : List Call) (card : Card) (l : Ledger) → Agree t card l → NoneIsAbout t ys p
        → ledger_from t l (history ours t card (xs ++ ys)) p ≡ ledger_from t l (history ours t card xs) p
    unfolding history ledger_from
    lines_kept [] ys card l a n = none_enter ys card l a n
    lines_kept (x ∷ xs) ys card l a n = lines_kept xs ys (outcome_of t card x).card (entered t l (seen ours t card x)) (call_step t taken card l a x) n

    -- and calls leave the line of a number that is no port's
    none_line : t.ports ≤ p → (xs : List Call) (card : Card) (l : Ledger) → Agree t card l → ledger_from t l (history ours t card xs) p ≡ l p
    unfolding history ledger_from
    none_line beyond [] card l a = refl
    none_line beyond (x ∷ xs) card l a =
        none_line beyond xs (outcome_of t card x).card (entered t l (seen ours t card x)) (call_step t taken card l a x)
        ∙ entered-none t taken card l a x p beyond

  pub demand3_at : (card : Card) (l : Ledger) → Agree t card l → ((p : ℕ) → t.ports ≤ p → l p ≡ opened p) → Demand3 ours t card l
  demand3_at card l a none =
      record {
        is_up = reads_up t card l a taken;
        delegation = reads-delegation t card l a taken;
        active = λ p f h. reads-active t card l a taken p h f;
        committed = reads-committed t card l a taken;
        once = reads_once t card l a taken;
        flows = λ p f h. lists_times t card l a taken p h f;
        count = lists_count t card l a taken;
        order = lists_order t card l a taken;
        is_listed = λ p f h held. reads-listed t card l a taken p h f held;
        no_port = none;
        bounded = reads_bounded t card l a taken;
        ups = ups_exactly t card l a taken;
        sets = λ p amount h. sets_exactly t card l a taken p h amount;
        joins = λ p f space w white large. join-starts t card l a p f space taken w white large;
        adds = adds t taken card l a;
        last-add = last-add t taken card l a;
      }

pub claim : Claim ours
claim =
    record {
      starts = start-takes;
      holds_after = λ t first e calls.
          let s = agree_fresh t first e in
          demand3_at t s.0 _ _ (calls_agree t s.0 calls _ opened s.1) (λ p beyond. none_line t s.0 p beyond calls _ opened s.1);
      others_keep = λ t first e xs ys p n.
          let s = agree_fresh t first e in
          lines_kept t s.0 p xs ys _ opened s.1 n;
    }
