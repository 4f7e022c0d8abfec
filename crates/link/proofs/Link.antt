-- What a host does with its card is the claim's list of calls.
--     same_tables       the lent tables with the counts that the card keeps are as good as the start's
--     run-card, run_saw a run, call by call
-- Assumes nothing.
use Prim.Native.Nat.{ℕ}
use mathlib.Core.Path.{◌≡◌, refl, sym, ap, subst, ◌∙◌}
use mathlib.Core.Bool.{Bool, true, false, cond}
use mathlib.Core.List.{List, [], ◌∷◌, map}
use lib.ListN.{length}
use native.Mathlib.Omega.{arith}
use Rattle.octets.specs.Tests.{every}
use Rattle.octets.specs.Writing.{over}
use Rattle.tables.specs.Tables.{tables_ok}
use Rattle.card.specs.declared.Core.{Core}
use Rattle.card.specs.Cards.{Card, card_of}
use Rattle.card.specs.Outcome.{Outcome}
use Rattle.card.specs.Start.{Started, fresh_card, fresh_areas, first_ok, start_of}
use Rattle.demand3.specs.Calls.{Tables, Call, ours, outcome_of, started_of, card_after, history}
use Rattle.demand3.specs.Calls.Call.{port_up, port_down, set_delegation, join, leave, ask, message}
use Rattle.calls.specs.Calls.{tables_of}
use Rattle.link.specs.Link.{Turn, Run, call_in, AllHave, StartTaken, Link}
use Rattle.link.specs.Link.Run.{none, more}

-- no call reads the counts and switches that the tables of demand 3 repeat: each reads those of the card
same_tables : (t : Tables) (card : Card) (x : Call) → outcome_of (tables_of card t.ids t.channels t.entries) card x ≡ outcome_of t card x
unfolding outcome_of
same_tables t card (port_up p) = refl
same_tables t card (port_down p) = refl
same_tables t card (set_delegation p amount) = refl
same_tables t card (join p f space) = refl
same_tables t card (leave p f) = refl
same_tables t card (ask p required preferred space) = refl
same_tables t card (message m space) = refl

module _ (t : Tables) where
  run-card : (card : Card) (xs : List Turn) (last : Card) → Run t card xs last → last ≡ card_after ours t card (map call_in xs)
  unfolding card_after
  run-card card [] last none = refl
  run-card card (x ∷ xs) last (more {next = next} does rest) =
      let goes : next ≡ (outcome_of t card (call_in x)).card = does.kept ∙ ap (λ (o : Outcome). o.card) (same_tables t card (call_in x)) in
      run-card next xs last rest ∙ ap (λ (c : Card). card_after ours t c (map call_in xs)) goes

  run_saw : (card : Card) (xs : List Turn) (last : Card) → Run t card xs last → AllHave xs (history ours t card (map call_in xs))
  unfolding history AllHave
  run_saw card [] last none = tt
  run_saw card (x ∷ xs) last (more {next = next} does rest) =
      let same = same_tables t card (call_in x) in
      let goes : next ≡ (outcome_of t card (call_in x)).card = does.kept ∙ ap (λ (o : Outcome). o.card) same in (
        record {
          call = refl;
          number = does.number ∙ ap (λ (o : Outcome). o.number) same;
          size = does.size ∙ ap (λ (o : Outcome). length o.reply) same;
          text = does.text ∙ ap (λ (o : Outcome). over o.reply x.before) same;
        },
        subst (λ (c : Card). AllHave xs (history ours t c (map call_in xs))) goes (run_saw next xs last rest),
      )

-- the card that a start wrote
module _ (t : Tables) (first : ℕ) where
  abbrev fresh : Card
  fresh = fresh_card t.ports t.channel_count t.entry_count t.white_cac t.add_cac first

  abbrev gives : Bool → Started
  gives b = cond b (record { card = fresh; number = 0 }) (record { card = fresh_card 0 0 0 false false 1; number = 14 })

  started-card : (number : ℕ) (core : Core) → StartTaken t first number core → card_of core fresh_areas ≡ (started_of t first).card
  unfolding started_of start_of
  started-card number core s =
      ap (λ (c : Core). card_of c fresh_areas) s.fresh
      ∙ go (every (tables_ok t.ids t.ports t.channels t.channel_count t.entries t.entry_count ∷ first_ok first ∷ []))
      (sym s.gives ∙ s.taken)
    where
      go : (b : Bool) → (gives b).number ≡ 0 → fresh ≡ (gives b).card
      go true h = refl
      go false h = absurd (omega arith)

pub link : Link
link =
    record {
      linked = λ t first number core s xs last run.
          let run-here = subst (λ (c : Card). Run t c xs last) (started-card t first number core s) run in
          record { card = run-card t _ xs last run-here; saw = run_saw t _ xs last run-here };
    }
