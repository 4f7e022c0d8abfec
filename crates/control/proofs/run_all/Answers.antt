use mathlib.Core.Path.{◌≡◌, refl, sym, ap, subst, ◌∙◌}
use mathlib.Core.List.{List}
use Prim.Native.Nat.{ℕ}
use native.Mathlib.Omega.{arith}
use lib.ListN.{length}
use Rattle.std.specs.Prelude.{Result, ⊤}
use Rattle.items.specs.Items.{Item, items_of, of_type}
use Rattle.items.proofs.Items.{Fit, items_fit, items_fewer}
use Rattle.reader.specs.Reader.{items_ahead}
use Rattle.pool.specs.declared.Pool.{Pool}
use Rattle.card.specs.Cards.{Card, with_pool}
use Rattle.card.specs.Outcome.{Outcome}
use Rattle.card.proofs.Ends.{ends_as}
use Rattle.commands.specs.Commands.{ran_of, ran_with, command_code}
use Rattle.commands.proofs.Runs.{runs_kept}
use Rattle.control.specs.Control.{commands_from, wrote}
use Rattle.control.proofs.Commands.{from_none, from_next, from_fail, commands_end, commands_miss, commands_hit}
use Rattle.control.proofs.Ends.{ends-written, ends_from}
use Rattle.control.proofs.run_all.Goals as goal

pub loop-t-init : goal.loop-t-init
loop-t-init c =
    let a = c.args in
    let begun : items_ahead c.into_iter-t-iterator.result ≡ items_of a.tlvs.now = ap items_ahead (c.into_iter-t-iterator.ensures.into_iter_gives ∙ c.new-t-items.ensures) in (
      omega (arith, ap length begun, items_fewer a.tlvs.now),
      subst (Fit (length a.tlvs.now)) (sym begun) (items_fit a.tlvs.now),
      refl,
      λ card t. ap (λ (is : List Item). commands_from a.channels.now a.h a.id.now a.terms.at (with_pool card a.pool.now) 1 (of_type 0x0011 is)) (sym begun),
    )

pub returns-in-Err : goal.returns-in-Err
unfolding command_code
returns-in-Err c =
    let a = c.args in
    let x = c.loop-t in
    let left : Pool = c.run_command.new.pool in
    let run : Card → List (List ℕ) → Outcome = (λ card cs. commands_from a.channels.now a.h a.id.now a.terms.at (with_pool card x.pool) x.seq cs) in
    let hit = commands_hit c.in-Some.ensures.steps c.if-t-eq-COMMAND.true in
    let failed : (c.in-Err.code ≡ 0 → ⊥) = c.run_command.ensures.fails c.in-Err.is in
    record {
      each =
          λ card t.
          let ran : ran_with card left c.in-Err.code ≡ ran_of a.channels.now (with_pool card x.pool) a.terms.at c.in-Some.t.content.now = sym (c.run_command.ensures.each card t ∙ ap (λ (r : Result ⊤ ℕ). ran_with card left (command_code r)) c.in-Err.is) in
          let same : left ≡ x.pool = runs_kept _ card _ _ x.pool left (sym ran) failed in
          ends_from x.invariant.2
          (ends-written (with_pool card x.pool) c.put_failure.ensures
          (ap (λ (y : Pool). wrote (with_pool card y) c.put_failure.result) same)
          (sym (x.invariant.3 card t ∙ ap (run card) hit ∙ from_fail _ _ _ _ _ _ _ _ ran failed)));
    }

pub loop-t-preserved-then-t-eq-COMMAND : goal.loop-t-preserved-then-t-eq-COMMAND
unfolding command_code
loop-t-preserved-then-t-eq-COMMAND c =
    let a = c.args in
    let x = c.loop-t in
    let after : Pool = c.run_command.new.pool in
    let run : Card → List (List ℕ) → Outcome = (λ card cs. commands_from a.channels.now a.h a.id.now a.terms.at (with_pool card x.pool) x.seq cs) in
    let step = c.in-Some.ensures.steps in (
      omega (arith, x.invariant.0, ap length step),
      (subst (Fit (length a.tlvs.now)) step x.invariant.1).1,
      x.invariant.2,
      λ card t.
          let ran : ran_with card after 0 ≡ ran_of a.channels.now (with_pool card x.pool) a.terms.at c.in-Some.t.content.now = sym (c.run_command.ensures.each card t ∙ ap (λ (r : Result ⊤ ℕ). ran_with card after (command_code r)) c.in_default.is) in
          x.invariant.3 card t ∙ ap (run card) (commands_hit step c.if-t-eq-COMMAND.true) ∙ from_next _ _ _ _ _ _ _ _ ran refl,
    )

pub loop-t-preserved : goal.loop-t-preserved
loop-t-preserved c =
    let a = c.args in
    let x = c.loop-t in
    let run : Card → List (List ℕ) → Outcome = (λ card cs. commands_from a.channels.now a.h a.id.now a.terms.at (with_pool card x.pool) x.seq cs) in
    let step = c.in-Some.ensures.steps in (
      omega (arith, x.invariant.0, ap length step),
      (subst (Fit (length a.tlvs.now)) step x.invariant.1).1,
      x.invariant.2,
      λ card t. x.invariant.3 card t ∙ ap (run card) (commands_miss step c.if-t-eq-COMMAND.false),
    )

pub returns : goal.returns
returns c =
    let a = c.args in
    let x = c.loop-t in
    let run : Card → List (List ℕ) → Outcome = (λ card cs. commands_from a.channels.now a.h a.id.now a.terms.at (with_pool card x.pool) x.seq cs) in
    record {
      each =
          λ card t.
          ends_as (ends_from x.invariant.2 (c.finish.ensures (with_pool card x.pool)))
          (sym (x.invariant.3 card t ∙ ap (run card) (commands_end c.in-None.ensures.steps.0) ∙ from_none _ _ _ _ _ _));
    }
