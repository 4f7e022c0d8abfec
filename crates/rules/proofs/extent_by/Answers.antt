use mathlib.Core.Path.{refl, sym, subst, ◌∙◌}
use mathlib.Core.Logic.{⊎_elim}
use mathlib.Core.Bool.{false}
use native.Mathlib.Omega.{arith}
use native.Mathlib.Nat.{add-sub_cancel_left}
use lib.ListN.{length-set}
use Rattle.items.specs.Items.{items_of}
use Rattle.reader.proofs.Steps.{step_end, step-broken, step_fits}
use Rattle.rules.specs.Named.{HasExtent}
use Rattle.rules.proofs.Named.{missing_on, missing_end, free-lacks, marked-lacks}
use Rattle.rules.proofs.Walk.{walk_start, walk_end, turn-free, turn_below, turn-good, turn-fault, extent_last}
use Rattle.rules.proofs.extent_by.Goals as goal
use Rattle.rules.proofs.extent_by.Goals.{else-r-via-then-r+else-not-seen-i, else-r-via-else-r}

pub loop-kind-init : goal.loop-kind-init
loop-kind-init c = (omega arith, refl, walk_start c.args.rules.now 4 (items_of c.args.tlvs.now))

pub overflow_add-e : goal.overflow_add-e
overflow_add-e c = omega (arith, step_fits _ _ c.step_at-step.ensures c.in-Tlv.is)

pub slice_bounds-is_fault-end : goal.slice_bounds-is_fault-end
slice_bounds-is_fault-end c = omega (arith, step_fits _ _ c.step_at-step.ensures c.in-Tlv.is)

pub returns-then-is_fault : goal.returns-then-is_fault
returns-then-is_fault c =
    turn-fault c.args.rules.now c.loop-kind.seen c.args.tlvs.now c.loop-kind.at c.loop-kind.invariant.2 c.step_at-step.ensures c.in-Tlv.is c.place_of.ensures c.in-Some.is
    (rw add-sub_cancel_left at c.is_fault.ensures) c.loop-kind.invariant.0 c.if-is_fault.true

pub loop-kind-smaller-else-is_fault : goal.loop-kind-smaller-else-is_fault
loop-kind-smaller-else-is_fault c = omega (arith, step_fits _ _ c.step_at-step.ensures c.in-Tlv.is)

pub loop-kind-preserved-else-is_fault : goal.loop-kind-preserved-else-is_fault
loop-kind-preserved-else-is_fault c =
    let below = turn_below c.args.rules.now c.loop-kind.seen c.args.tlvs.now c.loop-kind.at c.loop-kind.invariant.2 c.step_at-step.ensures c.in-Tlv.is c.place_of.ensures c.in-Some.is in (
      (step_fits _ _ c.step_at-step.ensures c.in-Tlv.is).1,
      length-set c.loop-kind.seen c.in-Some.j _ ∙ c.loop-kind.invariant.1,
      turn-good c.args.rules.now c.loop-kind.seen c.args.tlvs.now c.loop-kind.at c.loop-kind.invariant.2 c.step_at-step.ensures c.in-Tlv.is c.place_of.ensures c.in-Some.is
          (rw add-sub_cancel_left at c.is_fault.ensures) (omega (arith, below, c.loop-kind.invariant.1, c.requires)) c.if-is_fault.false,
    )

pub loop-kind-smaller : goal.loop-kind-smaller
loop-kind-smaller c = omega (arith, step_fits _ _ c.step_at-step.ensures c.in-Tlv.is)

pub loop-kind-preserved : goal.loop-kind-preserved
loop-kind-preserved c = (
  (step_fits _ _ c.step_at-step.ensures c.in-Tlv.is).1,
  c.loop-kind.invariant.1,
  turn-free c.args.rules.now c.loop-kind.seen c.args.tlvs.now c.loop-kind.at c.loop-kind.invariant.2 c.step_at-step.ensures c.in-Tlv.is c.place_of.ensures c.in_default.is,
)

pub returns-then-not-seen-i : goal.returns-then-not-seen-i
returns-then-not-seen-i c =
    let past = ⊎_elim (step_end _ _ c.step_at-step.ensures) (step-broken _ _ c.step_at-step.ensures) c.in-End.is in
    subst (HasExtent c.args.rules.now c.args.tlvs.now) (sym c.extent_end.ensures)
    (extent_last c.args.rules.now c.args.tlvs.now c.loop-kind.at c.loop-kind.invariant.0 _ refl past (sym (walk_end c.loop-kind.invariant.2 past) ∙ past))

pub loop-i-preserved : goal.loop-i-preserved
loop-i-preserved c =
    missing_on (items_of c.args.tlvs.now) c.args.rules.now c.loop-i.i c.loop-i-test.true c.loop-i.invariant
    (elim c.else-r.branch [
      | else-r-via-then-r+else-not-seen-i u ↦ marked-lacks c.args.rules.now (items_of c.args.tlvs.now) c.loop-i.i c.loop-kind.seen c.loop-kind.invariant.2.marked u.if-not-seen-i.false
      | else-r-via-else-r u ↦ free-lacks c.args.rules.now (items_of c.args.tlvs.now) c.loop-i.i u.if-r.false
    ])

pub returns : goal.returns
returns c =
    let past = ⊎_elim (step_end _ _ c.step_at-step.ensures) (step-broken _ _ c.step_at-step.ensures) c.in-End.is in
    extent_last c.args.rules.now c.args.tlvs.now c.loop-kind.at c.loop-kind.invariant.0 false
    (sym (missing_end (items_of c.args.tlvs.now) c.args.rules.now c.loop-i.i c.loop-i-test.false c.loop-i.invariant)) past
    (sym (walk_end c.loop-kind.invariant.2 past) ∙ past)
