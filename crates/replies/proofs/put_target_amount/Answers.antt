use mathlib.Core.Path.{sym}
use native.Mathlib.Omega.{arith}
use lib.ListN.{length-drop}
use Rattle.octets.proofs.Parts.{rest_part}
use Rattle.octets.proofs.Writing.{lent-after}
use Rattle.writers.proofs.Tlvs.{length-target, length-allocation}
use Rattle.replies.proofs.Refusals.{length-target-amount}
use Rattle.replies.proofs.put_target_amount.Goals as goal

pub slice_bounds-put_allocation-count : goal.slice_bounds-put_allocation-count
slice_bounds-put_allocation-count c = omega (arith, length-target c.args.id.now, c.put_target-at.ensures.size, c.requires)

pub slice_bounds-put_allocation-start : goal.slice_bounds-put_allocation-start
slice_bounds-put_allocation-start c = omega (arith, length-target c.args.id.now, c.put_target-at.ensures.size, c.requires)

pub put_allocation-n-requires : goal.put_allocation-n-requires
put_allocation-n-requires c = simp (rest_part, length-drop) (omega (arith, length-target c.args.id.now, c.put_target-at.ensures.size, c.put_target-at.auto, c.requires))

pub overflow_add-result : goal.overflow_add-result
overflow_add-result c = omega (arith, length-target c.args.id.now, c.put_target-at.ensures.size, length-allocation c.args.amount, c.put_allocation-n.ensures.size, c.requires)

pub returns : goal.returns
returns c = record {
  size = omega (arith, length-target c.args.id.now, c.put_target-at.ensures.size, length-allocation c.args.amount, c.put_allocation-n.ensures.size, length-target-amount c.args.id.now c.args.amount);
  text = lent-after _ _ _ _ c.put_target-at.ensures.text (sym c.put_target-at.ensures.size) c.put_allocation-n.ensures.text;
}
