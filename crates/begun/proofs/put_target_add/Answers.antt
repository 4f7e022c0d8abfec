use mathlib.Core.Path.{sym}
use native.Mathlib.Omega.{arith}
use lib.ListN.{length-drop, length-append}
use Rattle.octets.proofs.Parts.{rest_part}
use Rattle.octets.proofs.Writing.{lent-after}
use Rattle.writers.proofs.Tlvs.{length-target}
use Rattle.begun.proofs.Sizes.{sized, length-add}
use Rattle.begun.proofs.put_target_add.Goals as goal

pub slice_bounds-put_add-count : goal.slice_bounds-put_add-count
slice_bounds-put_add-count c = omega (arith, length-target c.args.id.now, c.put_target-at.ensures.size, c.requires)

pub slice_bounds-put_add-start : goal.slice_bounds-put_add-start
slice_bounds-put_add-start c = omega (arith, length-target c.args.id.now, c.put_target-at.ensures.size, c.requires)

pub put_add-n-requires : goal.put_add-n-requires
put_add-n-requires c = simp (rest_part, length-drop) (omega (arith, length-target c.args.id.now, c.put_target-at.ensures.size, c.put_target-at.auto, c.requires))

pub overflow_add-result : goal.overflow_add-result
overflow_add-result c = omega (arith, length-target c.args.id.now, c.put_target-at.ensures.size, length-add c.args.f, (sized c.args.f).most, c.put_add-n.ensures.size, c.requires)

pub returns : goal.returns
returns c = record {
  size = simp length-append (omega (arith, c.put_target-at.ensures.size, c.put_add-n.ensures.size));
  text = lent-after _ _ _ _ c.put_target-at.ensures.text (sym c.put_target-at.ensures.size) c.put_add-n.ensures.text;
}
