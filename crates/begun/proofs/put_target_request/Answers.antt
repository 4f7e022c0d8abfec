use mathlib.Core.Path.{sym}
use native.Mathlib.Omega.{arith}
use lib.ListN.{length-drop, length-append}
use Rattle.octets.proofs.Parts.{rest_part}
use Rattle.octets.proofs.Writing.{lent-after}
use Rattle.writers.proofs.Tlvs.{length-target, length-request}
use Rattle.begun.proofs.put_target_request.Goals as goal

pub slice_bounds-put_request-count : goal.slice_bounds-put_request-count
slice_bounds-put_request-count c = omega (arith, length-target c.args.id.now, c.put_target-at.ensures.size, c.requires)

pub slice_bounds-put_request-start : goal.slice_bounds-put_request-start
slice_bounds-put_request-start c = omega (arith, length-target c.args.id.now, c.put_target-at.ensures.size, c.requires)

pub put_request-n-requires : goal.put_request-n-requires
put_request-n-requires c = simp (rest_part, length-drop) (omega (arith, length-target c.args.id.now, c.put_target-at.ensures.size, c.put_target-at.auto, c.requires))

pub overflow_add-result : goal.overflow_add-result
overflow_add-result c = omega (arith, length-target c.args.id.now, c.put_target-at.ensures.size, length-request c.args.required c.args.preferred, c.put_request-n.ensures.size, c.requires)

pub returns : goal.returns
returns c = record {
  size = simp length-append (omega (arith, c.put_target-at.ensures.size, c.put_request-n.ensures.size));
  text = lent-after _ _ _ _ c.put_target-at.ensures.text (sym c.put_target-at.ensures.size) c.put_request-n.ensures.text;
}
