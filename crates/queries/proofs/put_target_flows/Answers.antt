use mathlib.Core.Path.{sym}
use native.Mathlib.Omega.{arith}
use lib.ListN.{length-drop, length-append}
use Rattle.octets.proofs.Parts.{rest_part}
use Rattle.octets.proofs.Writing.{lent-after}
use Rattle.writers.proofs.Tlvs.{length-target}
use Rattle.queries.proofs.Answers.{flows_size}
use borrow.Author.Rules.{rules}
use Rattle.queries.proofs.put_target_flows.Goals as goal

pub slice_bounds-put_flows-count : goal.slice_bounds-put_flows-count
slice_bounds-put_flows-count c = omega (arith, length-target c.args.id.now, c.put_target-at.ensures.size, c.requires)

pub slice_bounds-put_flows-start : goal.slice_bounds-put_flows-start
slice_bounds-put_flows-start c = omega (arith, length-target c.args.id.now, c.put_target-at.ensures.size, c.requires)

pub put_flows-n-requires : goal.put_flows-n-requires
put_flows-n-requires c = (simp (rest_part, length-drop) (omega (arith, length-target c.args.id.now, c.put_target-at.ensures.size, c.requires, c.put_target-at.auto)), search rules)

pub overflow_add-result : goal.overflow_add-result
overflow_add-result c = omega (arith, length-target c.args.id.now, c.put_target-at.ensures.size, c.requires, c.put_flows-n.ensures.size, flows_size c.args.channels.now c.args.ks.now)

pub returns : goal.returns
returns c = record {
  size = simp length-append (omega (arith, c.put_target-at.ensures.size, c.put_flows-n.ensures.size));
  text = lent-after _ _ _ _ c.put_target-at.ensures.text (sym c.put_target-at.ensures.size) c.put_flows-n.ensures.text;
}
