use mathlib.Core.Path.{refl}
use native.Mathlib.Omega.{arith}
use lib.ListN.{length-drop}
use Rattle.octets.proofs.Parts.{rest_part}
use Rattle.octets.proofs.Writing.{over_none}
use Rattle.begun.proofs.Sizes.{sized}
use Rattle.queries.specs.Queries.{flow_tlvs}
use Rattle.queries.proofs.Answers.{flows_turn, flows_most}
use Rattle.queries.proofs.put_flows.Goals as goal

pub loop-k-init : goal.loop-k-init
unfolding flow_tlvs
loop-k-init c = record { size = refl; text = over_none _ }

pub slice_bounds-put_flow-count : goal.slice_bounds-put_flow-count
slice_bounds-put_flow-count c = omega (arith, flows_most c.args.channels.now c.args.ks.now c.loop-k.k-index, c.loop-k.invariant.size)

pub slice_bounds-put_flow-start : goal.slice_bounds-put_flow-start
slice_bounds-put_flow-start c = omega (arith, flows_most c.args.channels.now c.args.ks.now c.loop-k.k-index, c.loop-k.invariant.size)

pub put_flow-at-requires : goal.put_flow-at-requires
put_flow-at-requires c = simp (rest_part, length-drop) (omega (arith, flows_most c.args.channels.now c.args.ks.now c.loop-k.k-index, c.loop-k.invariant.size))

pub overflow_add-at : goal.overflow_add-at
overflow_add-at c = omega (arith, flows_most c.args.channels.now c.args.ks.now c.loop-k.k-index, c.loop-k.invariant.size, (sized c.channel_at-f.result).most, c.put_flow-at.ensures.written.size)

pub loop-k-preserved : goal.loop-k-preserved
loop-k-preserved c =
    flows_turn c.args.channels.now c.args.ks.now c.loop-k-test.true c.loop-k.invariant c.channel_at-f.ensures c.put_flow-at.ensures.written
