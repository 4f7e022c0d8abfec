use mathlib.Core.Path.{refl}
use mathlib.Core.List.{[], ◌∷◌}
use native.Mathlib.Omega.{arith}
use lib.ListN.{get_or, length-drop}
use Rattle.octets.proofs.Parts.{rest_part}
use Rattle.octets.proofs.Writing.{over_none}
use Rattle.items.specs.Items.{items_of}
use Rattle.rules.specs.Named.{missing, bares}
use Rattle.rules.proofs.Named.{none, bares-turn, bares_most}
use Rattle.rules.proofs.put_missing.Goals as goal

pub loop-r-init : goal.loop-r-init
unfolding bares missing
loop-r-init c = record { size = refl; text = over_none _ }

pub slice_bounds-put_if_missing-count : goal.slice_bounds-put_if_missing-count
slice_bounds-put_if_missing-count c = omega (arith, bares_most (items_of c.args.tlvs.now) c.args.rules.now c.loop-r.r-index, c.loop-r.invariant.size, c.requires)

pub slice_bounds-put_if_missing-start : goal.slice_bounds-put_if_missing-start
slice_bounds-put_if_missing-start c = omega (arith, bares_most (items_of c.args.tlvs.now) c.args.rules.now c.loop-r.r-index, c.loop-r.invariant.size, c.requires)

pub put_if_missing-at-requires : goal.put_if_missing-at-requires
put_if_missing-at-requires c = simp (rest_part, length-drop) (omega (arith, bares_most (items_of c.args.tlvs.now) c.args.rules.now c.loop-r.r-index, c.loop-r.invariant.size, c.requires))

pub overflow_add-at : goal.overflow_add-at
overflow_add-at c = omega (arith, c.put_if_missing-at.ensures.size, bares_most (items_of c.args.tlvs.now) (get_or c.args.rules.now c.loop-r.r-index none ∷ []) 1, bares_most (items_of c.args.tlvs.now) c.args.rules.now c.loop-r.r-index, c.loop-r.invariant.size, c.requires)

pub loop-r-preserved : goal.loop-r-preserved
loop-r-preserved c = bares-turn (items_of c.args.tlvs.now) c.args.rules.now {i = c.loop-r.r-index} c.loop-r-test.true c.loop-r.invariant c.put_if_missing-at.ensures
