use Rattle.rules.specs.Named.{missing}
use mathlib.Core.Path.{◌≡◌}
use Prim.Native.Nat.{◌-◌, ◌≤◌}
use lib.ListN.{length, drop}
use Rattle.items.specs.Items.{items_of}
use Rattle.rules.proofs.Walk.{Walked}
use Rattle.rules.proofs.extent_by.Given as goal

abbrev pub invariant-loop-kind : goal.invariant-loop-kind
invariant-loop-kind l = (l.at ≤ length l.tlvs) × (length l.seen ≡ 4) × Walked l.rules l.seen (items_of l.tlvs) (items_of (drop l.at l.tlvs))

abbrev pub decreases-loop-kind : goal.decreases-loop-kind
decreases-loop-kind l = length l.tlvs - l.at

abbrev pub invariant-loop-i : goal.invariant-loop-i
invariant-loop-i l = missing l.rules (items_of l.tlvs) ≡ missing (drop l.i l.rules) (items_of l.tlvs)
