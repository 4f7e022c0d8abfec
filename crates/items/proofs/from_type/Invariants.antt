use mathlib.Core.Path.{◌≡◌}
use lib.ListN.{length}
use Rattle.items.specs.Items.{items_of, from_type}
use Rattle.items.proofs.from_type.Given as goal

abbrev pub invariant-loop-k : goal.invariant-loop-k
invariant-loop-k l = from_type l.kind (items_of l.s) ≡ from_type l.kind (items_of l.t)

abbrev pub decreases-loop-k : goal.decreases-loop-k
decreases-loop-k l = length l.t
