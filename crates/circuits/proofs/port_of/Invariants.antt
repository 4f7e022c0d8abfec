use Prim.Native.Nat.{◌≤◌, ◌<◌, ◌-◌}
use mathlib.Core.Path.{◌≡◌}
use lib.ListN.{length}
use Rattle.rows.specs.Rows.{first_from}
use Rattle.circuits.specs.Circuits.{has_id, port_of}
use Rattle.circuits.proofs.port_of.Given as goal

abbrev pub invariant-loop-p : goal.invariant-loop-p
invariant-loop-p l = (l.from ≤ l.rows) × (0 < l.k) × (l.k ≤ length l.id) × (port_of l.ids l.n l.id ≡ first_from l.from (l.rows - l.from) (has_id l.ids l.id))

abbrev pub decreases-loop-p : goal.decreases-loop-p
decreases-loop-p l = l.rows - l.from
