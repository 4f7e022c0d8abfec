use Prim.Native.Nat.{◌-◌}
use mathlib.Core.Path.{◌≡◌}
use Rattle.rows.specs.Rows.{first_from, first_row}
use Rattle.circuits.specs.Circuits.{has_id}
use Rattle.circuits.proofs.port_among.Given as goal

abbrev pub invariant-loop-p : goal.invariant-loop-p
invariant-loop-p l = first_row l.rows (has_id l.ids l.id) ≡ first_from l.p (l.rows - l.p) (has_id l.ids l.id)
