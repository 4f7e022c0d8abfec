use Rattle.std.proofs.Common.{◌≤◌, ◌<◌, ℕ, false, ◌-◌}
use Rattle.rows.proofs.next_row.Given as goal

abbrev pub invariant-loop-i : goal.invariant-loop-i
invariant-loop-i g l = (l.from ≤ l.i) × (l.i ≤ l.rows) × ((j : ℕ) → l.from ≤ j → j < l.i → goal.F-post g l.passes j false)

abbrev pub decreases-loop-i : goal.decreases-loop-i
decreases-loop-i g l = l.rows - l.i

abbrev pub invariant-loop-row : goal.invariant-loop-row
invariant-loop-row g l = (l.from ≤ l.row) × (l.row ≤ l.rows) × ((j : ℕ) → l.from ≤ j → j < l.row → goal.F-post g l.passes j false)
