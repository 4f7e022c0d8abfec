use Rattle.std.proofs.Common.{◌<◌, ℕ, true}
use Rattle.rows.proofs.rows_ok.Given as goal

abbrev pub invariant-loop-row : goal.invariant-loop-row
invariant-loop-row g l = (j : ℕ) → j < l.row → goal.F-post g l.passes j true
