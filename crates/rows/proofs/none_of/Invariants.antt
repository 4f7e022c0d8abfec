use Rattle.std.proofs.Common.{◌≡◌, ◌≤◌, ◌<◌, ℕ, true, false}
use Rattle.rows.proofs.none_of.Given as goal

abbrev pub invariant-loop-i : goal.invariant-loop-i
invariant-loop-i g l = l.none ≡ true → (j : ℕ) → l.at ≤ j → j < l.i → goal.F-post g l.passes j false
