use Prim.Native.Nat.{◌-◌}
use mathlib.Core.Bool.{Bool, true}
use Rattle.pool.proofs.Lent.{Ending}
use Rattle.pool.proofs.Pool.end_all.Given as goal

abbrev pub invariant-loop-at : goal.invariant-loop-at
invariant-loop-at l = (found : Bool) × Ending l.initial.self l.p (λ j. true) l.at l.self found

abbrev pub decreases-loop-at : goal.decreases-loop-at
decreases-loop-at l = 512 - l.at
