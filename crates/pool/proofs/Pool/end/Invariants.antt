use Prim.Native.Nat.{◌-◌}
use Rattle.channels.specs.Channels.{is_row}
use Rattle.pool.proofs.Lent.{Ending}
use Rattle.pool.proofs.Pool.end.Given as goal

abbrev pub invariant-loop-i : goal.invariant-loop-i
invariant-loop-i l = Ending l.initial.self l.p (is_row l.channels l.f) l.i l.self l.found

abbrev pub decreases-loop-i : goal.decreases-loop-i
decreases-loop-i l = 512 - l.i
