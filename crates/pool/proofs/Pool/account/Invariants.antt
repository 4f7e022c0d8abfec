use Prim.Native.Nat.{◌-◌}
use Rattle.pool.proofs.Lent.{Accounting}
use Rattle.pool.proofs.Pool.account.Given as goal

abbrev pub invariant-loop-at : goal.invariant-loop-at
invariant-loop-at l = Accounting l.initial.self l.p l.k l.value l.at l.self l.found

abbrev pub decreases-loop-at : goal.decreases-loop-at
decreases-loop-at l = 512 - l.at
