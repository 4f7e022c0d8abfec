use Rattle.std.proofs.Common.{◌≡◌}
use Rattle.pool.proofs.Turns.{counts_before}
use Rattle.pool.proofs.counts_of.Given as goal

abbrev pub invariant-loop-p : goal.invariant-loop-p
invariant-loop-p l = l.counts ≡ counts_before l.owner l.p-index
