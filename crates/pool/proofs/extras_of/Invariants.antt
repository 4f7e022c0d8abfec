use Rattle.std.proofs.Common.{◌≡◌, ◌-◌, ◌*◌, ◌≤◌}
use Rattle.sums.specs.Sums.{sum_to}
use Rattle.pool.specs.Pool.{count_in}
use Rattle.pool.proofs.extras_of.Given as goal

abbrev pub invariant-loop-n : goal.invariant-loop-n
invariant-loop-n l = (l.e ≤ l.n-index * 512) × (l.e ≡ sum_to l.n-index (λ q. count_in l.owner q - 4))
