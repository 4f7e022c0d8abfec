use Rattle.std.proofs.Common.{◌≡◌, get_or, cond, eqb}
use Rattle.sums.specs.Sums.{sum_by}
use Rattle.pool.specs.Pool.{holds_in}
use Rattle.pool.proofs.Places.{Left}
use Rattle.pool.proofs.is_active.Given as goal

abbrev pub invariant-loop-i : goal.invariant-loop-i
invariant-loop-i l =
    Left l.owner l.p l.i-iterator
    × (sum_by (λ i. cond (eqb (get_or l.channel i 0) l.k) 1 0) l.i-iterator ≡ holds_in l.owner l.channel l.p l.k)
