use Rattle.std.proofs.Common.{◌≡◌, ◌+◌, ◌*◌, ◌≤◌, length, get_or, false, cond}
use Rattle.channels.specs.Channels.{rate_at}
use Rattle.sums.specs.Sums.{sum_by}
use Rattle.pool.specs.Pool.{committed_in}
use Rattle.pool.proofs.Places.{Left}
use Rattle.pool.proofs.committed_of.Given as goal

abbrev pub invariant-loop-i : goal.invariant-loop-i
invariant-loop-i l =
    Left l.owner l.p l.i-iterator × (l.sum + length l.i-iterator * 4294967295 ≤ 2199023255040)
    × (l.sum + sum_by (λ i. cond (get_or l.charged i false) (rate_at l.channels (get_or l.channel i 0)) 0) l.i-iterator ≡ committed_in l.channels l.owner l.channel l.charged l.p)
