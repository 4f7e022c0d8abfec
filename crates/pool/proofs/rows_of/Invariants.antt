use Rattle.std.proofs.Common.{◌≡◌, ◌+◌, ◌++◌, map, get_or}
use Rattle.octets.specs.Writing.{Wrote}
use Rattle.pool.specs.Pool.{rows_in}
use Rattle.pool.proofs.Lists.{zeros}
use Rattle.pool.proofs.Places.{Left}
use Rattle.pool.proofs.rows_of.Given as goal

abbrev pub invariant-loop-i : goal.invariant-loop-i
invariant-loop-i l =
    Left l.owner l.p l.i-iterator.iter × (l.found.count + l.i-iterator.n ≡ 16)
    × Wrote (map (λ i. get_or l.channel i 0) l.yielded) l.found.count zeros l.found.rows
    × (map (λ i. get_or l.channel i 0) l.yielded ++ map (λ i. get_or l.channel i 0) l.i-iterator.iter ≡ rows_in l.owner l.channel l.p)
