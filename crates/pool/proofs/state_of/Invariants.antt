use Rattle.std.proofs.Common.{◌≡◌, get_or, eqb}
use Rattle.rows.specs.Rows.{first_row}
use Rattle.pool.specs.Pool.{is_held}
use Rattle.pool.proofs.Places.{Left, first_of}
use Rattle.pool.proofs.state_of.Given as goal

abbrev pub invariant-loop-i : goal.invariant-loop-i
invariant-loop-i l =
    Left l.owner l.p l.i-iterator
    × (first_row 512 (is_held l.owner l.channel l.p l.k) ≡ first_of (λ i. eqb (get_or l.channel i 0) l.k) l.i-iterator)
