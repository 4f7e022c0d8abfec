use Rattle.std.proofs.Common.{refl}
use Rattle.octets.specs.Writing.{over}
use Rattle.pool.specs.Pool.{as_rows}
use Rattle.pool.proofs.Rows.none.Goals as goal

pub returns : goal.returns
unfolding as_rows over
returns c = refl
