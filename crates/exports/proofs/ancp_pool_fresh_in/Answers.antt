use mathlib.Core.Path.{refl}
use Rattle.pool.specs.Pool.{fresh_pool}
use Rattle.exports.proofs.ancp_pool_fresh_in.Goals as goal

pub returns : goal.returns
unfolding fresh_pool
returns c = refl
