use Rattle.pool.specs.Pool.{fresh_pool}
use borrow.Author.Rules.{rules}
use Rattle.pool.proofs.Pool.fresh.Goals as goal

pub returns : goal.returns
unfolding fresh_pool
returns c = search rules
