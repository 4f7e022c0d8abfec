use Rattle.pool.proofs.Pools.{free_is}
use Rattle.pool.proofs.free_of.Goals as goal

pub returns : goal.returns
returns c = free_is c.args.owner.now c.next_of.ensures
