use Rattle.pool.proofs.Places.{places_are}
use Rattle.pool.proofs.records.Goals as goal

pub returns : goal.returns
unfolding Rattle.pool.specs.Pool.records_in
returns c = places_are c.args.owner.now c.args.p 512
