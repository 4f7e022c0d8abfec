use mathlib.Core.Path.{refl}
use Rattle.scenes.specs.Scenes.{whole}
use Rattle.scenes.proofs.Card.committed.Goals as goal

pub returns : goal.returns
returns c = c.committed.ensures (whole c.args.self.now.core) c.args.self.now.core.pool.accounting refl
