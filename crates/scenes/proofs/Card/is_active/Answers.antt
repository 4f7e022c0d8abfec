use mathlib.Core.Path.{refl}
use Rattle.scenes.specs.Scenes.{whole}
use Rattle.scenes.proofs.Card.is_active.Goals as goal

pub returns : goal.returns
returns c =
    let pool = c.args.self.now.core.pool in c.is_active.ensures (whole c.args.self.now.core) pool.charged pool.accounting refl refl
