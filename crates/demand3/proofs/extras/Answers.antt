use mathlib.Core.Path.{refl}
use Rattle.demand3.proofs.Builds.{worthless}
use Rattle.demand3.proofs.extras.Goals as goal

pub returns : goal.returns
returns c = (refl, worthless)
