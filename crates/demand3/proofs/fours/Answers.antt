use mathlib.Core.Path.{refl}
use Rattle.demand3.proofs.Corollaries.{corollaries}
use Rattle.demand3.proofs.fours.Goals as goal

pub returns : goal.returns
returns c = (refl, corollaries)
