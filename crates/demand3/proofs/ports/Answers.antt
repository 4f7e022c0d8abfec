use mathlib.Core.Path.{refl}
use Rattle.demand3.proofs.Calls.{claim}
use Rattle.demand3.proofs.ports.Goals as goal

pub returns : goal.returns
returns c = (refl, claim)
