use mathlib.Core.Path.{refl}
use Rattle.grants.proofs.Starts.{grants}
use Rattle.grants.proofs.transaction_numbers.Goals as goal

pub returns : goal.returns
returns c = (refl, grants)
