use mathlib.Core.Path.{refl}
use Rattle.channels.specs.Channels.{rate_at}
use Rattle.channels.proofs.rate_at.Goals as goal

pub returns : goal.returns
unfolding rate_at
returns c = refl
