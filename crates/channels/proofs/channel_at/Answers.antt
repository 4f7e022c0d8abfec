use mathlib.Core.Path.{refl}
use Rattle.channels.specs.Channels.{channel_at}
use Rattle.channels.proofs.channel_at.Goals as goal

pub returns : goal.returns
unfolding channel_at
returns c = refl
