use mathlib.Core.Path.{refl}
use Rattle.lists.specs.Lists.{entry_at}
use Rattle.lists.proofs.entry_at.Goals as goal

pub returns : goal.returns
unfolding entry_at
returns c = refl
