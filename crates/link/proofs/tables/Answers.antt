use mathlib.Core.Path.{refl}
use Rattle.link.proofs.Link.{link}
use Rattle.link.proofs.tables.Goals as goal

pub returns : goal.returns
returns c = (refl, link)
