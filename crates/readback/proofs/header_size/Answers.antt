use mathlib.Core.Path.{refl}
use Rattle.readback.proofs.Fields.{read_back}
use Rattle.readback.proofs.Checked.{passes}
use Rattle.readback.proofs.header_size.Goals as goal

pub returns : goal.returns
returns c = (refl, read_back, passes)
