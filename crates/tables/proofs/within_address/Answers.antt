use mathlib.Core.Path.{ap}
use lib.Dec.{leb}
use Rattle.tables.specs.Tables.{within_address}
use Rattle.tables.proofs.within_address.Goals as goal

pub returns : goal.returns
unfolding within_address
returns c = ap (leb c.args.length) c.bits_of.ensures
