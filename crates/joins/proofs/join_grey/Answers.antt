use native.Mathlib.Omega.{arith}
use mathlib.Core.Path.{ap}
use lib.ListN.{length}
use Rattle.circuits.proofs.Circuits.{id_short}
use Rattle.joins.proofs.Written.{grey_comes}
use borrow.Author.Rules.{rules}
use Rattle.joins.proofs.join_grey.Goals as goal

pub put_admission-n-requires : goal.put_admission-n-requires
put_admission-n-requires c = (search rules, omega (arith, id_short c.args.ids.now c.args.p, ap length c.id_at.ensures))

pub returns : goal.returns
returns c = λ pool. grey_comes c.args.ids.now c.args.p c.take-taken.ensures c.id_at.ensures pool c.args.f c.put_admission-n.ensures
