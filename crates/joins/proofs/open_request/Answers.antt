use native.Mathlib.Omega.{arith}
use mathlib.Core.Path.{ap}
use lib.ListN.{length}
use Rattle.circuits.proofs.Circuits.{id_short}
use Rattle.joins.proofs.Written.{asked-comes}
use borrow.Author.Rules.{rules}
use Rattle.joins.proofs.open_request.Goals as goal

pub put_reallocation-n-requires : goal.put_reallocation-n-requires
put_reallocation-n-requires c = (search rules, omega (arith, id_short c.args.ids.now c.args.p, ap length c.id_at.ensures))

pub returns : goal.returns
returns c = λ pool. asked-comes c.args.ids.now c.args.p c.take-taken.ensures c.id_at.ensures pool c.requires.1 c.args.required c.args.preferred c.put_reallocation-n.ensures
