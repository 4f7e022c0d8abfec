use mathlib.Core.Path.{ap}
use native.Mathlib.Omega.{arith}
use lib.ListN.{length}
use Rattle.circuits.proofs.Circuits.{id_short}
use Rattle.card.proofs.Parts.{comes_as}
use Rattle.control.proofs.Commands.{controlled-by}
use Rattle.control.proofs.Ends.{comes-controlled}
use Rattle.control.proofs.control.Goals as goal

pub run_all-n-requires : goal.run_all-n-requires
run_all-n-requires c = let q = c.requires in (q.0, omega (arith, id_short c.args.ids.now c.args.terms.at, ap length c.id_at-id.ensures), q.2, omega (arith, q.1))

pub returns : goal.returns
returns c = comes_as (comes-controlled c.run_all-n.ensures c.changed.ensures) (λ card t. controlled-by c.args.ids.now _ _ _ _ _ c.id_at-id.ensures)
