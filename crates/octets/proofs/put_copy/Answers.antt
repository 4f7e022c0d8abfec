use mathlib.Core.Path.{refl}
use native.Mathlib.Omega.{arith}
use lib.ListN.{length-set}
use Rattle.octets.proofs.Writing.{over-turn, over_none}
use Rattle.octets.proofs.put_copy.Goals as goal

pub loop-i-init : goal.loop-i-init
loop-i-init c = (refl, over_none _)

pub loop-i-preserved : goal.loop-i-preserved
loop-i-preserved c = (simp length-set (omega (arith, c.loop-i.invariant.0)), over-turn _ _ _ _ c.loop-i.invariant.1 refl c.loop-i-test.true c.requires)
