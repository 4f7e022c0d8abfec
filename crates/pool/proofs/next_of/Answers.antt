use native.Mathlib.Omega.{arith}
use Rattle.pool.proofs.Places.{seen_first, seen_none}
use Rattle.pool.proofs.next_of.Goals as goal

pub returns-in-Some : goal.returns-in-Some
returns-in-Some c = let a = c.args in seen_first a.owner.now a.p a.from _ c.requires c.told-owner c.in-Some.ensures.0 c.in-Some.ensures.1

pub returns-in-None : goal.returns-in-None
returns-in-None c = let a = c.args in seen_none a.owner.now a.p a.from _ c.requires c.told-owner c.in-None.ensures (omega arith)
