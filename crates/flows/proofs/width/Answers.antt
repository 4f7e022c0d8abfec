use native.Mathlib.Omega.{arith}
use borrow.Author.Tests.{eq-eqb, ne_eqb}
use Rattle.flows.specs.Flows.{width}
use Rattle.flows.proofs.width.Goals as goal

pub returns-then-family-eq-IPV4 : goal.returns-then-family-eq-IPV4
unfolding width
returns-then-family-eq-IPV4 c = record { value = simp (eq-eqb _ _ c.if-family-eq-IPV4.true); lower_bound = omega arith }

pub returns-else-family-eq-IPV4 : goal.returns-else-family-eq-IPV4
unfolding width
returns-else-family-eq-IPV4 c = record { value = simp (ne_eqb _ _ c.if-family-eq-IPV4.false); lower_bound = omega arith }
