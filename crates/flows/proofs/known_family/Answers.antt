use borrow.Author.Tests.{eq-eqb, ne_eqb}
use Rattle.flows.specs.Flows.{known_family}
use Rattle.flows.proofs.known_family.Goals as goal

pub returns-then-family-eq-IPV4 : goal.returns-then-family-eq-IPV4
unfolding known_family
returns-then-family-eq-IPV4 c = simp (eq-eqb _ _ c.if-family-eq-IPV4.true)

pub returns-else-family-eq-IPV4 : goal.returns-else-family-eq-IPV4
unfolding known_family
returns-else-family-eq-IPV4 c = simp (ne_eqb _ _ c.if-family-eq-IPV4.false)
