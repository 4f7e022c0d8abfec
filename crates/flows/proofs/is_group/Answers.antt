use borrow.Author.Tests.{eq-eqb, ne_eqb}
use Rattle.flows.specs.Flows.{is_group}
use Rattle.flows.proofs.is_group.Goals as goal

pub returns-then-family-eq-IPV4 : goal.returns-then-family-eq-IPV4
unfolding is_group
returns-then-family-eq-IPV4 c = simp (eq-eqb _ _ c.if-family-eq-IPV4.true)

pub returns : goal.returns
unfolding is_group
returns c = simp (ne_eqb _ _ c.if-family-eq-IPV4.false)
