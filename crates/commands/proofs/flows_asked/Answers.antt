use borrow.Author.Tests.{eq-eqb, ne_eqb}
use Rattle.commands.specs.Directives.{flows_asked}
use Rattle.commands.proofs.flows_asked.Goals as goal

pub returns-then-code-eq3 : goal.returns-then-code-eq3
unfolding flows_asked
returns-then-code-eq3 c = rw (eq-eqb _ 3 c.if-code-eq3.true)

pub returns-else-code-eq3 : goal.returns-else-code-eq3
unfolding flows_asked
returns-else-code-eq3 c = rw (ne_eqb _ 3 c.if-code-eq3.false)
