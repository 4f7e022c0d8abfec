use mathlib.Core.Bool.{and-true}
use mathlib.Core.Path.{sym, ◌∙◌}
use Rattle.octets.specs.Tests.{every}
use Rattle.flows.specs.Flows.{good_group}
use Rattle.flows.proofs.good_group.Goals as goal

pub returns-then-is_group : goal.returns-then-is_group
unfolding good_group every
returns-then-is_group c = simp (sym c.is_group.ensures ∙ c.if-is_group.true, and-true) c.in_width.ensures

pub returns-else-is_group : goal.returns-else-is_group
unfolding good_group every
returns-else-is_group c = simp (sym c.is_group.ensures ∙ c.if-is_group.false) c.if-is_group.false
