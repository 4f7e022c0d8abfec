use Rattle.std.proofs.Common.{rules}
use Rattle.octets.specs.Tests.{every}
use Rattle.flows.specs.Flows.{good_flow}
use Rattle.flows.proofs.good_flow.Goals as goal

pub returns-then-good_group : goal.returns-then-good_group
unfolding good_flow every
returns-then-good_group c = search rules

pub returns-else-good_group : goal.returns-else-good_group
unfolding good_flow every
returns-else-good_group c = search rules
