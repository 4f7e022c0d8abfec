use Rattle.std.proofs.Common.{rules}
use Rattle.octets.specs.Tests.{every}
use Rattle.flows.specs.Flows.{good_source}
use Rattle.flows.proofs.good_source.Goals as goal

pub returns-in-0 : goal.returns-in-0
unfolding good_source every
returns-in-0 c = search rules

pub returns-then-not-zero_from : goal.returns-then-not-zero_from
unfolding good_source every
returns-then-not-zero_from c = search rules

pub returns-else-not-zero_from : goal.returns-else-not-zero_from
unfolding good_source every
returns-else-not-zero_from c = search rules

pub returns-in_default : goal.returns-in_default
unfolding good_source every
returns-in_default c = search rules
