use Rattle.std.proofs.Common.{rules}
use Rattle.flow_octets.specs.FlowOctets.{type_ok}
use Rattle.flow_octets.proofs.type_ok.Goals as goal

pub returns-in-1 : goal.returns-in-1
unfolding type_ok
returns-in-1 c = search rules

pub returns-in-2 : goal.returns-in-2
unfolding type_ok
returns-in-2 c = search rules

pub returns-in_default : goal.returns-in_default
unfolding type_ok
returns-in_default c = search rules
