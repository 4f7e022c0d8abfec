use Rattle.flows.specs.Flows.{flow_before}
use Rattle.flows.proofs.flow_before.Goals as goal

pub returns : goal.returns
unfolding flow_before
returns c = c.lt.ensures
