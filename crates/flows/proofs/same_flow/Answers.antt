use mathlib.Core.Path.{◌∙◌}
use Rattle.flows.proofs.Same.{same_derived}
use Rattle.flows.proofs.same_flow.Goals as goal

pub returns : goal.returns
returns c = c.eq.ensures ∙ same_derived c.args.a c.args.b
