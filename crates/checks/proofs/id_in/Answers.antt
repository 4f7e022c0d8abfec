use mathlib.Core.Path.{ap, ◌∙◌}
use Rattle.fields.specs.Fields.{circuit_id}
use Rattle.checks.specs.Table.{id_in}
use Rattle.checks.proofs.id_in.Goals as goal

pub returns : goal.returns
unfolding id_in
returns c = c.circuit_id.ensures ∙ ap circuit_id c.first_of.ensures
