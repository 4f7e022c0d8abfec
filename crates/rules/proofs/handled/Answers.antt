use mathlib.Core.Path.{ap, ◌∙◌}
use mathlib.Core.Bool.{not}
use mathlib.Core.List.{List}
use lib.ListN.{length}
use lib.Dec.{eqb}
use Rattle.rules.specs.declared.Rule.{Rule}
use Rattle.rules.proofs.Types.{handled-by}
use Rattle.rules.proofs.handled.Goals as goal

pub returns : goal.returns
returns c = ap not (c.is_empty.ensures ∙ ap (λ (rs : List Rule). eqb (length rs) 0) c.rules_of.ensures.rules) ∙ handled-by c.args.kind
