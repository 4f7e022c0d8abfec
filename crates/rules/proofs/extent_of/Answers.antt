use mathlib.Core.Path.{subst}
use mathlib.Core.List.{List}
use Rattle.rules.specs.declared.Rule.{Rule}
use Rattle.rules.specs.Named.{HasExtent}
use Rattle.rules.proofs.extent_of.Goals as goal

pub returns : goal.returns
returns c = subst (λ (rs : List Rule). HasExtent rs c.args.tlvs.now c.extent_by.result) c.rules_of.ensures.rules c.extent_by.ensures
