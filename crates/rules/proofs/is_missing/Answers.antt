use mathlib.Core.Path.{◌∙◌}
use Rattle.std.proofs.lemmas.Iterator.{YieldsList-from_slice}
use Rattle.std.proofs.lemmas.Iterator.Search.{any_from_yields_List}
use borrow.Author.Tests.{tests}
use borrow.Author.Rules.{rules}
use Rattle.items.specs.Items.{items_of}
use Rattle.rules.specs.declared.Rule.{Rule}
use Rattle.rules.specs.Named.{lacks}
use Rattle.rules.proofs.Named.{any-missing}
use Rattle.rules.proofs.is_missing.Goals as goal

pub returns : goal.returns
returns c =
    any_from_yields_List (λ (r : Rule). lacks r (items_of c.args.tlvs.now)) _ _ _ c.any.ensures.ran (YieldsList-from_slice c.args.rules.now cc) (λ x b q k. search (rules, tests))
    ∙ any-missing (items_of c.args.tlvs.now) c.args.rules.now
