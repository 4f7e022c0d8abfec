use Rattle.std.proofs.Common.{rules, tests, ◌∙◌, nat_eq}
use Rattle.std.proofs.lemmas.Iterator.Consumers.{YieldsList-from_first}
use Rattle.std.proofs.lemmas.Iterator.Search.{any_from_yields_List}
use Rattle.items.specs.Items.{Item, items_of}
use Rattle.items.specs.Walk.{item_at, items_left}
use Rattle.rules.proofs.Named.{stands_by}
use Rattle.rules.proofs.stands.Goals as goal

pub returns : goal.returns
returns c =
    any_from_yields_List (λ (i : Item). nat_eq i.kind c.args.kind) c.any.new.self _ c.any.result c.any.ensures.ran (YieldsList-from_first item_at items_left _ c.of.ensures) (λ x b q k. search (rules, tests))
    ∙ stands_by c.args.kind (items_of c.args.tlvs.now)
