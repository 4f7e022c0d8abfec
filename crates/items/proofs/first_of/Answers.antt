use Rattle.std.proofs.Common.{rules, tests, ◌∙◌, sym, ap, nat_eq}
use Rattle.std.specs.Option.{option_map}
use Rattle.std.proofs.lemmas.Iterator.Consumers.{YieldsList-from_first}
use Rattle.std.proofs.lemmas.Iterator.Search.{find_from_yields_List}
use Rattle.items.specs.Items.{Item, items_of}
use Rattle.items.specs.Walk.{item_at, items_left}
use Rattle.items.proofs.Types.{content_of, found}
use Rattle.items.proofs.first_of.Goals as goal

pub returns-in-Some : goal.returns-in-Some
returns-in-Some c =
    let e = find_from_yields_List (λ (i : Item). nat_eq i.kind c.args.kind) c.find.new.self _ c.find.result c.find.ensures.ran (YieldsList-from_first item_at items_left _ c.of.ensures) (λ x b q k. search (rules, tests)) in
    ap (λ o. content_of (option_map item_at o)) (sym c.in-Some.is) ∙ ap content_of e ∙ found c.args.kind (items_of c.args.s.now)

pub returns-in-None : goal.returns-in-None
returns-in-None c =
    let e = find_from_yields_List (λ (i : Item). nat_eq i.kind c.args.kind) c.find.new.self _ c.find.result c.find.ensures.ran (YieldsList-from_first item_at items_left _ c.of.ensures) (λ x b q k. search (rules, tests)) in
    ap (λ o. content_of (option_map item_at o)) (sym c.in-None.is) ∙ ap content_of e ∙ found c.args.kind (items_of c.args.s.now)
