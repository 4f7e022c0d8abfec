use Rattle.std.proofs.Common.{rules, tests, ◌≡◌, ◌∙◌, nat_eq, arith, inl}
use Rattle.std.proofs.lemmas.Iterator.Consumers.{count_from_yields_List, YieldsList-from_filter, YieldsList-from_first, YieldsList-at}
use Rattle.items.specs.Items.{Item, items_of, count_of}
use Rattle.items.specs.Walk.{item_at, items_left}
use Rattle.items.proofs.Items.{items_fewer}
use Rattle.items.proofs.Types.{counted}
use Rattle.items.proofs.count_of.Goals as goal

pub count-requires-clause-fits : goal.count-requires-clause-fits
count-requires-clause-fits c = inl (rw (c.filter.ensures.source, c.of.ensures) (omega (arith, items_fewer c.args.s.now)))

pub returns : goal.returns
returns c =
    let e : c.count.result ≡ count_of c.args.kind (items_of c.args.s.now) =
    count_from_yields_List c.filter.result _ c.count.ensures.ran
    (YieldsList-from_filter _ (λ (i : Item). nat_eq i.kind c.args.kind) (YieldsList-at c.filter.ensures.source (YieldsList-from_first item_at items_left _ c.of.ensures)) c.filter.ensures.closure (λ x b q k. search (rules, tests)))
    ∙ counted c.args.kind (items_of c.args.s.now) in
    omega (arith, e)
