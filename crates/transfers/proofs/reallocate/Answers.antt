use mathlib.Core.Path.{◌≡◌}
use mathlib.Core.Bool.{false}
use lib.Dec.{ltb}
use borrow.Author.Tests.{lt-ltb, le-ltb}
use Rattle.card.specs.Cards.{with_pool}
use Rattle.card.proofs.Parts.{record_is, comes_as}
use Rattle.transfers.proofs.Cases.{more_preferred, under_committed, gives_up}
use Rattle.transfers.proofs.reallocate.Goals as goal

pub returns-then-r : goal.returns-then-r
returns-then-r c =
    let a = c.args in
    let m = a.pool.now in
    comes_as (c.fail.ensures m)
    (λ card t. more_preferred a.ids.now a.channels.now (with_pool card m) a.h a.terms.at a.r (lt-ltb _ _ c.if-r.true))

pub returns-then-r-committed : goal.returns-then-r-committed
returns-then-r-committed c =
    let ordered : ltb c.args.r.required c.args.r.preferred ≡ false = le-ltb _ _ c.if-r.false in
    let a = c.args in
    let m = a.pool.now in
    comes_as (c.fail-then-r-committed.ensures m)
    (λ card t. under_committed a.ids.now a.channels.now (with_pool card m) a.h a.terms.at a.r ordered c.committed_of-committed.ensures c.if-r-committed.true)

pub returns : goal.returns
returns c =
    let ordered : ltb c.args.r.required c.args.r.preferred ≡ false = le-ltb _ _ c.if-r.false in
    let a = c.args in
    let m = a.pool.now in
    comes_as (c.give.ensures m)
    (λ card t. gives_up a.ids.now a.channels.now (with_pool card m) a.h a.terms.at a.r ordered c.committed_of-committed.ensures c.if-r-committed.false (record_is t) c.reduced-amount.ensures)
