use Rattle.std.proofs.Common.{ℕ, List, map, get_or, ap, ◌∙◌, arith}
use Rattle.pool.proofs.Lists.{none-wrote, wrote-more, wrote_end}
use Rattle.pool.proofs.Places.{records-mine, records-rows, turn-mine, turn-later}
use Rattle.pool.proofs.rows_of.Goals as goal

abbrev at : List ℕ → ℕ → ℕ
at channel i = get_or channel i 0

pub loop-i-init : goal.loop-i-init
loop-i-init c =
    let a = c.args in
    let e = ap (λ t. t.iter) c.into_iter-i-iterator.ensures.into_iter_gives ∙ c.take-i-items.ensures.source ∙ c.records.ensures in
    let n = ap (λ t. t.n) c.into_iter-i-iterator.ensures.into_iter_gives ∙ c.take-i-items.ensures.count in
    let none = none-wrote c.none-found.ensures in (
      records-mine a.owner.now a.p c.told-owner e,
      omega (arith, n, none.0),
      none.1,
      ap (map (at a.channel.now)) e ∙ records-rows a.owner.now a.p a.channel.now,
    )

pub bounds-channel-i : goal.bounds-channel-i
bounds-channel-i c = (turn-mine c.in-Some.ensures.steps.0 c.loop-i.invariant.0).0

pub bounds-found-found : goal.bounds-found-found
bounds-found-found c = omega (arith, c.loop-i.invariant.1, c.in-Some.ensures.steps.1)

pub loop-i-preserved : goal.loop-i-preserved
loop-i-preserved c =
    let a = c.args in
    let inv = c.loop-i.invariant in
    let s = c.in-Some.ensures.steps in
    let more = wrote-more (at a.channel.now) c.loop-i.yielded c.in-Some.i s.0 inv.2 inv.3 (omega (arith, inv.1, s.1)) in
    (turn-later s.0 inv.0, omega (arith, inv.1, s.1), more.0, more.1)

pub returns : goal.returns
returns c =
    let a = c.args in
    let inv = c.loop-i.invariant in
    let left = c.loop-i.i-iterator in
    wrote_end inv.2 _ (map (at a.channel.now) left.iter) left.n inv.3 inv.1 (λ l. ap (map (at a.channel.now)) (c.in-None.ensures.steps l).0)
