use mathlib.Core.Path.{◌≡◌, refl, sym, ap, ◌∙◌}
use mathlib.Core.Bool.{false}
use Rattle.std.specs.Prelude.{Some}
use Rattle.pool.specs.Pool.{is_active}
use Rattle.card.specs.Cards.{with_pool}
use Rattle.joins.specs.Joins.{by_list}
use Rattle.joins.proofs.Cases.{row_1, row_list}
use Rattle.card.proofs.Parts.{comes-kept, comes_as}
use Rattle.joins.proofs.Parts.{decided_is}
use Rattle.joins.proofs.join_channel.Goals as goal

pub returns-then-is_active : goal.returns-then-is_active
returns-then-is_active c =
    let a = c.args in
    comes-kept refl 1 c.unchanged.ensures
    (λ card h. row_1 a.ids.now a.channels.now a.entries.now (with_pool card a.pool.now) a.p a.f a.k (sym c.is_active.ensures ∙ c.if-is_active.true))

pub join_white-requires : goal.join_white-requires
join_white-requires c = c.requires.1

pub join_grey-requires : goal.join_grey-requires
join_grey-requires c = c.requires

pub returns-in-White : goal.returns-in-White
unfolding by_list
returns-in-White c =
    let idle : is_active c.args.pool.now c.args.p c.args.k ≡ false = sym c.is_active.ensures ∙ c.if-is_active.false in
    let a = c.args in
    comes_as (c.join_white.ensures a.reply.now)
    (λ card h. row_list a.ids.now a.channels.now a.entries.now (with_pool card a.pool.now) a.p a.f a.k idle (decided_is h a.entries.now a.f c.list_decision.ensures.value) (c.in-Some.is ∙ ap Some c.in-White.is))

pub returns-in-Grey : goal.returns-in-Grey
unfolding by_list
returns-in-Grey c =
    let idle : is_active c.args.pool.now c.args.p c.args.k ≡ false = sym c.is_active.ensures ∙ c.if-is_active.false in
    let a = c.args in
    comes_as (c.join_grey.ensures a.pool.now)
    (λ card h. row_list a.ids.now a.channels.now a.entries.now (with_pool card a.pool.now) a.p a.f a.k idle (decided_is h a.entries.now a.f c.list_decision.ensures.value) (c.in-Some.is ∙ ap Some c.in-Grey.is))

pub returns-in-Black : goal.returns-in-Black
unfolding by_list
returns-in-Black c =
    let idle : is_active c.args.pool.now c.args.p c.args.k ≡ false = sym c.is_active.ensures ∙ c.if-is_active.false in
    let a = c.args in
    comes-kept refl 3 c.unchanged-in-Black.ensures
    (λ card h. row_list a.ids.now a.channels.now a.entries.now (with_pool card a.pool.now) a.p a.f a.k idle (decided_is h a.entries.now a.f c.list_decision.ensures.value) (c.in-Some.is ∙ ap Some c.in-Black.is))

pub returns-in_default : goal.returns-in_default
unfolding by_list
returns-in_default c =
    let idle : is_active c.args.pool.now c.args.p c.args.k ≡ false = sym c.is_active.ensures ∙ c.if-is_active.false in
    let a = c.args in
    comes-kept refl 3 c.unchanged-in_default.ensures
    (λ card h. row_list a.ids.now a.channels.now a.entries.now (with_pool card a.pool.now) a.p a.f a.k idle (decided_is h a.entries.now a.f c.list_decision.ensures.value) c.in_default.is)
