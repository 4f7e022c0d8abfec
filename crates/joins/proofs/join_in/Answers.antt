use native.Mathlib.Omega.{arith}
use mathlib.Core.Path.{◌≡◌, refl, sym, ap, ◌∙◌}
use mathlib.Core.Bool.{true, false}
use Prim.Native.Nat.{◌<◌}
use lib.ListN.{length}
use lib.Dec.{ltb}
use borrow.Author.Tests.{not-true, not-false, lt-ltb, le-ltb}
use Rattle.flows.specs.Flows.{good_flow}
use Rattle.card.specs.Cards.{is_port, with_pool}
use Rattle.joins.specs.Joins.{join_row}
use Rattle.joins.proofs.Cases.{join_13, join_7, join_6, join_8, join-row}
use Rattle.card.proofs.Parts.{is_here, is_up, comes-kept, comes_as}
use Rattle.joins.proofs.Parts.{found_is}
use Rattle.joins.proofs.join_in.Goals as goal

pub returns-then-reply-lt4608 : goal.returns-then-reply-lt4608
returns-then-reply-lt4608 c =
    let a = c.args in
    comes-kept refl 13 c.unchanged.ensures
    (λ card h. join_13 a.ids.now a.channels.now a.entries.now (with_pool card a.pool.now) a.p a.f _ (lt-ltb _ _ c.if-reply-lt4608.true))

pub returns-then-not-is_port : goal.returns-then-not-is_port
returns-then-not-is_port c =
    let full : ltb (length c.args.reply.now) 4608 ≡ false = le-ltb _ _ c.if-reply-lt4608.false in
    let a = c.args in
    comes-kept refl 7 c.unchanged-then-not-is_port.ensures
    (λ card h. join_7 a.ids.now a.channels.now a.entries.now (with_pool card a.pool.now) a.p a.f _ full (is_here h (sym c.is_port.ensures.test ∙ c.if-not-is_port.true)))

pub returns-then-not-terms : goal.returns-then-not-terms
returns-then-not-terms c =
    let full : ltb (length c.args.reply.now) 4608 ≡ false = le-ltb _ _ c.if-reply-lt4608.false in
    let inside : c.args.p < 64 = c.is_port.ensures.inside (c.if-not-is_port.false) in
    let here : is_port c.args.terms.head.port_count c.args.p ≡ true = sym c.is_port.ensures.test ∙ c.if-not-is_port.false in
    let a = c.args in
    comes-kept refl 6 c.unchanged-then-not-terms.ensures
    (λ card h. join_6 a.ids.now a.channels.now a.entries.now (with_pool card a.pool.now) a.p a.f _ full (is_here h here) (is_up h inside (not-true _ c.if-not-terms.true)))

pub returns-then-not-good_flow : goal.returns-then-not-good_flow
returns-then-not-good_flow c =
    let full : ltb (length c.args.reply.now) 4608 ≡ false = le-ltb _ _ c.if-reply-lt4608.false in
    let inside : c.args.p < 64 = c.is_port.ensures.inside (c.if-not-is_port.false) in
    let here : is_port c.args.terms.head.port_count c.args.p ≡ true = sym c.is_port.ensures.test ∙ c.if-not-is_port.false in
    let up : c.args.terms.port.up ≡ true = not-false _ c.if-not-terms.false in
    let a = c.args in
    comes-kept refl 8 c.unchanged-then-not-good_flow.ensures
    (λ card h. join_8 a.ids.now a.channels.now a.entries.now (with_pool card a.pool.now) a.p a.f _ full (is_here h here) (is_up h inside up) (sym c.good_flow.ensures ∙ c.if-not-good_flow.true))

pub overflow_cast-p : goal.overflow_cast-p
overflow_cast-p c =
    let inside : c.args.p < 64 = c.is_port.ensures.inside (c.if-not-is_port.false) in omega (arith, inside)

pub join_channel-requires : goal.join_channel-requires
join_channel-requires c =
    let inside : c.args.p < 64 = c.is_port.ensures.inside (c.if-not-is_port.false) in (c.if-reply-lt4608.false, inside)

pub returns-in-None : goal.returns-in-None
unfolding join_row
returns-in-None c =
    let full : ltb (length c.args.reply.now) 4608 ≡ false = le-ltb _ _ c.if-reply-lt4608.false in
    let inside : c.args.p < 64 = c.is_port.ensures.inside (c.if-not-is_port.false) in
    let here : is_port c.args.terms.head.port_count c.args.p ≡ true = sym c.is_port.ensures.test ∙ c.if-not-is_port.false in
    let up : c.args.terms.port.up ≡ true = not-false _ c.if-not-terms.false in
    let good : good_flow c.args.f ≡ true = sym c.good_flow.ensures ∙ c.if-not-good_flow.false in
    let a = c.args in
    comes-kept refl 9 c.unchanged-in-None.ensures
    (λ card h.
    ap (join_row a.ids.now a.channels.now a.entries.now (with_pool card a.pool.now) a.p a.f) (found_is h a.channels.now a.f c.channel_of-found.ensures c.in-None.is)
    ∙ join-row a.ids.now a.channels.now a.entries.now (with_pool card a.pool.now) a.p a.f _ full (is_here h here) (is_up h inside up) good)

pub returns-in-Some : goal.returns-in-Some
returns-in-Some c =
    let full : ltb (length c.args.reply.now) 4608 ≡ false = le-ltb _ _ c.if-reply-lt4608.false in
    let inside : c.args.p < 64 = c.is_port.ensures.inside (c.if-not-is_port.false) in
    let here : is_port c.args.terms.head.port_count c.args.p ≡ true = sym c.is_port.ensures.test ∙ c.if-not-is_port.false in
    let up : c.args.terms.port.up ≡ true = not-false _ c.if-not-terms.false in
    let good : good_flow c.args.f ≡ true = sym c.good_flow.ensures ∙ c.if-not-good_flow.false in
    let a = c.args in
    comes_as c.join_channel.ensures
    (λ card h.
    ap (join_row a.ids.now a.channels.now a.entries.now (with_pool card a.pool.now) a.p a.f) (found_is h a.channels.now a.f c.channel_of-found.ensures c.in-Some.is)
    ∙ join-row a.ids.now a.channels.now a.entries.now (with_pool card a.pool.now) a.p a.f _ full (is_here h here) (is_up h inside up) good)
