use native.Mathlib.Omega.{arith}
use mathlib.Core.Path.{◌≡◌, refl, sym, ap, ◌∙◌}
use mathlib.Core.Bool.{true, false}
use Prim.Native.Nat.{◌<◌}
use lib.ListN.{length}
use lib.Dec.{ltb}
use borrow.Author.Tests.{not-true, not-false, lt-ltb, le-ltb}
use Rattle.ports.specs.declared.Port.{Port}
use Rattle.ports.specs.Ports.{may_ask}
use Rattle.card.specs.Cards.{is_port, with_pool}
use Rattle.card.proofs.Parts.{is_here, is_up, port_is, comes-kept, comes_as}
use Rattle.joins.proofs.Cases.{ask_13, ask_7, ask_6, ask_12, ask_on}
use Rattle.joins.proofs.ask_in.Goals as goal

pub returns-then-reply-lt4608 : goal.returns-then-reply-lt4608
returns-then-reply-lt4608 c = λ pool. let a = c.args in comes-kept refl 13 c.unchanged.ensures (λ card h. ask_13 a.ids.now (with_pool card pool) a.p a.required a.preferred _ (lt-ltb _ _ c.if-reply-lt4608.true))

pub returns-then-not-is_port : goal.returns-then-not-is_port
returns-then-not-is_port c =
    let full : ltb (length c.args.reply.now) 4608 ≡ false = le-ltb _ _ c.if-reply-lt4608.false in λ pool. let a = c.args in comes-kept refl 7 c.unchanged-then-not-is_port.ensures (λ card h. ask_7 a.ids.now (with_pool card pool) a.p a.required a.preferred _ full (is_here h (sym c.is_port.ensures.test ∙ c.if-not-is_port.true)))

pub returns-then-not-terms : goal.returns-then-not-terms
returns-then-not-terms c =
    let full : ltb (length c.args.reply.now) 4608 ≡ false = le-ltb _ _ c.if-reply-lt4608.false in
    let inside : c.args.p < 64 = c.is_port.ensures.inside (c.if-not-is_port.false) in
    let here : is_port c.args.terms.head.port_count c.args.p ≡ true = sym c.is_port.ensures.test ∙ c.if-not-is_port.false in λ pool. let a = c.args in comes-kept refl 6 c.unchanged-then-not-terms.ensures (λ card h. ask_6 a.ids.now (with_pool card pool) a.p a.required a.preferred _ full (is_here h here) (is_up h inside (not-true _ c.if-not-terms.true)))

pub returns-then-not-may_ask : goal.returns-then-not-may_ask
returns-then-not-may_ask c =
    let full : ltb (length c.args.reply.now) 4608 ≡ false = le-ltb _ _ c.if-reply-lt4608.false in
    let inside : c.args.p < 64 = c.is_port.ensures.inside (c.if-not-is_port.false) in
    let here : is_port c.args.terms.head.port_count c.args.p ≡ true = sym c.is_port.ensures.test ∙ c.if-not-is_port.false in
    let up : c.args.terms.port.up ≡ true = not-false _ c.if-not-terms.false in λ pool. let a = c.args in comes-kept refl 12 c.unchanged-then-not-may_ask.ensures (λ card h. ask_12 a.ids.now (with_pool card pool) a.p a.required a.preferred _ full (is_here h here) (is_up h inside up) (ap (λ (y : Port). may_ask y a.required a.preferred) (port_is h inside) ∙ sym c.may_ask.ensures ∙ c.if-not-may_ask.true))

pub overflow_cast-p : goal.overflow_cast-p
overflow_cast-p c =
    let inside : c.args.p < 64 = c.is_port.ensures.inside (c.if-not-is_port.false) in omega (arith, inside)

pub open_request-requires : goal.open_request-requires
open_request-requires c =
    let inside : c.args.p < 64 = c.is_port.ensures.inside (c.if-not-is_port.false) in (omega arith, inside)

pub returns : goal.returns
returns c =
    let full : ltb (length c.args.reply.now) 4608 ≡ false = le-ltb _ _ c.if-reply-lt4608.false in
    let inside : c.args.p < 64 = c.is_port.ensures.inside (c.if-not-is_port.false) in
    let here : is_port c.args.terms.head.port_count c.args.p ≡ true = sym c.is_port.ensures.test ∙ c.if-not-is_port.false in
    let up : c.args.terms.port.up ≡ true = not-false _ c.if-not-terms.false in λ pool. let a = c.args in comes_as (c.open_request.ensures pool) (λ card h. ask_on a.ids.now (with_pool card pool) a.p a.required a.preferred _ full (is_here h here) (is_up h inside up) (ap (λ (y : Port). may_ask y a.required a.preferred) (port_is h inside) ∙ sym c.may_ask.ensures ∙ c.if-not-may_ask.false))
