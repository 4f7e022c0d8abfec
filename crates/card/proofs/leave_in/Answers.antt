use native.Mathlib.Omega.{arith}
use mathlib.Core.Path.{◌≡◌, refl, sym, ◌∙◌}
use mathlib.Core.Bool.{true}
use borrow.Author.Tests.{not-true, not-false}
use Rattle.flows.specs.Flows.{good_flow}
use Rattle.card.specs.Cards.{is_port, with_pool}
use Rattle.card.proofs.Cases.{leave_7, leave_6, leave_8, leave_on, leave_10, leave_ends}
use Rattle.card.proofs.Parts.{is_here, is_up, comes-kept}
use Rattle.card.proofs.leave_in.Goals as goal

pub returns-then-not-is_port-clause-comes : goal.returns-then-not-is_port-clause-comes
returns-then-not-is_port-clause-comes c text =
    let a = c.args in
    comes-kept refl 7 c.unchanged.ensures (λ card h. leave_7 a.channels.now (with_pool card a.pool.now) a.p a.f (is_here h (sym c.is_port.ensures.test ∙ c.if-not-is_port.true)))

pub returns-then-not-terms-clause-comes : goal.returns-then-not-terms-clause-comes
returns-then-not-terms-clause-comes c text =
    let a = c.args in
    let here : is_port a.terms.head.port_count a.p ≡ true = sym c.is_port.ensures.test ∙ c.if-not-is_port.false in
    comes-kept refl 6 c.unchanged-then-not-terms.ensures (λ card h. leave_6 a.channels.now (with_pool card a.pool.now) a.p a.f (is_here h here) (is_up h (c.is_port.ensures.inside c.if-not-is_port.false) (not-true _ c.if-not-terms.true)))

pub returns-then-not-good_flow-clause-comes : goal.returns-then-not-good_flow-clause-comes
returns-then-not-good_flow-clause-comes c text =
    let a = c.args in
    let here : is_port a.terms.head.port_count a.p ≡ true = sym c.is_port.ensures.test ∙ c.if-not-is_port.false in
    comes-kept refl 8 c.unchanged-then-not-good_flow.ensures (λ card h. leave_8 a.channels.now (with_pool card a.pool.now) a.p a.f (is_here h here) (is_up h (c.is_port.ensures.inside c.if-not-is_port.false) (not-false _ c.if-not-terms.false)) (sym c.good_flow.ensures ∙ c.if-not-good_flow.true))

pub overflow_cast-p : goal.overflow_cast-p
overflow_cast-p c = omega (arith, c.is_port.ensures.inside c.if-not-is_port.false)

pub returns-then-end-clause-comes : goal.returns-then-end-clause-comes
returns-then-end-clause-comes c text =
    let a = c.args in
    let here : is_port a.terms.head.port_count a.p ≡ true = sym c.is_port.ensures.test ∙ c.if-not-is_port.false in
    let good : good_flow a.f ≡ true = sym c.good_flow.ensures ∙ c.if-not-good_flow.false in
    comes-kept c.end.ensures.ends 0 c.unchanged-then-end.ensures (λ card h. leave_ends a.channels.now (with_pool card a.pool.now) a.p a.f (sym c.end.ensures.was ∙ c.if-end.true) ∙ leave_on a.channels.now (with_pool card a.pool.now) a.p a.f (is_here h here) (is_up h (c.is_port.ensures.inside c.if-not-is_port.false) (not-false _ c.if-not-terms.false)) good)

pub returns-clause-comes : goal.returns-clause-comes
returns-clause-comes c text =
    let a = c.args in
    let here : is_port a.terms.head.port_count a.p ≡ true = sym c.is_port.ensures.test ∙ c.if-not-is_port.false in
    let good : good_flow a.f ≡ true = sym c.good_flow.ensures ∙ c.if-not-good_flow.false in
    let idle = sym c.end.ensures.was ∙ c.if-end.false in
    comes-kept (c.end.ensures.none c.if-end.false) 10 c.unchanged-2.ensures (λ card h. leave_10 a.channels.now (with_pool card a.pool.now) a.p a.f idle ∙ leave_on a.channels.now (with_pool card a.pool.now) a.p a.f (is_here h here) (is_up h (c.is_port.ensures.inside c.if-not-is_port.false) (not-false _ c.if-not-terms.false)) good)
