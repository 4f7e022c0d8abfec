use native.Mathlib.Omega.{arith}
use mathlib.Core.Path.{refl, sym, ◌∙◌}
use borrow.Author.Tests.{not-true, not-false}
use Rattle.ports.specs.declared.Change.TheVariants.{TakenDown}
use Rattle.card.specs.Cards.{with_pool}
use Rattle.card.proofs.Cases.{down_7, down-was, down-goes}
use Rattle.card.proofs.Parts.{is_here, is_up, comes-kept, comes-changed}
use Rattle.card.proofs.port_down_in.Goals as goal

pub returns-then-not-is_port-clause-comes : goal.returns-then-not-is_port-clause-comes
returns-then-not-is_port-clause-comes c text =
    let a = c.args in
    comes-kept refl 7 c.unchanged.ensures (λ card h. down_7 (with_pool card a.pool.now) a.p (is_here h (sym c.is_port.ensures.test ∙ c.if-not-is_port.true)))

pub returns-then-not-terms-clause-comes : goal.returns-then-not-terms-clause-comes
returns-then-not-terms-clause-comes c text =
    let a = c.args in
    comes-kept refl 0 c.unchanged-then-not-terms.ensures (λ card h. down-was (with_pool card a.pool.now) a.p (is_here h (sym c.is_port.ensures.test ∙ c.if-not-is_port.false)) (is_up h (c.is_port.ensures.inside c.if-not-is_port.false) (not-true _ c.if-not-terms.true)))

pub overflow_cast-p : goal.overflow_cast-p
overflow_cast-p c = omega (arith, c.is_port.ensures.inside c.if-not-is_port.false)

pub returns-clause-comes : goal.returns-clause-comes
returns-clause-comes c text =
    let a = c.args in
    comes-changed c.end_all.ensures (c.is_port.ensures.inside c.if-not-is_port.false) TakenDown c.changed.ensures (λ card h. down-goes (with_pool card a.pool.now) a.p (is_here h (sym c.is_port.ensures.test ∙ c.if-not-is_port.false)) (is_up h (c.is_port.ensures.inside c.if-not-is_port.false) (not-false _ c.if-not-terms.false)))
