use native.Mathlib.Omega.{arith}
use mathlib.Core.Path.{◌≡◌, refl, sym, ◌∙◌}
use mathlib.Core.Bool.{true}
use borrow.Author.Tests.{le-leb, lt-leb}
use Rattle.ports.specs.declared.Change.TheVariants.{Delegated}
use Rattle.card.specs.Cards.{is_port, with_pool}
use Rattle.card.proofs.Cases.{delegation_7, delegation_11, delegation-set}
use Rattle.card.proofs.Parts.{is_here, comes-kept, comes-changed}
use Rattle.card.proofs.set_delegation_in.Goals as goal

pub returns-then-not-is_port : goal.returns-then-not-is_port
returns-then-not-is_port c text =
    let a = c.args in
    comes-kept refl 7 c.unchanged.ensures (λ card h. delegation_7 a.channels.now (with_pool card a.pool.now) a.p a.amount (is_here h (sym c.is_port.ensures.test ∙ c.if-not-is_port.true)))

pub overflow_cast-p : goal.overflow_cast-p
overflow_cast-p c = omega (arith, c.is_port.ensures.inside c.if-not-is_port.false)

pub returns-then-amount-committed : goal.returns-then-amount-committed
returns-then-amount-committed c text =
    let a = c.args in
    let here : is_port a.terms.head.port_count a.p ≡ true = sym c.is_port.ensures.test ∙ c.if-not-is_port.false in
    comes-kept refl 11 c.unchanged-then-amount-committed.ensures (λ card h. delegation_11 a.channels.now (with_pool card a.pool.now) a.p a.amount (is_here h here) (lt-leb _ a.amount (omega (arith, c.committed_of-committed.ensures))))

pub returns : goal.returns
returns c text =
    let a = c.args in
    let here : is_port a.terms.head.port_count a.p ≡ true = sym c.is_port.ensures.test ∙ c.if-not-is_port.false in
    comes-changed refl (c.is_port.ensures.inside c.if-not-is_port.false) (Delegated a.amount) c.changed.ensures (λ card h. delegation-set a.channels.now (with_pool card a.pool.now) a.p a.amount (is_here h here) (le-leb _ a.amount (omega (arith, c.committed_of-committed.ensures))))
