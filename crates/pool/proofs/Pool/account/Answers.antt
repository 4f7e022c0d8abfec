use mathlib.Core.Path.{sym, ◌∙◌}
use Rattle.pool.proofs.Lent.{accounting_start, accounting_hit, accounting_miss, accounting_end, accounted-none}
use borrow.Author.Rules.{rules}
use Rattle.pool.proofs.Pool.account.Goals.{then-self-at, else-self-at}
use Rattle.pool.proofs.Pool.account.Goals as goal

pub loop-at-init : goal.loop-at-init
loop-at-init c = let a = c.args in accounting_start a.self.now a.p a.k a.value (search rules) c.next_of-at.ensures

pub loop-at-preserved : goal.loop-at-preserved
loop-at-preserved c =
    let a = c.args in
    let h = c.loop-at in
    let l = c.loop-at-test.true in
    let x = c.next_of-at-in-loop-at.ensures in
    elim c.if-self-at.branch [ then-self-at w ↦ accounting_hit a.self.now a.p a.k a.value h.invariant l x w.if-self-at.true w.self-is w.found-is | else-self-at w ↦ accounting_miss a.self.now a.p a.k a.value h.invariant l x w.if-self-at.false w.self-is w.found-is ]

pub returns : goal.returns
returns c =
    let a = c.args in
    let all = accounting_end a.self.now a.p a.k a.value c.loop-at.invariant c.loop-at-test.false in
    record { is = all.0; sets = all.1; none = λ e. all.1 ∙ accounted-none a.self.now a.p a.k a.value (search rules) (sym all.0 ∙ e) }
