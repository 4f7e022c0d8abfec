use mathlib.Core.Path.{sym}
use native.Mathlib.Omega.{arith}
use Rattle.pool.specs.Pool.{began, Whole}
use Rattle.pool.proofs.Whole.{began-none}
use borrow.Author.Rules.{rules}
use Rattle.pool.proofs.Pool.begin.Goals as goal

pub returns-then-i-ge512 : goal.returns-then-i-ge512
returns-then-i-ge512 c =
    let a = c.args in
    let whole : Whole a.self.now = record { owner = search rules; channel = search rules; charged = search rules; accounting = search rules } in
    sym (began-none a.self.now whole a.p a.k a.c a.a (omega (arith, c.free_of-i.ensures, c.if-i-ge512.true)))

pub returns : goal.returns
unfolding began
returns c = simp (sym c.free_of-i.ensures)
