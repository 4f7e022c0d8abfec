use mathlib.Core.Path.{refl}
use mathlib.Core.Bool.{true, false}
use Rattle.pool.proofs.Lent.{ending_start, ending_hit, ending_end}
use borrow.Author.Rules.{rules}
use Rattle.pool.proofs.Pool.end_all.Goals as goal

pub loop-at-init : goal.loop-at-init
loop-at-init c = let a = c.args in (false, ending_start a.self.now a.p (λ j. true) (search rules) c.next_of-at.ensures)

pub loop-at-preserved : goal.loop-at-preserved
loop-at-preserved c =
    let a = c.args in
    (true, ending_hit a.self.now a.p (λ j. true) c.loop-at.invariant.1 c.loop-at-test.true c.next_of-at-in-loop-at.ensures refl refl refl)

pub returns : goal.returns
returns c = let a = c.args in (ending_end a.self.now a.p (λ j. true) c.loop-at.invariant.1 c.loop-at-test.false).1
