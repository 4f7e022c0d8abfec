use Rattle.std.proofs.Common.{◌≡◌, ℕ, List, get_or, cond, eqb, sym, ap, ◌∙◌, arith}
use borrow.Author.Tests.{eq-eqb, ne_eqb, lt-ltb, le-ltb}
use Rattle.sums.specs.Sums.{sum_by}
use Rattle.pool.specs.Pool.{holds_in}
use Rattle.pool.proofs.Places.{records-mine, records-sum, turn-mine, turn-later, turn-sum, end-sum}
use Rattle.pool.proofs.is_active.Goals as goal

abbrev of_channel : List ℕ → ℕ → ℕ → ℕ
of_channel channel k i = cond (eqb (get_or channel i 0) k) 1 0

pub loop-i-init : goal.loop-i-init
loop-i-init c =
    let a = c.args in
    let e = c.into_iter-i-iterator.ensures.into_iter_gives ∙ c.records-i-items.ensures in
    let f = of_channel a.channel.now a.k in
    (records-mine a.owner.now a.p c.told-owner e, ap (sum_by f) e ∙ records-sum a.owner.now a.p f)

pub bounds-channel-i : goal.bounds-channel-i
bounds-channel-i c = (turn-mine c.in-Some.ensures.steps c.loop-i.invariant.0).0

pub returns-then-channel-i : goal.returns-then-channel-i
returns-then-channel-i c =
    let a = c.args in
    let f = of_channel a.channel.now a.k in
    let one : f c.in-Some.i ≡ 1 = simp (eq-eqb (get_or a.channel.now c.in-Some.i 0) a.k c.if-channel-i.true) in
    sym (lt-ltb 0 (holds_in a.owner.now a.channel.now a.p a.k) (omega (arith, turn-sum c.in-Some.ensures.steps f, c.loop-i.invariant.1)))

pub loop-i-preserved : goal.loop-i-preserved
loop-i-preserved c =
    let a = c.args in
    let s = c.in-Some.ensures.steps in
    let f = of_channel a.channel.now a.k in
    let none : f c.in-Some.i ≡ 0 = simp (ne_eqb (get_or a.channel.now c.in-Some.i 0) a.k c.if-channel-i.false) in
    (turn-later s c.loop-i.invariant.0, omega (arith, turn-sum s f, c.loop-i.invariant.1))

pub returns : goal.returns
returns c =
    let a = c.args in
    sym (le-ltb 0 (holds_in a.owner.now a.channel.now a.p a.k) (omega (arith, end-sum c.in-None.ensures.steps.0 (of_channel a.channel.now a.k), c.loop-i.invariant.1)))
