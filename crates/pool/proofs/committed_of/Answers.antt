use Rattle.std.proofs.Common.{◌≡◌, ℕ, List, Bool, false, true, cond, get_or, length, sym, ap, ◌∙◌, arith}
use Rattle.channels.specs.Channels.{rate_at}
use Rattle.sums.specs.Sums.{sum_by}
use Rattle.pool.proofs.Turns.{count_all}
use Rattle.pool.proofs.Places.{records-mine, records-length, records-sum, turn-mine, turn-later, turn-sum, end-sum}
use Rattle.pool.proofs.committed_of.Goals as goal

abbrev charge : List ℕ → List ℕ → List Bool → ℕ → ℕ
charge table channel charged i = cond (get_or charged i false) (rate_at table (get_or channel i 0)) 0

pub loop-i-init : goal.loop-i-init
loop-i-init c =
    let a = c.args in
    let e = c.into_iter-i-iterator.ensures.into_iter_gives ∙ c.records-i-items.ensures in
    let f = charge a.channels.now a.channel.now a.charged.now in (
      records-mine a.owner.now a.p c.told-owner e,
      omega (arith, ap length e, records-length a.owner.now a.p, count_all a.owner.now a.p),
      omega (arith, ap (sum_by f) e, records-sum a.owner.now a.p f),
    )

pub bounds-charged-i : goal.bounds-charged-i
bounds-charged-i c = (turn-mine c.in-Some.ensures.steps c.loop-i.invariant.0).0

pub overflow_add-sum : goal.overflow_add-sum
overflow_add-sum c = omega (arith, ap length c.in-Some.ensures.steps, c.from-sum.ensures)

pub loop-i-preserved-then-charged-i : goal.loop-i-preserved-then-charged-i
loop-i-preserved-then-charged-i c =
    let a = c.args in
    let s = c.in-Some.ensures.steps in
    let f = charge a.channels.now a.channel.now a.charged.now in
    let t : get_or a.charged.now c.in-Some.i false ≡ true = c.if-charged-i.true in
    let x : f c.in-Some.i ≡ c.from-sum.result = simp t (sym (c.from-sum.ensures ∙ c.rate_at.ensures)) in (
      turn-later s c.loop-i.invariant.0,
      omega (arith, ap length s, c.from-sum.ensures),
      omega (arith, turn-sum s f),
    )

pub loop-i-preserved : goal.loop-i-preserved
loop-i-preserved c =
    let a = c.args in
    let s = c.in-Some.ensures.steps in
    let f = charge a.channels.now a.channel.now a.charged.now in
    let t : get_or a.charged.now c.in-Some.i false ≡ false = c.if-charged-i.false in
    let x : f c.in-Some.i ≡ 0 = simp t in (
      turn-later s c.loop-i.invariant.0,
      omega (arith, ap length s),
      omega (arith, turn-sum s f),
    )

pub returns : goal.returns
returns c =
    let a = c.args in
    omega (arith, end-sum c.in-None.ensures.steps.0 (charge a.channels.now a.channel.now a.charged.now))
