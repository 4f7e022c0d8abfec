use Rattle.std.proofs.Common.{◌≡◌, ℕ, ◌-◌, sym, ap, ◌∙◌, arith}
use Rattle.sums.specs.Sums.{sum_to}
use Rattle.sums.proofs.Sums.{sum_to-zero, sum_to-suc}
use Rattle.pool.specs.Pool.{count_in}
use Rattle.pool.proofs.Turns.{count_of_each, count_all}
use Rattle.pool.proofs.extras_of.Goals as goal

pub loop-n-init : goal.loop-n-init
loop-n-init c = (omega arith, sym (sum_to-zero (λ q. count_in c.args.owner.now q - 4)))

pub loop-n-preserved : goal.loop-n-preserved
loop-n-preserved c =
    let o = c.args.owner.now in
    let i : ℕ = c.loop-n.n-index in
    let n = count_of_each o c.counts_of-n-items.ensures i c.loop-n-test.true in
    let most = count_all o i in
    let more = sum_to-suc i (λ q. count_in o q - 4) in
    let is = c.from-e.ensures ∙ c.saturating_sub.ensures in
    (omega (arith, c.loop-n.invariant.0), omega (arith, c.loop-n.invariant.1))

pub returns : goal.returns
returns c =
    let z : c.loop-n.n-index ≡ 64 = omega arith in
    c.loop-n.invariant.1 ∙ ap (λ (n : ℕ). sum_to n (λ q. count_in c.args.owner.now q - 4)) z
