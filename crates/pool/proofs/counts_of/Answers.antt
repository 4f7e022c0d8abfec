use Rattle.std.proofs.Common.{ℕ, ◌∙◌, arith}
use Rattle.pool.proofs.Turns.{count_most, counts_start, counts_at, counts_mine, counts_other, counts_end}
use Rattle.pool.proofs.counts_of.Goals as goal
use Rattle.pool.proofs.counts_of.Goals.{then-p-lt64, else-p-lt64}

pub loop-p-init : goal.loop-p-init
loop-p-init c = counts_start c.args.owner.now

pub overflow_add-counts : goal.overflow_add-counts
overflow_add-counts c =
    let o = c.args.owner.now in
    let p : ℕ = c.from-p.result in
    omega (arith, counts_at o c.loop-p.p-index c.loop-p.invariant p c.if-p-lt64.true, count_most o p c.loop-p.p-index, c.loop-p-test.true, c.told-owner)

pub loop-p-preserved : goal.loop-p-preserved
loop-p-preserved c =
    let o = c.args.owner.now in
    let i : ℕ = c.loop-p.p-index in
    elim c.if-p-lt64.branch [ then-p-lt64 w ↦ w.counts-is ∙ counts_mine o i c.loop-p.invariant c.from-p.result c.from-p.ensures w.if-p-lt64.true | else-p-lt64 w ↦ w.counts-is ∙ counts_other o i c.loop-p.invariant c.from-p.result c.from-p.ensures w.if-p-lt64.false ]

pub returns : goal.returns
returns c = counts_end c.args.owner.now c.loop-p.p-index c.loop-p.invariant (omega (arith, c.told-owner)) (omega (arith, c.told-owner, c.loop-p-test.false))
