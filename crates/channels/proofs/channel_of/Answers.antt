use Rattle.std.proofs.Common.{rules}
use Prim.Native.Nat.{ℕ, ◌-◌, min}
use mathlib.Core.Path.{◌≡◌, sym, ap, ◌∙◌}
use native.Mathlib.Omega.{arith}
use Rattle.flows.specs.Flows.{same_flow}
use Rattle.flows.specs.declared.Flow.{Flow}
use Rattle.rows.proofs.Rows.{first-start, first-here, first_on, first_end}
use Rattle.channels.specs.Channels.{is_row, channel_of}
use Rattle.channels.proofs.Channels.{row_skip}
use Rattle.channels.proofs.channel_of.Goals as goal

pub loop-i-init : goal.loop-i-init
unfolding channel_of
loop-i-init c =
    let a = c.args in
    let e : c.min-rows.result ≡ min a.n 256 = search rules in
    (omega arith, first-start (is_row a.channels.now a.f) e)

-- a row that is found, after others that have another word
pub returns-then-same_flow : goal.returns-then-same_flow
returns-then-same_flow c =
    let a = c.args in
    let k : ℕ = c.width.result - 1 in
    let i : ℕ = c.in-Some.i in
    let found = c.in-Some.ensures in
    let inv = row_skip a.channels.now k a.f c.loop-i.from c.min-rows.result i (omega arith) c.loop-i.invariant.1 found.0 (omega (arith, found.1)) (λ m l h. let e = found.3 m l h in search rules) in
    first-here (is_row a.channels.now a.f) i c.min-rows.result inv found.1 ((ap (λ (g : Flow). same_flow g a.f) (sym c.channel_at.ensures) ∙ sym c.same_flow.ensures) ∙ c.if-same_flow.true)

pub loop-i-preserved : goal.loop-i-preserved
loop-i-preserved c =
    let a = c.args in
    let k : ℕ = c.width.result - 1 in
    let i : ℕ = c.in-Some.i in
    let found = c.in-Some.ensures in
    let inv = row_skip a.channels.now k a.f c.loop-i.from c.min-rows.result i (omega arith) c.loop-i.invariant.1 found.0 (omega (arith, found.1)) (λ m l h. let e = found.3 m l h in search rules) in
    (omega (arith, found.1), first_on (is_row a.channels.now a.f) i c.min-rows.result inv found.1 ((ap (λ (g : Flow). same_flow g a.f) (sym c.channel_at.ensures) ∙ sym c.same_flow.ensures) ∙ c.if-same_flow.false))

pub returns : goal.returns
returns c =
    let a = c.args in
    let k : ℕ = c.width.result - 1 in
    let none = c.in_default.ensures in
    let inv = row_skip a.channels.now k a.f c.loop-i.from c.min-rows.result c.min-rows.result (omega arith) c.loop-i.invariant.1 c.loop-i.invariant.0 (omega arith) (λ m l h. let e = none m l h in search rules) in
    first_end (is_row a.channels.now a.f) c.min-rows.result c.min-rows.result inv (omega arith)
