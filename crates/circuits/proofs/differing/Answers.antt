use Prim.Native.Nat.{ℕ, ◌+◌, ◌-◌}
use mathlib.Core.Path.{◌≡◌, sym, ap, ap₂, ◌∙◌}
use native.Mathlib.Omega.{arith}
use lib.ListN.{length, take}
use lib.Seq.{take-length}
use Rattle.flows.specs.Words.{same}
use Rattle.circuits.proofs.Circuits.{upto, back-off, back_on}
use borrow.Author.Tests.{le-ltb}
use Rattle.flows.proofs.Same.{same-off}
use Rattle.circuits.proofs.differing.Goals as goal

pub returns-then-a-b : goal.returns-then-a-b
returns-then-a-b c = (omega arith, le-ltb _ 1 c.requires ∙ sym (same-off _ _ (λ e. c.if-a-b.true (ap length e))))

pub loop-i-init : goal.loop-i-init
loop-i-init c =
    let a = c.args in
    (omega arith, sym (ap₂ same (ap (λ (n : ℕ). take n a.a.now) (sym c.if-a-b.false) ∙ take-length a.a.now) (take-length a.b.now)))

pub loop-i-preserved : goal.loop-i-preserved
loop-i-preserved c =
    let a = c.args in
    let h = c.loop-i in
    let i : ℕ = h.i - 1 in
    (omega arith, h.invariant.1 ∙ upto a.a.now a.b.now h.i (omega arith) ∙ back_on a.a.now a.b.now i (omega arith) (omega arith) c.if-a-i.false)

pub returns-then-a-i : goal.returns-then-a-i
returns-then-a-i c =
    let a = c.args in
    let h = c.loop-i in
    let i : ℕ = h.i - 1 in
    (omega arith, le-ltb (i + 1) 1 (omega arith) ∙ sym (h.invariant.1 ∙ upto a.a.now a.b.now h.i (omega arith) ∙ back-off a.a.now a.b.now i (omega arith) (omega arith) c.if-a-i.true))

pub returns : goal.returns
unfolding same
returns c =
    let a = c.args in
    let h = c.loop-i in
    let e : h.i ≡ 0 = omega arith in
    (omega arith, sym (h.invariant.1 ∙ ap (λ (n : ℕ). same (take n a.a.now) (take n a.b.now)) e))
