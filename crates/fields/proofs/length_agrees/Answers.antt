use native.Mathlib.Omega.{arith}
use mathlib.Core.Path.{◌≡◌, sym, ◌∙◌}
use Prim.Native.Nat.{◌+◌}
use native.Mathlib.Nat.{pos_of_ne-zero}
use borrow.Author.Tests.{lt-ltb}
use Rattle.octets.specs.Tests.{every}
use Rattle.octets.proofs.Tests.{second_of}
use Rattle.fields.specs.Flow.{width_of, length_agrees}
use Rattle.fields.proofs.Widths.{width_most, addresses_fit}
use Rattle.fields.proofs.length_agrees.Goals as goal

pub overflow_mul-result : goal.overflow_mul-result
overflow_mul-result c = omega (arith, addresses_fit c.width_of-w.result (c.args.count + 1) (omega (arith, width_most c.args.family)) (omega arith))

pub overflow_add-result-then-w-ne0 : goal.overflow_add-result-then-w-ne0
overflow_add-result-then-w-ne0 c = omega (arith, addresses_fit c.width_of-w.result (c.args.count + 1) (omega (arith, width_most c.args.family)) (omega arith))

pub returns-then-w-ne0 : goal.returns-then-w-ne0
unfolding length_agrees
returns-then-w-ne0 c = rw (sym c.width_of-w.ensures) (second_of _ _ (lt-ltb _ _ (pos_of_ne-zero c.if-w-ne0.true)))

pub returns-else-w-ne0 : goal.returns-else-w-ne0
unfolding length_agrees every
returns-else-w-ne0 c = let z : width_of c.args.family ≡ 0 = sym c.width_of-w.ensures ∙ c.if-w-ne0.false in rw (c.if-w-ne0.false, z)
