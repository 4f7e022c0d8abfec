-- The width of an address. Assumes nothing.
use mathlib.Core.Bool.{Bool, true, false, cond}
use Prim.Native.Nat.{ℕ, ◌*◌, ◌≤◌, ◌<◌}
use native.Mathlib.Nat.{mul-le-mul_right}
use native.Mathlib.Omega.{arith}
use lib.Dec.{eqb}
use Rattle.fields.specs.Flow.{width_of}

width-by : (a b : Bool) → cond a 4 (cond b 16 0) ≤ 16
width-by true b = omega arith
width-by false true = omega arith
width-by false false = omega arith

pub width_most : (family : ℕ) → width_of family ≤ 16
unfolding width_of
width_most family = width-by (eqb family 1) (eqb family 2)

-- as many addresses as a count of 16 bits can say fit any number
pub addresses_fit : (w n : ℕ) → w ≤ 16 → n < 65537 → w * n < 1048593
addresses_fit w n hw hn = omega (arith, mul-le-mul_right n hw)
