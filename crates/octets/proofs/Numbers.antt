-- Numbers that are written read back, with whatever stands after them; and how many octets each takes. Assumes nothing.
use mathlib.Core.Path.{◌≡◌, refl}
use mathlib.Core.List.{List, ◌++◌}
use Prim.Native.Nat.{ℕ, ◌<◌, ◌^◌}
use native.Mathlib.Omega.{arith}
use lib.ListN.{length, take, drop}
use Rattle.std.specs.Int.{w16, w32, to_be_bytes}
use Rattle.octets.specs.Numbers.{be8, be16, be24, be32, oct8, oct16, oct24, oct32}

module _ (x : ℕ) (r : List ℕ) where
  pub back8 : be8 (oct8 x ++ r) 0 ≡ x
  unfolding oct8
  back8 = refl

  pub back16 : be16 (oct16 x ++ r) 0 ≡ x
  unfolding oct16
  back16 = omega arith

  pub back24 : x < 16777216 → be24 (oct24 x ++ r) 0 ≡ x
  unfolding oct24
  back24 h = omega arith

  pub back32 : be32 (oct32 x ++ r) 0 ≡ x
  unfolding oct32
  back32 = omega arith

module _ (x : ℕ) where
  pub length-oct8 : length (oct8 x) ≡ 1
  unfolding oct8
  length-oct8 = refl

  pub length-oct16 : length (oct16 x) ≡ 2
  unfolding oct16
  length-oct16 = refl

  pub length-oct24 : length (oct24 x) ≡ 3
  unfolding oct24
  length-oct24 = refl

  pub length-oct32 : length (oct32 x) ≡ 4
  unfolding oct32
  length-oct32 = refl

-- the library's big-endian octets of a number are those
module _ (x : ℕ) where
  pub bytes16 : x < 2 ^ 16 → to_be_bytes w16 x ≡ oct16 x
  unfolding oct16
  bytes16 h = grind arith

  pub bytes24 : take 3 (drop 1 (to_be_bytes w32 x)) ≡ oct24 x
  unfolding oct24
  bytes24 = grind arith

  pub bytes32 : x < 2 ^ 32 → to_be_bytes w32 x ≡ oct32 x
  unfolding oct32
  bytes32 h = grind arith
