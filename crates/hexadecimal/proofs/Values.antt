-- Laws of a digit's value, one for each range of characters. Assumes nothing.
use Prim.Native.Nat.{ℕ, ◌+◌, ◌-◌, ◌≤◌, ◌<◌}
use mathlib.Core.Path.{◌≡◌}
use Rattle.std.specs.Prelude.{Some, None}
use native.Mathlib.Omega.{arith}
use borrow.Author.Tests.{lt-ltb, le-ltb, le-leb, lt-leb}
use Rattle.hexadecimal.specs.Hex.{value_of, digit_of}

module _ (x : ℕ) where
  pub below_0 : x < 48 → 16 ≡ value_of x
  unfolding value_of
  below_0 h = simp (lt-ltb x 48 h)

  pub from_0 : 48 ≤ x → x ≤ 57 → x - 48 ≡ value_of x
  unfolding value_of
  from_0 h k = simp (le-ltb x 48 h, le-leb x 57 k)

  module _ (h : 57 < x) where
    pub below_capital_a : x < 65 → 16 ≡ value_of x
    unfolding value_of
    below_capital_a k = simp (le-ltb x 48 (omega arith), lt-leb x 57 h, lt-ltb x 65 k)

    pub from_capital_a : 65 ≤ x → x ≤ 70 → x - 65 + 10 ≡ value_of x
    unfolding value_of
    from_capital_a k l = simp (le-ltb x 48 (omega arith), lt-leb x 57 h, le-ltb x 65 k, le-leb x 70 l)

  module _ (h : 70 < x) where
    pub below_small_a : x < 97 → 16 ≡ value_of x
    unfolding value_of
    below_small_a k = simp (le-ltb x 48 (omega arith), lt-leb x 57 (omega arith), le-ltb x 65 (omega arith), lt-leb x 70 h, lt-ltb x 97 k)

    pub from_small_a : 97 ≤ x → x ≤ 102 → x - 97 + 10 ≡ value_of x
    unfolding value_of
    from_small_a k l =
        simp (le-ltb x 48 (omega arith), lt-leb x 57 (omega arith), le-ltb x 65 (omega arith), lt-leb x 70 h, le-ltb x 97 k, le-leb x 102 l)

    pub beyond : 102 < x → 16 ≡ value_of x
    unfolding value_of
    beyond k =
        simp
        (le-ltb x 48 (omega arith), lt-leb x 57 (omega arith), le-ltb x 65 (omega arith), lt-leb x 70 h, le-ltb x 97 (omega arith), lt-leb x 102 k)

module _ (x : ℕ) where
  pub digit_some : (v : ℕ) → v ≡ value_of x → v < 16 → Some v ≡ digit_of x
  unfolding digit_of
  digit_some v e h = rw e (simp (lt-ltb (value_of x) 16 (omega arith)))

  pub digit_none : 16 ≡ value_of x → None ≡ digit_of x
  unfolding digit_of
  digit_none e = simp (le-ltb (value_of x) 16 (omega arith))

  pub digit_is : value_of x < 16 → digit_of x ≡ Some (value_of x)
  unfolding digit_of
  digit_is h = simp (lt-ltb (value_of x) 16 h)
