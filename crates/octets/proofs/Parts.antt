-- Parts of a slice, as the code lends them. Assumes nothing.
use mathlib.Core.Path.{◌≡◌}
use mathlib.Core.List.{List}
use Prim.Native.Nat.{ℕ, ◌+◌, ◌-◌, ◌≤◌}
use native.Mathlib.Nat.{le_refl}
use native.Mathlib.Omega.{arith}
use lib.ListN.{length, take, drop, length-drop}
use lib.Seq.{take_all, length-take-le}

-- the part `&s[n..]`
pub rest_part : (n : ℕ) (s : List ℕ) → take (length s - n) (drop n s) ≡ drop n s
rest_part n s = take_all (length s - n) (drop n s) (simp length-drop (le_refl (length s - n)))

-- the part `&s[k..k + n]` has n octets
pub part_length : (k n : ℕ) (s : List ℕ) → k + n ≤ length s → length (take n (drop k s)) ≡ n
part_length k n s h = length-take-le n (drop k s) (simp length-drop (omega arith))
