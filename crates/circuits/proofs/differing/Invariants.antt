use mathlib.Core.Path.{◌≡◌}
use lib.ListN.{length, take}
use Prim.Native.Nat.{◌≤◌}
use Rattle.flows.specs.Words.{same}
use Rattle.circuits.proofs.differing.Given as goal

abbrev pub invariant-loop-i : goal.invariant-loop-i
invariant-loop-i l = (l.i ≤ length l.b) × (same l.a l.b ≡ same (take l.i l.a) (take l.i l.b))
