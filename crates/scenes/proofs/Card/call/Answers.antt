use Prim.Native.Nat.{ℕ, ◌≤◌}
use mathlib.Core.Path.{◌≡◌}
use mathlib.Core.List.{List}
use native.Mathlib.Omega.{arith}
use lib.ListN.{length, drop, length-append}
use Rattle.octets.specs.Writing.{over}
use Rattle.scenes.proofs.Card.call.Goals as goal

within : (w before after : List ℕ) (n : ℕ) → n ≡ length w → after ≡ over w before → n ≤ length after
unfolding over
within w before after n size text = rw text (omega (arith, length-append w (drop (length w) before)))

pub returns-clause-room : goal.returns-clause-room
returns-clause-room c = within _ _ _ _ c.call-done.ensures.size c.call-done.ensures.text
