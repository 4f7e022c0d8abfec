use Prim.Native.Nat.{◌≤◌, ◌-◌}
use mathlib.Core.Path.{◌≡◌}
use Rattle.rows.specs.Rows.{first_from}
use Rattle.channels.specs.Channels.{is_row, channel_of}
use Rattle.channels.proofs.channel_of.Given as goal

abbrev pub invariant-loop-i : goal.invariant-loop-i
invariant-loop-i l = (l.from ≤ l.rows) × (channel_of l.channels l.n l.f ≡ first_from l.from (l.rows - l.from) (is_row l.channels l.f))

abbrev pub decreases-loop-i : goal.decreases-loop-i
decreases-loop-i l = l.rows - l.from
