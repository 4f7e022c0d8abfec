use mathlib.Core.Path.{◌≡◌}
use lib.ListN.{length, take}
use Rattle.octets.specs.Writing.{over}
use Rattle.flows.specs.Words.{octets_of}
use Rattle.flow_octets.proofs.put_words.Given as goal

abbrev pub invariant-loop-i : goal.invariant-loop-i
invariant-loop-i l = (length l.buf ≡ length l.initial.buf) × (l.buf ≡ over (octets_of (take l.i l.a)) l.initial.buf)
