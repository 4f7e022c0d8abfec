use lib.ListN.{take}
use Rattle.octets.specs.Writing.{Wrote}
use Rattle.items.specs.Items.{items_of}
use Rattle.rules.specs.Named.{missing, bares}
use Rattle.rules.proofs.put_missing.Given as goal

abbrev pub invariant-loop-r : goal.invariant-loop-r
invariant-loop-r l = Wrote (bares (missing (take l.r-index l.rules) (items_of l.tlvs))) l.at l.initial.buf l.buf
