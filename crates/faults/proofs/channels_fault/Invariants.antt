use Rattle.faults.specs.Faults.{channel_checks}
use Rattle.faults.proofs.Lists.{Turn}
use Rattle.faults.proofs.channels_fault.Given as goal

abbrev pub invariant-loop-i : goal.invariant-loop-i
invariant-loop-i l = Turn (channel_checks l.channels) l.n l.i
