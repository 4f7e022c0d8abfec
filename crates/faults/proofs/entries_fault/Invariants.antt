use Rattle.faults.specs.Faults.{entry_checks}
use Rattle.faults.proofs.Lists.{Turn}
use Rattle.faults.proofs.entries_fault.Given as goal

abbrev pub invariant-loop-i : goal.invariant-loop-i
invariant-loop-i l = Turn (entry_checks l.entries) l.n l.i
