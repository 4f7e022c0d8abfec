use Rattle.faults.specs.Faults.{port_checks}
use Rattle.faults.proofs.Lists.{Turn}
use Rattle.faults.proofs.ports_fault.Given as goal

abbrev pub invariant-loop-i : goal.invariant-loop-i
invariant-loop-i l = Turn (port_checks l.ids) l.n l.i
