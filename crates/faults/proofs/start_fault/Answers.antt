use mathlib.Core.Path.{ap, ◌∙◌}
use lib.Dec.{eqb}
use Rattle.faults.specs.declared.Fault.{Fault}
use Rattle.faults.proofs.Whole.{whole-start}
use Rattle.faults.proofs.start_fault.Goals as goal

pub returns-in-Ok-clause-none : goal.returns-in-Ok-clause-none
returns-in-Ok-clause-none c white add =
    let x = c.args in
    ap (λ (f : Fault). eqb f.table 0) c.fault_at.ensures ∙ c.in-Ok.ensures.whole ∙ whole-start x.ids.now x.ports x.channels.now x.channel_count x.entries.now x.entry_count x.first white add

pub returns-in-Err-clause-none : goal.returns-in-Err-clause-none
returns-in-Err-clause-none c white add =
    let x = c.args in
    c.in-Err.ensures.0.whole ∙ whole-start x.ids.now x.ports x.channels.now x.channel_count x.entries.now x.entry_count x.first white add
