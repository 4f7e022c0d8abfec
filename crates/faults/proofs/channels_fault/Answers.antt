use Rattle.std.proofs.Common.{rules}
use mathlib.Core.Path.{◌≡◌, refl, sym, ap, subst}
use lib.Dec.{eqb}
use Rattle.faults.specs.declared.Fault.{Fault}
use Rattle.std.specs.Prelude.{Err}
use Rattle.faults.specs.Faults.{Tested, table_checks, channel_checks}
use Rattle.faults.proofs.Lists.{turn_start, turn_stop, turn_on, turn_end, names-many, names-rows}
use Rattle.faults.proofs.channels_fault.Goals as goal

pub returns-then-n-gt256 : goal.returns-then-n-gt256
returns-then-n-gt256 c =
    let a = c.args in
    (names-many 2 256 a.n (channel_checks a.channels.now) refl c.if-n-gt256.true c.fault_at.ensures, ap (λ (x : Fault). eqb x.table 0) c.fault_at.ensures)

pub loop-i-init : goal.loop-i-init
loop-i-init c = let a = c.args in turn_start (channel_checks a.channels.now) a.n

pub returns-in_err-channel_fault : goal.returns-in_err-channel_fault
returns-in_err-channel_fault c =
    let a = c.args in
    let rows = channel_checks a.channels.now in
    let n = c.in_err-channel_fault.ensures in
    let e : c.from_residual.result ≡ Err c.in_err-channel_fault.field-0.0 = search rules in
    subst (λ r. Tested (table_checks 2 256 a.n rows) r) (sym e)
    (names-rows 2 256 a.n rows c.if-n-gt256.false (turn_stop rows a.n c.loop-i.i c.loop-i.invariant c.loop-i-test.true n.0 n.1), n.1)

pub loop-i-preserved : goal.loop-i-preserved
loop-i-preserved c =
    let a = c.args in
    turn_on (channel_checks a.channels.now) a.n c.loop-i.i c.loop-i.invariant c.loop-i-test.true c.in_ok-channel_fault.ensures refl

pub returns : goal.returns
returns c =
    let a = c.args in
    let rows = channel_checks a.channels.now in
    names-rows 2 256 a.n rows c.if-n-gt256.false
    (turn_end rows a.n c.loop-i.i c.loop-i.invariant c.loop-i-test.false refl)
