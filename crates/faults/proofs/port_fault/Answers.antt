use mathlib.Core.Bool.{not}
use Rattle.std.specs.Prelude.{is_none}
use mathlib.Core.Path.{refl, sym, ap, ◌∙◌}
use native.Mathlib.Omega.{arith}
use borrow.Author.Tests.{le-leb, lt-leb}
use Rattle.octets.specs.Tests.{every}
use Rattle.circuits.specs.Circuits.{id_length, id_at, port_of}
use Rattle.tables.proofs.Tables.{unused_id}
use Rattle.faults.specs.Faults.{port_checks}
use Rattle.faults.proofs.Lists.{names-none, names_on, err-fails, err_on}
use Rattle.faults.proofs.port_fault.Goals as goal

pub returns-then-length-lt1 : goal.returns-then-length-lt1
unfolding port_checks id_length every
returns-then-length-lt1 c =
    err-fails _ _ (simp (lt-leb _ _ c.if-length-lt1.true)) refl c.fault_at.ensures

pub returns-then-length-gt63 : goal.returns-then-length-gt63
unfolding port_checks id_length every
returns-then-length-gt63 c =
    err-fails _ _ (simp (le-leb _ _ c.if-length-lt1.false, lt-leb _ _ c.if-length-gt63.true)) refl c.fault_at-then-length-gt63.ensures

pub returns-then-is_some : goal.returns-then-is_some
unfolding port_checks id_length every
returns-then-is_some c =
    let a = c.args in
    err_on _ _ (simp (le-leb _ _ c.if-length-lt1.false, le-leb _ _ c.if-length-gt63.false))
    (err-fails _ _ (sym (ap not c.is_some.ensures ∙ ap is_none (c.port_of.ensures ∙ ap (port_of a.ids.now a.p) c.id_at.ensures) ∙ unused_id a.ids.now (id_at a.ids.now a.p) a.p (omega arith)) ∙ ap not c.if-is_some.true) refl c.fault_at-then-is_some.ensures)

pub returns : goal.returns
unfolding port_checks id_length every
returns c =
    let a = c.args in
    names_on _ _ (simp (le-leb _ _ c.if-length-lt1.false, le-leb _ _ c.if-length-gt63.false))
    (names_on _ _ (sym (ap not c.is_some.ensures ∙ ap is_none (c.port_of.ensures ∙ ap (port_of a.ids.now a.p) c.id_at.ensures) ∙ unused_id a.ids.now (id_at a.ids.now a.p) a.p (omega arith)) ∙ ap not c.if-is_some.false)
    (names-none refl))
