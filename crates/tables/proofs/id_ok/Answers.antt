use Rattle.std.proofs.Common.{rules}
use Rattle.std.specs.Prelude.{is_none}
use mathlib.Core.Path.{ap, ◌∙◌}
use native.Mathlib.Omega.{arith}
use Rattle.octets.specs.Tests.{every}
use Rattle.tables.specs.Tables.{id_ok}
use Rattle.circuits.specs.Circuits.{id_length, id_at, port_of}
use Rattle.rows.proofs.Rows.{none-is}
use Rattle.tables.proofs.Tables.{unused_id}
use Rattle.tables.proofs.id_ok.Goals as goal

pub returns-then-length-le63 : goal.returns-then-length-le63
unfolding id_ok id_length every
returns-then-length-le63 c =
    let a = c.args in
    let none = none-is _ _ c.is_none.ensures ∙ ap is_none (c.port_of.ensures ∙ ap (port_of a.ids.now a.p) c.id_at.ensures) ∙ unused_id a.ids.now (id_at a.ids.now a.p) a.p (omega arith) in
    search rules

pub returns-else-length-le63 : goal.returns-else-length-le63
unfolding id_ok id_length every
returns-else-length-le63 c =
    search rules
