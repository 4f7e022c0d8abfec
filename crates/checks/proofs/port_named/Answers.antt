use mathlib.Core.Path.{◌≡◌, sym, ap, ◌∙◌}
use Rattle.circuits.specs.Circuits.{port_of}
use Rattle.checks.specs.Table.{id_in, number_of, port_named}
use Rattle.checks.proofs.port_named.Goals as goal

pub returns-in-None : goal.returns-in-None
unfolding port_named number_of
returns-in-None c =
    let found : c.port_of.result ≡ port_of c.args.ids.now c.args.port_count (id_in c.args.tlvs.now) = c.port_of.ensures ∙ ap (port_of c.args.ids.now c.args.port_count) c.id_in.ensures in ap number_of (sym c.in-None.is ∙ found)

pub returns-in-Some : goal.returns-in-Some
unfolding port_named number_of
returns-in-Some c =
    let found : c.port_of.result ≡ port_of c.args.ids.now c.args.port_count (id_in c.args.tlvs.now) = c.port_of.ensures ∙ ap (port_of c.args.ids.now c.args.port_count) c.id_in.ensures in ap number_of (sym c.in-Some.is ∙ found)
