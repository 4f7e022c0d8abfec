use native.Mathlib.Omega.{arith}
use mathlib.Core.Path.{◌≡◌, sym, ap, ◌∙◌}
use mathlib.Core.Bool.{true}
use Rattle.octets.proofs.Parts.{rest_part}
use Rattle.header.specs.Header.{size_ok}
use Rattle.checks.specs.Table.{port_named}
use Rattle.messages.proofs.Cases.{size_least, named_size, named_unusable, named_usable}
use Rattle.messages.proofs.port_named.Goals as goal

pub returns-then-not-size_ok : goal.returns-then-not-size_ok
returns-then-not-size_ok c = let a = c.args in named_size a.ids.now a.port_count a.octets.now (sym c.size_ok.ensures ∙ c.if-not-size_ok.true)

pub slice_bounds-port_named-count : goal.slice_bounds-port_named-count
slice_bounds-port_named-count c =
    let size : size_ok c.args.octets.now ≡ true = sym c.size_ok.ensures ∙ c.if-not-size_ok.false in size_least c.args.octets.now size

pub slice_bounds-port_named-start : goal.slice_bounds-port_named-start
slice_bounds-port_named-start c =
    let size : size_ok c.args.octets.now ≡ true = sym c.size_ok.ensures ∙ c.if-not-size_ok.false in omega (arith, size_least c.args.octets.now size)

pub returns-in-None : goal.returns-in-None
returns-in-None c =
    let size : size_ok c.args.octets.now ≡ true = sym c.size_ok.ensures ∙ c.if-not-size_ok.false in
    let a = c.args in
    named_unusable a.ids.now a.port_count a.octets.now size (sym c.read_header.ensures ∙ c.in-None.is)

pub returns-in-Some : goal.returns-in-Some
returns-in-Some c =
    let size : size_ok c.args.octets.now ≡ true = sym c.size_ok.ensures ∙ c.if-not-size_ok.false in
    let a = c.args in
    c.port_named.ensures ∙ ap (port_named a.ids.now a.port_count) (rest_part 16 a.octets.now) ∙ named_usable a.ids.now a.port_count a.octets.now size (sym c.read_header.ensures ∙ c.in-Some.is)
