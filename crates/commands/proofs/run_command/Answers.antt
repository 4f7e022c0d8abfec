use mathlib.Core.Path.{◌≡◌, refl, sym, ap, ◌∙◌}
use mathlib.Core.Bool.{true}
use native.Mathlib.Omega.{arith}
use Rattle.card.specs.Cards.{with_pool}
use Rattle.commands.specs.Directives.{shape_ok}
use Rattle.commands.specs.Commands.{carried_out}
use Rattle.commands.proofs.Directives.{directive_64, directive_all, directive_flow}
use Rattle.commands.proofs.Runs.{runs_ok, runs_err, runs_as}
use Rattle.commands.proofs.run_command.Goals as goal

pub returns-then-not-shape_ok : goal.returns-then-not-shape_ok
unfolding carried_out
returns-then-not-shape_ok c =
    let a = c.args in
    runs_err 0x64 (λ z. omega arith) refl
    (λ card h. ap (carried_out a.channels.now (with_pool card a.pool.now) a.terms.at) (directive_64 a.c.now c.command_in-command.ensures (sym c.shape_ok.ensures ∙ c.if-not-shape_ok.true)))

pub returns-then-command-eq3 : goal.returns-then-command-eq3
unfolding carried_out
returns-then-command-eq3 c =
    let a = c.args in
    let ok : shape_ok a.c.now ≡ true = sym c.shape_ok.ensures ∙ c.if-not-shape_ok.false in
    runs_ok c.end_all.ensures
    (λ card h. ap (carried_out a.channels.now (with_pool card a.pool.now) a.terms.at) (directive_all a.c.now c.command_in-command.ensures ok c.if-command-eq3.true))

pub returns : goal.returns
returns c =
    let a = c.args in
    let ok : shape_ok a.c.now ≡ true = sym c.shape_ok.ensures ∙ c.if-not-shape_ok.false in
    runs_as c.run_flow.ensures
    (λ card h. ap (carried_out a.channels.now (with_pool card a.pool.now) a.terms.at) (directive_flow a.c.now c.command_in-command.ensures ok c.if-command-eq3.false c.flow_content.ensures))
