use mathlib.Core.Path.{◌≡◌, refl, sym, ap, ◌∙◌}
use mathlib.Core.Bool.{true}
use native.Mathlib.Omega.{arith}
use Rattle.flows.specs.Flows.{good_flow}
use Rattle.flow_octets.specs.FlowOctets.{flow_formed}
use Rattle.card.specs.Cards.{with_pool}
use Rattle.commands.specs.Commands.{carried_out}
use Rattle.commands.proofs.Directives.{directive_55, directive_65, directive_add, directive_delete}
use Rattle.commands.proofs.Runs.{runs_err, runs_as}
use Rattle.commands.proofs.run_flow.Goals as goal

pub returns-then-not-flow_formed : goal.returns-then-not-flow_formed
unfolding carried_out
returns-then-not-flow_formed c =
    let a = c.args in
    runs_err 0x55 (λ z. omega arith) refl
    (λ card h. ap (carried_out a.channels.now (with_pool card a.pool.now) a.terms.at) (directive_55 a.command.code a.command.accounting a.c.now (sym c.flow_formed.ensures ∙ c.if-not-flow_formed.true)))

pub flow_named-f-requires : goal.flow_named-f-requires
flow_named-f-requires c = sym c.flow_formed.ensures ∙ c.if-not-flow_formed.false

pub returns-then-not-good_flow : goal.returns-then-not-good_flow
unfolding carried_out
returns-then-not-good_flow c =
    let a = c.args in
    let formed : flow_formed a.c.now ≡ true = sym c.flow_formed.ensures ∙ c.if-not-flow_formed.false in
    runs_err 0x65 (λ z. omega arith) refl
    (λ card h. ap (carried_out a.channels.now (with_pool card a.pool.now) a.terms.at) (directive_65 a.command.code a.command.accounting a.c.now formed c.flow_named-f.ensures (sym c.good_flow.ensures ∙ c.if-not-good_flow.true)))

pub returns-then-command-eq1 : goal.returns-then-command-eq1
unfolding carried_out
returns-then-command-eq1 c =
    let a = c.args in
    let formed : flow_formed a.c.now ≡ true = sym c.flow_formed.ensures ∙ c.if-not-flow_formed.false in
    let sound : good_flow c.flow_named-f.result ≡ true = sym c.good_flow.ensures ∙ c.if-not-good_flow.false in
    runs_as c.add.ensures
    (λ card h. ap (carried_out a.channels.now (with_pool card a.pool.now) a.terms.at) (directive_add a.command.code a.command.accounting a.c.now formed c.flow_named-f.ensures sound c.if-command-eq1.true))

pub returns : goal.returns
unfolding carried_out
returns c =
    let a = c.args in
    let formed : flow_formed a.c.now ≡ true = sym c.flow_formed.ensures ∙ c.if-not-flow_formed.false in
    let sound : good_flow c.flow_named-f.result ≡ true = sym c.good_flow.ensures ∙ c.if-not-good_flow.false in
    runs_as c.delete.ensures
    (λ card h. ap (carried_out a.channels.now (with_pool card a.pool.now) a.terms.at) (directive_delete a.command.code a.command.accounting a.c.now formed c.flow_named-f.ensures sound c.if-command-eq1.false))
