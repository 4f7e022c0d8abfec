use mathlib.Core.Path.{ap, ◌∙◌}
use borrow.Author.Tests.{eq-eqb, ne_eqb}
use borrow.Author.Rules.{rules}
use native.Mathlib.Omega.{arith}
use Rattle.fields.specs.Fields.{request_in}
use Rattle.card.specs.Cards.{with_pool}
use Rattle.card.proofs.Parts.{comes_as}
use Rattle.messages.proofs.Cases.{of_144, of_146, of_148, of_149}
use Rattle.messages.proofs.by_type.Goals as goal

pub returns-in-144 : goal.returns-in-144
returns-in-144 c =
    let a = c.args in
    comes_as c.control.ensures (λ card t. of_144 a.ids.now a.channels.now (with_pool card a.pool.now) a.h a.tlvs.now a.terms.at (eq-eqb _ _ c.in-144.is))

pub returns-in-146 : goal.returns-in-146
returns-in-146 c =
    let a = c.args in
    comes_as c.reallocate.ensures (λ card t. of_146 a.ids.now a.channels.now (with_pool card a.pool.now) a.h a.tlvs.now a.terms.at (ne_eqb a.h.kind 144 (λ e. omega (arith, e, c.in-146.is))) (eq-eqb _ _ c.in-146.is) (c.request_in-r.ensures ∙ ap request_in c.first_of.ensures))

pub returns-in-148 : goal.returns-in-148
returns-in-148 c =
    let a = c.args in
    comes_as (c.query_delegation.ensures a.pool.now) (λ card t. of_148 a.ids.now a.channels.now (with_pool card a.pool.now) a.h a.tlvs.now a.terms.at (ne_eqb a.h.kind 144 (λ e. omega (arith, e, c.in-148.is))) (ne_eqb a.h.kind 146 (λ e. omega (arith, e, c.in-148.is))) (eq-eqb _ _ c.in-148.is))

pub returns-in_default : goal.returns-in_default
returns-in_default c =
    let a = c.args in
    comes_as c.query_flows.ensures (λ card t. of_149 a.ids.now a.channels.now (with_pool card a.pool.now) a.h a.tlvs.now a.terms.at (ne_eqb a.h.kind 144 (λ e. search rules)) (ne_eqb a.h.kind 146 (λ e. search rules)) (ne_eqb a.h.kind 148 (λ e. search rules)))
