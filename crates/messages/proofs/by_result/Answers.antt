use mathlib.Core.Path.{refl, sym, ◌∙◌}
use borrow.Author.Tests.{eq-eqb, ne_eqb}
use Rattle.card.specs.Cards.{with_pool}
use Rattle.card.proofs.Parts.{comes-kept, comes_as}
use Rattle.messages.proofs.Cases.{answer-taken, answer_needed, answer_unasked, notice_taken, request_checked}
use Rattle.messages.proofs.by_result.Goals as goal

pub returns-then-answer : goal.returns-then-answer
returns-then-answer c =
    let a = c.args in
    comes_as (c.offered.ensures a.ids.now c.args.pool.now a.reply.now c.requires.named.1) (λ card t. answer-taken a.ids.now a.channels.now (with_pool card a.pool.now) a.h a.tlvs.now (eq-eqb _ _ c.if-h-eq147.true) (sym c.is_answer-answer.ensures ∙ c.if-answer.true))

pub returns-then-h-eq147 : goal.returns-then-h-eq147
returns-then-h-eq147 c =
    let a = c.args in
    comes-kept refl 15 c.unchanged.ensures (λ card t. answer_needed a.ids.now a.channels.now (with_pool card a.pool.now) a.h a.tlvs.now (eq-eqb _ _ c.if-h-eq147.true) (sym c.is_answer-answer.ensures ∙ c.if-answer.false))

pub returns-then-answer-2 : goal.returns-then-answer-2
returns-then-answer-2 c =
    let a = c.args in
    comes-kept refl 15 c.unchanged-then-answer-2.ensures (λ card t. answer_unasked a.ids.now a.channels.now (with_pool card a.pool.now) a.h a.tlvs.now (ne_eqb _ _ c.if-h-eq147.false) (sym c.is_answer-answer.ensures ∙ c.if-answer-2.true))

pub returns-then-is_notice : goal.returns-then-is_notice
returns-then-is_notice c =
    let a = c.args in
    comes-kept refl 0 c.unchanged-then-is_notice.ensures (λ card t. notice_taken a.ids.now a.channels.now (with_pool card a.pool.now) a.h a.tlvs.now (ne_eqb _ _ c.if-h-eq147.false) (sym c.is_answer-answer.ensures ∙ c.if-answer-2.false) (sym c.is_notice.ensures ∙ c.if-is_notice.true))

pub returns : goal.returns
returns c =
    let a = c.args in
    comes_as c.requested.ensures (λ card t. request_checked a.ids.now a.channels.now (with_pool card a.pool.now) a.h a.tlvs.now (ne_eqb _ _ c.if-h-eq147.false) (sym c.is_answer-answer.ensures ∙ c.if-answer-2.false) (sym c.is_notice.ensures ∙ c.if-is_notice.false))
