use mathlib.Core.Path.{◌≡◌, refl, sym, ap, ◌∙◌}
use mathlib.Core.Bool.{Bool}
use Rattle.pool.specs.Pool.{began}
use Rattle.card.specs.Cards.{Card, with_pool}
use Rattle.card.specs.Outcome.{becomes}
use Rattle.card.specs.Parts.{HasTerms}
use Rattle.card.proofs.Parts.{white_is, comes-kept}
use Rattle.joins.specs.Joins.{admit_number, admission_number}
use Rattle.joins.proofs.Cases.{white-refused, white-begins}
use Rattle.joins.proofs.Parts.{terms_lent}
use Rattle.joins.proofs.Refusals.{never_0}
use Rattle.joins.proofs.join_white.Goals as goal

pub returns-in-Err : goal.returns-in-Err
unfolding admission_number
returns-in-Err c text =
    let a = c.args in
    let admitted : (card : Card) → HasTerms card a.p a.terms → admission_number c.admit.result ≡ admit_number a.channels.now (with_pool card a.pool.now) card.head.white_cac a.p a.k =
    (λ card h. c.admit.ensures (with_pool card a.pool.now) (terms_lent h c.requires a.pool.now) ∙ ap (λ (b : Bool). admit_number a.channels.now (with_pool card a.pool.now) b a.p a.k) (sym (white_is h))) in
    let told = c.number.ensures ∙ sym (ap admission_number c.in-Err.is) in
    comes-kept refl c.number.result c.unchanged.ensures
    (λ card h. white-refused a.channels.now (with_pool card a.pool.now) a.p a.k (told ∙ admitted card h) (λ z. never_0 c.in-Err.refusal (sym c.number.ensures ∙ z)))

pub returns-in-Ok : goal.returns-in-Ok
unfolding admission_number
returns-in-Ok c text =
    let a = c.args in
    let admitted : (card : Card) → HasTerms card a.p a.terms → admission_number c.admit.result ≡ admit_number a.channels.now (with_pool card a.pool.now) card.head.white_cac a.p a.k =
    (λ card h. c.admit.ensures (with_pool card a.pool.now) (terms_lent h c.requires a.pool.now) ∙ ap (λ (b : Bool). admit_number a.channels.now (with_pool card a.pool.now) b a.p a.k) (sym (white_is h))) in
    comes-kept c.begin.ensures 0 c.unchanged-in-Ok.ensures
    (λ card h.
    ap (λ (b : Bool). becomes (with_pool card (began a.pool.now a.p a.k b 0))) (sym (white_is h))
    ∙ white-begins a.channels.now (with_pool card a.pool.now) a.p a.k (admitted card h) (ap admission_number c.in-Ok.is))
