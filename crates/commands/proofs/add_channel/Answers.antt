use mathlib.Core.Path.{◌≡◌, sym, ap, ◌∙◌}
use mathlib.Core.Bool.{Bool, false}
use native.Mathlib.Omega.{arith}
use Rattle.pool.specs.declared.Pool.{Pool}
use Rattle.pool.specs.Pool.{is_active, began}
use Rattle.card.specs.Cards.{Card, with_pool}
use Rattle.card.specs.Parts.{HasTerms}
use Rattle.card.proofs.Parts.{add_is}
use Rattle.joins.specs.Joins.{admit_number, admission_number}
use Rattle.joins.proofs.Refusals.{refused_not, admitted_0}
use Rattle.commands.specs.Commands.{succeeds}
use Rattle.commands.proofs.Rows.{add-active, add-refused, add-begins}
use Rattle.commands.proofs.Runs.{runs_ok, runs_err, terms_lent, lent_as}
use Rattle.commands.proofs.add_channel.Goals as goal

pub returns-then-account : goal.returns-then-account
returns-then-account c =
    let a = c.args in
    runs_ok c.account.ensures.sets
    (λ card h. add-active (with_pool card a.pool.now) a.terms.at a.k a.channels.now a.value (sym c.account.ensures.is ∙ c.if-account.true))

pub returns-then-is_err : goal.returns-then-is_err
returns-then-is_err c =
    let a = c.args in
    let idle : is_active a.pool.now a.terms.at a.k ≡ false = sym c.account.ensures.is ∙ c.if-account.false in
    let kept = c.account.ensures.none c.if-account.false in
    let admitted : (card : Card) → HasTerms card a.terms.at a.terms → admission_number c.admit.result ≡ admit_number a.channels.now (with_pool card a.pool.now) card.head.add_cac a.terms.at a.k =
    (λ card h.
    c.admit.ensures (with_pool card a.pool.now) (lent_as kept (terms_lent h a.pool.now))
    ∙ ap (λ (b : Bool). admit_number a.channels.now (with_pool card a.pool.now) b a.terms.at a.k) (sym (add_is h))) in
    runs_err 0x13 (λ z. omega arith) kept
    (λ card h. add-refused (with_pool card a.pool.now) a.terms.at a.k a.channels.now a.value idle (admitted card h) (refused_not _ (sym c.is_err.ensures.value ∙ c.if-is_err.true)))

pub returns : goal.returns
returns c =
    let a = c.args in
    let p = a.terms.at in
    let cac : Bool = a.terms.head.add_cac in
    let idle : is_active a.pool.now p a.k ≡ false = sym c.account.ensures.is ∙ c.if-account.false in
    let kept = c.account.ensures.none c.if-account.false in
    let admitted : (card : Card) → HasTerms card p a.terms → admission_number c.admit.result ≡ admit_number a.channels.now (with_pool card a.pool.now) card.head.add_cac p a.k =
    (λ card h.
    c.admit.ensures (with_pool card a.pool.now) (lent_as kept (terms_lent h a.pool.now))
    ∙ ap (λ (b : Bool). admit_number a.channels.now (with_pool card a.pool.now) b a.terms.at a.k) (sym (add_is h))) in
    runs_ok (c.begin.ensures ∙ ap (λ (q : Pool). began q p a.k cac a.value) kept)
    (λ card h.
    ap (λ (b : Bool). succeeds (with_pool card (began a.pool.now p a.k b a.value))) (sym (add_is h))
    ∙ add-begins (with_pool card a.pool.now) p a.k a.channels.now a.value idle (admitted card h) (admitted_0 _ (sym c.is_err.ensures.value ∙ c.if-is_err.false)))
