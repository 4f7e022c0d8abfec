use mathlib.Core.Path.{◌≡◌, refl, sym, ◌∙◌}
use mathlib.Core.Bool.{true, false}
use lib.Dec.{eqb}
use borrow.Author.Tests.{eq-eqb, ne_eqb}
use Rattle.ports.specs.declared.Change.TheVariants.{Delegated, Closed}
use Rattle.ports.specs.Ports.{answers}
use Rattle.card.specs.Cards.{with_pool}
use Rattle.card.proofs.Parts.{record_is, comes-kept, comes-wrote, none_written}
use Rattle.transfers.proofs.Cases.{none_answered, refused, outside, taken-up}
use Rattle.transfers.proofs.transfer.Goals as goal

pub returns-then-not-answers : goal.returns-then-not-answers
returns-then-not-answers c = λ pool text. let a = c.args in comes-kept refl 16 c.unchanged.ensures (λ card t. none_answered (with_pool card pool) a.h a.terms.at a.amount (record_is t) (sym c.answers.ensures ∙ c.if-not-answers.true))

pub returns-then-h-eq4 : goal.returns-then-h-eq4
returns-then-h-eq4 c =
    let asked : answers c.args.terms.port c.args.h.transaction ≡ true = sym c.answers.ensures ∙ c.if-not-answers.false in λ pool text. let a = c.args in comes-wrote refl Closed c.changed.ensures (none_written text) (λ card t. refused (with_pool card pool) a.h a.terms.at a.amount (record_is t) asked (eq-eqb _ _ c.if-h-eq4.true))

pub returns-then-not-within : goal.returns-then-not-within
returns-then-not-within c =
    let asked : answers c.args.terms.port c.args.h.transaction ≡ true = sym c.answers.ensures ∙ c.if-not-answers.false in
    let success : eqb c.args.h.result 4 ≡ false = ne_eqb _ _ c.if-h-eq4.false in λ pool text. let a = c.args in comes-kept refl 16 c.unchanged-then-not-within.ensures (λ card t. outside (with_pool card pool) a.h a.terms.at a.amount (record_is t) asked success (sym c.within.ensures ∙ c.if-not-within.true))

pub returns : goal.returns
returns c =
    let asked : answers c.args.terms.port c.args.h.transaction ≡ true = sym c.answers.ensures ∙ c.if-not-answers.false in
    let success : eqb c.args.h.result 4 ≡ false = ne_eqb _ _ c.if-h-eq4.false in λ pool text. let a = c.args in comes-wrote refl (Delegated a.amount) c.changed-2.ensures (none_written text) (λ card t. taken-up (with_pool card pool) a.h a.terms.at a.amount (record_is t) asked success (sym c.within.ensures ∙ c.if-not-within.false))
