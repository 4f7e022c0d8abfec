use mathlib.Core.Path.{refl, sym, ap, ◌∙◌}
use Prim.Native.Nat.{ℕ}
use Rattle.std.specs.Prelude.{}
use Rattle.items.specs.Items.{items_of, first_of}
use Rattle.fields.specs.Fields.{allocation_in}
use Rattle.card.specs.Cards.{with_pool}
use Rattle.card.specs.Outcome.{keeps}
use Rattle.card.proofs.Parts.{comes-kept, comes_as, comes_at}
use Rattle.checks.proofs.Rows.{located-by}
use Rattle.transfers.specs.Transfers.{transferred}
use Rattle.messages.specs.Messages.{offered}
use Rattle.messages.proofs.Cases.{passed-at, verdict_offered}
use Rattle.messages.proofs.offered.Goals as goal

pub returns-in-Err : goal.returns-in-Err
unfolding offered
returns-in-Err c = λ ids pool text e. let a = c.args in comes-kept refl c.refused_number.result c.unchanged.ensures (λ card t. ap (keeps (with_pool card pool)) c.refused_number.ensures ∙ verdict_offered (with_pool card pool) a.h a.tlvs.now (c.check_table.ensures ids (with_pool card pool) a.h (record { is_kind = refl; is_result = refl; is_transaction = refl }) (located-by pool t e)) c.in-Err.is)

pub returns-in-Ok : goal.returns-in-Ok
unfolding offered
returns-in-Ok c = λ ids pool text e.
    let a = c.args in
    comes_as (comes_at (c.transfer.ensures pool text))
    (λ card t.
    let table = c.check_table.ensures ids (with_pool card pool) a.h (record { is_kind = refl; is_result = refl; is_transaction = refl }) (located-by pool t e) in
    ap (transferred (with_pool card pool) a.h a.terms.at) (c.allocation_in-amount.ensures ∙ ap allocation_in c.first_of.ensures)
    ∙ ap (λ (q : ℕ). transferred (with_pool card pool) a.h q (allocation_in (first_of 0x0015 (items_of a.tlvs.now)))) (sym (passed-at ids a.tlvs.now pool t e a.h (sym table ∙ c.in-Ok.is)))
    ∙ verdict_offered (with_pool card pool) a.h a.tlvs.now table c.in-Ok.is)
