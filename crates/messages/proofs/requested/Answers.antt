use mathlib.Core.Path.{refl, sym, ap, ◌∙◌}
use Rattle.std.specs.Prelude.{}
use Rattle.card.specs.Cards.{with_pool}
use Rattle.card.proofs.Parts.{comes_replied, comes_as, comes_at}
use Rattle.checks.proofs.Rows.{located-by}
use Rattle.messages.specs.Messages.{by_type, requested}
use Rattle.messages.proofs.Cases.{passed-at, verdict_requested}
use Rattle.messages.proofs.requested.Goals as goal

pub returns-in-Err : goal.returns-in-Err
unfolding requested
returns-in-Err c =
    let a = c.args in
    let pool = a.pool.now in
    comes_replied refl c.changed.ensures c.put_refused-n.ensures
    (λ card t. verdict_requested a.ids.now a.channels.now (with_pool card pool) a.h a.tlvs.now (c.check_table.ensures a.ids.now (with_pool card pool) a.h (record { is_kind = refl; is_result = refl; is_transaction = refl }) (located-by pool t c.requires.named.1)) c.in-Err.is)

pub returns-in-Ok : goal.returns-in-Ok
unfolding requested
returns-in-Ok c =
    let a = c.args in
    let pool = a.pool.now in
    comes_as (comes_at c.by_type.ensures)
    (λ card t.
    let table = c.check_table.ensures a.ids.now (with_pool card pool) a.h (record { is_kind = refl; is_result = refl; is_transaction = refl }) (located-by pool t c.requires.named.1) in
    ap (by_type a.ids.now a.channels.now (with_pool card pool) a.h a.tlvs.now) (sym (passed-at a.ids.now a.tlvs.now pool t c.requires.named.1 a.h (sym table ∙ c.in-Ok.is)))
    ∙ verdict_requested a.ids.now a.channels.now (with_pool card pool) a.h a.tlvs.now table c.in-Ok.is)
