use Rattle.std.proofs.Common.{rules}
use Rattle.rows.proofs.Rows.{rows-by}
use Rattle.tables.specs.Tables.{entry_ok_at}
use Rattle.tables.proofs.entries_ok.Goals as goal

pub returns : goal.returns
returns c =
    rows-by 128 c.args.n (entry_ok_at c.args.entries.now) c.rows_ok.result
    (λ e. let t = c.rows_ok.ensures.each e in (t.0, λ i l. let g = t.1 i l in search rules))
    (λ e m. let t = c.rows_ok.ensures.one e m in (t.0, t.1, (let g = t.2 in search rules)))
