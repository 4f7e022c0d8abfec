use Rattle.std.proofs.Common.{rules}
use Rattle.rows.proofs.Rows.{rows-by}
use Rattle.tables.specs.Tables.{id_ok}
use Rattle.tables.proofs.ids_ok.Goals as goal

pub returns : goal.returns
returns c =
    rows-by 64 c.args.n (id_ok c.args.ids.now) c.rows_ok.result
    (λ e. let t = c.rows_ok.ensures.each e in (t.0, λ i l. let g = t.1 i l in search rules))
    (λ e m. let t = c.rows_ok.ensures.one e m in (t.0, t.1, (let g = t.2 in search rules)))
