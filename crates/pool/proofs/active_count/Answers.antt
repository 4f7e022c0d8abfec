use Rattle.std.proofs.Common.{◌∙◌, ap, length, inl, arith}
use Rattle.std.proofs.lemmas.Iterator.Consumers.{count_from_yields_List, YieldsList-from_first}
use Rattle.pool.proofs.Places.{records-length}
use Rattle.pool.proofs.Turns.{count_all}
use Rattle.pool.proofs.active_count.Goals as goal

pub count-requires-clause-fits : goal.count-requires-clause-fits
count-requires-clause-fits c =
    let a = c.args in
    inl (omega (arith, ap length c.records.ensures, records-length a.owner.now a.p, count_all a.owner.now a.p))

pub returns : goal.returns
returns c =
    let a = c.args in
    count_from_yields_List c.records.result c.count.result c.count.ensures.ran (YieldsList-from_first (λ x. x) (λ rest. rest) _ c.records.ensures) ∙ records-length a.owner.now a.p
