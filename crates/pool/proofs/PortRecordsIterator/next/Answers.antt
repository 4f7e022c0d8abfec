use Rattle.std.proofs.Common.{sym, ◌∙◌, arith}
use Rattle.memchr.specs.Find.{is_byte}
use Rattle.memchr.proofs.lemmas.PlaceLemmas.{places_between-none, goes-first}
use Rattle.pool.proofs.Places.{left_first, left_none}
use Rattle.pool.proofs.PortRecordsIterator.next.Goals as goal

pub returns-then-i-ge512-clause-steps : goal.returns-then-i-ge512-clause-steps
returns-then-i-ge512-clause-steps c =
    let w = c.self.inside in (
      sym c.self.view_is ∙ left_none w.owner.now w.p w.at c.next_of-i.ensures c.self.invariant c.if-i-ge512.true,
      places_between-none (is_byte w.p) w.owner.now 512 512 (omega arith) (λ k low high. absurd (omega arith)),
    )

pub returns-clause-steps : goal.returns-clause-steps
returns-clause-steps c =
    let w = c.self.inside in
    sym c.self.view_is ∙ left_first w.owner.now w.p w.at c.next_of-i.ensures (omega (arith, c.if-i-ge512.false))

pub returns-clause-goes : goal.returns-clause-goes
returns-clause-goes c =
    let w = c.self.inside in
    goes-first _ (λ _. tt) _ _ c.next_of-i.result (sym c.self.view_is ∙ left_first w.owner.now w.p w.at c.next_of-i.ensures (omega (arith, c.if-i-ge512.false)))
