use native.Mathlib.Omega.{arith}
use borrow.Author.Tests.{le-leb, leb-true}
use Rattle.octets.proofs.Tests.{false_by, same_by}
use Rattle.joins.specs.Joins.{fits}
use Rattle.joins.proofs.Lent.{committed-lent}
use Rattle.joins.proofs.rate_fits.Goals as goal

pub returns-then-delegation-rate : goal.returns-then-delegation-rate
unfolding fits
returns-then-delegation-rate c card l = false_by _ (λ h. omega (arith, leb-true, l.delegation, c.rate_at-rate.ensures, c.if-delegation-rate.true))

pub returns : goal.returns
unfolding fits
returns c card l =
    let committed = committed-lent l c.args.channels.now in
    same_by _ _ (λ h. omega (arith, le-leb, leb-true, committed, l.delegation, c.rate_at-rate.ensures, c.committed_of-committed.ensures, c.if-delegation-rate.false))
    (λ h. omega (arith, le-leb, leb-true, committed, l.delegation, c.rate_at-rate.ensures, c.committed_of-committed.ensures, c.if-delegation-rate.false))
