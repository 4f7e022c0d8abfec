use native.Mathlib.Omega.{arith}
use mathlib.Core.Path.{ap, ◌∙◌}
use mathlib.Core.List.{[]}
use Rattle.octets.proofs.Tests.{taken, left}
use Rattle.octets.specs.Writing.{over}
use Rattle.pool.specs.Pool.{as_rows}
use Rattle.listing.specs.Listing.{flows_at}
use Rattle.readers.proofs.Parts.{is_port_lem, not_port}
use Rattle.readers.proofs.flows_of.Goals as goal

pub returns-then-not-is_port : goal.returns-then-not-is_port
unfolding flows_at
returns-then-not-is_port c card charged accounting h = c.none.ensures ∙ ap as_rows (left _ _ [] (not_port card _ _ h c.is_port.ensures.test c.if-not-is_port.true))

pub overflow_cast-p : goal.overflow_cast-p
overflow_cast-p c = omega (arith, c.is_port.ensures.inside (c.if-not-is_port.false))

pub returns : goal.returns
unfolding flows_at
returns c card charged accounting h =
    c.rows_in_order.ensures.rows charged accounting
    ∙ ap as_rows (taken _ _ _ (is_port_lem card _ _ h c.is_port.ensures.test c.if-not-is_port.false))
