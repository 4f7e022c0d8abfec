use Rattle.std.specs.Prelude.{Some, None}
use native.Mathlib.Omega.{arith}
use mathlib.Core.Path.{sym, ◌∙◌}
use Rattle.octets.proofs.Tests.{left}
use Rattle.pool.specs.Pool.{pool_of}
use Rattle.card.specs.Cards.{with_pool}
use Rattle.listing.specs.Listing.{active_row, active_at}
use Rattle.readers.proofs.Parts.{is_port_lem, not_port, active_of_row}
use Rattle.readers.proofs.is_active.Goals as goal

pub returns-then-not-is_port : goal.returns-then-not-is_port
unfolding active_at
returns-then-not-is_port c card charged accounting h k = left _ _ _ (not_port (with_pool card (pool_of c.args.owner.now c.args.channel.now charged accounting)) _ _ h c.is_port.ensures.test c.if-not-is_port.true)

pub overflow_cast-p : goal.overflow_cast-p
overflow_cast-p c = omega (arith, c.is_port.ensures.inside (c.if-not-is_port.false))

pub returns-in-None : goal.returns-in-None
unfolding active_row
returns-in-None c card charged accounting h k =
    let s = c in
    let a = s.args in
    active_of_row a.channels.now (with_pool card (pool_of s.args.owner.now s.args.channel.now charged accounting)) _ a.p a.f k
    (is_port_lem (with_pool card (pool_of s.args.owner.now s.args.channel.now charged accounting)) _ _ h c.is_port.ensures.test c.if-not-is_port.false) None
    (sym c.in-None.is ∙ c.channel_of-found.ensures)

pub returns-in-Some : goal.returns-in-Some
unfolding active_row
returns-in-Some c card charged accounting h k =
    let s = c in
    let a = s.args in
    c.is_active.ensures
    ∙ active_of_row a.channels.now (with_pool card (pool_of s.args.owner.now s.args.channel.now charged accounting)) _ a.p a.f k
    (is_port_lem (with_pool card (pool_of s.args.owner.now s.args.channel.now charged accounting)) _ _ h c.is_port.ensures.test c.if-not-is_port.false) (Some _)
    (sym c.in-Some.is ∙ c.channel_of-found.ensures)
