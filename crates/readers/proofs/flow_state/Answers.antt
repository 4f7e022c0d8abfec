use Rattle.std.specs.Prelude.{Some, None}
use native.Mathlib.Omega.{arith}
use mathlib.Core.Path.{◌≡◌, sym, ap, ◌∙◌}
use Rattle.pool.specs.declared.FlowState.{FlowState}
use mathlib.Core.Bool.{true}
use Rattle.octets.proofs.Tests.{left}
use Rattle.pool.specs.Pool.{pool_of}
use Rattle.card.specs.Cards.{Card, has_port, with_pool}
use Rattle.listing.specs.Listing.{active_row, active_at}
use Rattle.readers.specs.Readers.{state_row, flow_state_at}
use Rattle.readers.proofs.Parts.{is_port_lem, not_port, state_of_row, active_of_row}
use Rattle.readers.proofs.flow_state.Goals as goal

pub returns-then-not-is_port : goal.returns-then-not-is_port
unfolding flow_state_at active_at
returns-then-not-is_port c = record { state = λ card h k. c.none.ensures ∙ left _ _ _ (not_port (with_pool card (pool_of c.args.owner.now c.args.channel.now c.args.charged.now c.args.accounting.now)) _ _ h c.is_port.ensures.test c.if-not-is_port.true); active = λ card h k. ap (λ (x : FlowState). x.active) c.none.ensures ∙ left _ _ _ (not_port (with_pool card (pool_of c.args.owner.now c.args.channel.now c.args.charged.now c.args.accounting.now)) _ _ h c.is_port.ensures.test c.if-not-is_port.true) }

pub overflow_cast-p : goal.overflow_cast-p
overflow_cast-p c = omega (arith, c.is_port.ensures.inside (c.if-not-is_port.false))

pub returns-in-None : goal.returns-in-None
unfolding state_row active_row
returns-in-None c =
    let s = c in
    let a = s.args in
    let port : (card : Card) → card.head.port_count ≡ a.count → has_port card a.p ≡ true = λ card h. is_port_lem (with_pool card (pool_of s.args.owner.now s.args.channel.now s.args.charged.now s.args.accounting.now)) _ _ h c.is_port.ensures.test c.if-not-is_port.false in
    let row = sym c.in-None.is ∙ c.channel_of-found.ensures in record { state = λ card h k. c.none-in-None.ensures ∙ state_of_row a.channels.now (with_pool card (pool_of s.args.owner.now s.args.channel.now s.args.charged.now s.args.accounting.now)) _ a.p a.f k (port card h) None row; active = λ card h k. ap (λ (x : FlowState). x.active) c.none-in-None.ensures ∙ active_of_row a.channels.now (with_pool card (pool_of s.args.owner.now s.args.channel.now s.args.charged.now s.args.accounting.now)) _ a.p a.f k (port card h) None row }

pub returns-in-Some : goal.returns-in-Some
unfolding state_row active_row
returns-in-Some c =
    let s = c in
    let a = s.args in
    let port : (card : Card) → card.head.port_count ≡ a.count → has_port card a.p ≡ true = λ card h. is_port_lem (with_pool card (pool_of s.args.owner.now s.args.channel.now s.args.charged.now s.args.accounting.now)) _ _ h c.is_port.ensures.test c.if-not-is_port.false in
    let row = sym c.in-Some.is ∙ c.channel_of-found.ensures in record { state = λ card h k. c.state_of.ensures.state ∙ state_of_row a.channels.now (with_pool card (pool_of s.args.owner.now s.args.channel.now s.args.charged.now s.args.accounting.now)) _ a.p a.f k (port card h) (Some _) row; active = λ card h k. c.state_of.ensures.active ∙ active_of_row a.channels.now (with_pool card (pool_of s.args.owner.now s.args.channel.now s.args.charged.now s.args.accounting.now)) _ a.p a.f k (port card h) (Some _) row }
