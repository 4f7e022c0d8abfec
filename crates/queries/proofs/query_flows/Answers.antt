use mathlib.Core.Path.{refl, ap, ap₂}
use mathlib.Core.List.{List}
use Prim.Native.Nat.{ℕ}
use native.Mathlib.Omega.{arith}
use lib.ListN.{length, length-take}
use Rattle.circuits.proofs.Circuits.{id_short}
use Rattle.card.specs.Cards.{with_pool}
use Rattle.card.specs.Outcome.{writes}
use Rattle.listing.specs.Listing.{rows_in_order}
use Rattle.listing.proofs.Listings.{found_few, rows-listed}
use Rattle.queries.specs.Queries.{flows_reply, flow_query}
use Rattle.card.proofs.Parts.{comes_replied}
use Rattle.queries.proofs.query_flows.Goals as goal

pub shared_ref_as_front-ks : goal.shared_ref_as_front-ks
shared_ref_as_front-ks c =
    let m = c.args.pool.now in
    found_few (rows_in_order c.args.channels.now m c.args.terms.at) (c.rows_in_order-listed.ensures.rows m.charged m.accounting)

pub put_listing-n-requires : goal.put_listing-n-requires
put_listing-n-requires c =
    let listed = c.rows_in_order-listed.result in
    let m = c.args.pool.now in
    let few = found_few (rows_in_order c.args.channels.now m c.args.terms.at) (c.rows_in_order-listed.ensures.rows m.charged m.accounting) in
    (omega arith, omega (arith, id_short c.args.ids.now c.args.terms.at, ap length c.id_at.ensures), omega (arith, few, length-take listed.count listed.rows))

pub returns : goal.returns
unfolding flow_query
returns c =
    let a = c.args in
    let m = a.pool.now in
    comes_replied refl c.changed.ensures c.put_listing-n.ensures
    (λ card t. ap₂ (λ (id ks : List ℕ). writes (with_pool card m) (flows_reply a.h id a.channels.now ks)) c.id_at.ensures (rows-listed a.channels.now m a.terms.at (c.rows_in_order-listed.ensures.rows m.charged m.accounting)))
