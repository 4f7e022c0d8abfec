use mathlib.Core.Path.{ap, ◌∙◌}
use mathlib.Core.List.{List}
use Prim.Native.Nat.{ℕ}
use native.Mathlib.Omega.{arith}
use lib.ListN.{take, length-take}
use Rattle.pool.specs.Pool.{rows_in, as_rows}
use Rattle.listing.specs.Listing.{row_before, in_order, rows_in_order}
use Rattle.listing.proofs.Listings.{ordered-start, ordered_room, ordered-turn, ordered_end, found_few, found_rows}
use Rattle.listing.proofs.Ordering.{listed_by}
use Rattle.listing.proofs.rows_in_order.Goals as goal

pub shared_ref_as_front-k-items : goal.shared_ref_as_front-k-items
shared_ref_as_front-k-items c = found_few (rows_in c.args.owner.now c.args.channel.now c.args.p) c.rows_of-found.ensures

pub loop-k-init : goal.loop-k-init
loop-k-init c = c.none-done.ensures ∙ ordered-start (row_before c.args.channels.now) c.rows_of-found.result.rows

pub place-done-requires : goal.place-done-requires
place-done-requires c =
    let found = c.rows_of-found.result in
    let few = found_few (rows_in c.args.owner.now c.args.channel.now c.args.p) c.rows_of-found.ensures in
    ordered_room (row_before c.args.channels.now) (take found.count found.rows) (omega (arith, few, length-take found.count found.rows)) c.loop-k.k-index c.loop-k.invariant c.loop-k-test.true

pub loop-k-preserved : goal.loop-k-preserved
loop-k-preserved c =
    let found = c.rows_of-found.result in
    let few = found_few (rows_in c.args.owner.now c.args.channel.now c.args.p) c.rows_of-found.ensures in
    ordered-turn (row_before c.args.channels.now) (take found.count found.rows) (omega (arith, few, length-take found.count found.rows)) c.loop-k.k-index c.loop-k.invariant c.loop-k-test.true
    c.place-done.ensures.count c.place-done.ensures.rows

pub returns : goal.returns
unfolding rows_in_order
returns c =
    let found = c.rows_of-found.result in
    let held = rows_in c.args.owner.now c.args.channel.now c.args.p in
    let few = found_few held c.rows_of-found.ensures in
    let before = row_before c.args.channels.now in
    record {
      rows = λ charged accounting.
          ordered_end before (take found.count found.rows) (omega (arith, few, length-take found.count found.rows)) c.loop-k.k-index c.loop-k.invariant c.loop-k-test.false
          ∙ ap (λ (ks : List ℕ). as_rows (in_order before ks)) (found_rows held c.rows_of-found.ensures);
      order = listed_by c.args.channels.now (take 16 held);
    }
