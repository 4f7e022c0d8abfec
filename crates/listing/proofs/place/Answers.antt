use lib.ListN.{length}
use mathlib.Core.Path.{refl, sym, ◌∙◌}
use Rattle.listing.specs.Listing.{row_before}
use Rattle.listing.proofs.Placing.{place_start, place_takes, place_passes, place_end}
use borrow.Author.Rules.{rules}
use Prim.Native.Nat.{◌<◌}
use Rattle.listing.proofs.place.Goals as goal
use Rattle.listing.proofs.place.Goals.{then-row_before, else-row_before}

pub loop-i-init : goal.loop-i-init
loop-i-init c = let a = c.args in place_start (row_before a.channels.now) a.k a.done.count a.done.rows

pub loop-i-preserved : goal.loop-i-preserved
loop-i-preserved c =
    let a = c.args in
    let room : a.done.count < length a.done.rows = search rules in
    let inv = c.loop-i.invariant in
    let test = sym c.row_before.ensures in
    elim c.if-row_before.branch [ then-row_before w ↦ (place_takes (row_before a.channels.now) a.k a.done.count a.done.rows room inv c.loop-i-test.true (test ∙ w.if-row_before.true) w.rows-is w.carried-is) | else-row_before w ↦ (place_passes (row_before a.channels.now) a.k a.done.count a.done.rows room inv c.loop-i-test.true (test ∙ w.if-row_before.false) w.rows-is w.carried-is) ]

pub returns : goal.returns
returns c = record { count = refl; rows = let a = c.args in place_end (row_before a.channels.now) a.k a.done.count a.done.rows (search rules) c.loop-i.invariant c.loop-i.auto.i-end c.loop-i-test.false }
