use Rattle.listing.specs.Listing.{row_before}
use Rattle.listing.proofs.Placing.{Placing}
use Rattle.listing.proofs.place.Given as goal

abbrev pub invariant-loop-i : goal.invariant-loop-i
invariant-loop-i l = Placing (row_before l.channels) l.k l.n l.initial.rows l.i l.carried l.rows
