use mathlib.Core.Path.{◌≡◌}
use lib.ListN.{take}
use Rattle.pool.specs.Pool.{as_rows}
use Rattle.listing.specs.Listing.{row_before, in_order}
use Rattle.listing.proofs.rows_in_order.Given as goal

abbrev pub invariant-loop-k : goal.invariant-loop-k
invariant-loop-k l = l.done ≡ as_rows (in_order (row_before l.channels) (take l.k-index l.k-items))
