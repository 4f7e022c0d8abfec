use mathlib.Core.Path.{◌≡◌}
use lib.ListN.{drop}
use Rattle.flows.specs.Words.{address_at}
use Rattle.lists.specs.Prefix.{prefix_matches}
use Rattle.lists.proofs.prefix_at.Given as goal

abbrev pub invariant-loop-i : goal.invariant-loop-i
invariant-loop-i l = prefix_matches l.length (address_at l.entries l.at) l.b ≡ prefix_matches l.left (drop l.i (address_at l.entries l.at)) (drop l.i l.b)
