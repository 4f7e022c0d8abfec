use mathlib.Core.Path.{◌≡◌}
use Rattle.lists.specs.Lists.{matching}
use Rattle.lists.specs.Ranks.{highest}
use Rattle.lists.proofs.list_decision.Given as goal

abbrev pub invariant-loop-i : goal.invariant-loop-i
invariant-loop-i l = l.best ≡ highest (matching l.entries l.f l.i)
