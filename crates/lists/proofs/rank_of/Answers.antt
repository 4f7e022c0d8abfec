use mathlib.Core.Path.{ap}
use Prim.Native.Nat.{ℕ}
use Rattle.lists.specs.Ranks.{rank_of}
use Rattle.lists.proofs.rank_of.Goals as goal

pub returns : goal.returns
unfolding rank_of
returns c = ap (λ (s : ℕ). record { group_length = c.args.e.group_length; source_length = c.args.e.source_length; strength = s }) c.strength_of.ensures
