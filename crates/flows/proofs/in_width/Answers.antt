use Prim.Native.Nat.{ℕ}
use mathlib.Core.Path.{ap, ◌∙◌}
use Rattle.flows.specs.Words.{zero_from}
use Rattle.flows.specs.Flows.{in_width}
use Rattle.flows.proofs.in_width.Goals as goal

pub returns : goal.returns
unfolding in_width
returns c = c.zero_from.ensures ∙ ap (λ (n : ℕ). zero_from n c.args.address) c.width.ensures.value
