use mathlib.Core.Path.{ap, ◌∙◌}
use mathlib.Core.List.{List}
use Prim.Native.Nat.{ℕ}
use Rattle.items.specs.Items.{items_of, first_of}
use Rattle.commands.specs.Directives.{flow_content}
use Rattle.commands.proofs.flow_content.Goals as goal

pub returns : goal.returns
unfolding flow_content
returns c = c.first_of.ensures ∙ ap (λ (t : List ℕ). first_of 0x0019 (items_of t)) c.command_tlvs.ensures
