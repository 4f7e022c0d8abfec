use native.Mathlib.Omega.{arith}
use mathlib.Core.Path.{ap, ◌∙◌}
use lib.ListN.{length-drop}
use Rattle.octets.proofs.Parts.{rest_part}
use Rattle.tlv.specs.First.{first_tlv}
use Rattle.tlv.proofs.Firsts.{first_end}
use Rattle.items.proofs.tlv_at.Goals as goal

pub returns-then-s-at : goal.returns-then-s-at
returns-then-s-at c = first_end _ (simp length-drop (omega arith))

pub returns : goal.returns
returns c = c.first_tlv.ensures ∙ ap first_tlv (rest_part c.args.at c.args.s.now)
