use mathlib.Core.Path.{sym, ap, ◌∙◌}
use mathlib.Core.Bool.{Bool, cond}
use mathlib.Core.List.{List}
use lib.ListN.{length}
use lib.Dec.{ltb}
use Rattle.items.specs.Items.{items_of}
use Rattle.rules.specs.declared.Rule.{Rule}
use Rattle.rules.specs.Named.{missing}
use Rattle.checks.proofs.named_code.Goals as goal

pub returns-then-is_missing : goal.returns-then-is_missing
returns-then-is_missing c = ap (λ (b : Bool). cond b 0x54 0x55) (sym c.if-is_missing.true ∙ c.is_missing.ensures ∙ ap (λ (rs : List Rule). ltb 0 (length (missing rs (items_of c.args.tlvs.now)))) c.rules_of.ensures.rules)

pub returns : goal.returns
returns c = ap (λ (b : Bool). cond b 0x54 0x55) (sym c.if-is_missing.false ∙ c.is_missing.ensures ∙ ap (λ (rs : List Rule). ltb 0 (length (missing rs (items_of c.args.tlvs.now)))) c.rules_of.ensures.rules)
