use mathlib.Core.Path.{◌≡◌, sym, ap, ◌∙◌}
use mathlib.Core.Bool.{true, false}
use Rattle.octets.specs.Tests.{every}
use Rattle.octets.specs.Numbers.{be8, be16}
use Rattle.octets.proofs.Tests.{second_of}
use Rattle.fields.specs.Flow.{flow_in}
use Rattle.fields.specs.declared.FlowFields.{FlowFields}
use Rattle.flow_octets.specs.FlowOctets.{type_ok, flow_formed}
use Rattle.flow_octets.proofs.flow_formed.Goals as goal

pub returns-else-type_ok : goal.returns-else-type_ok
unfolding flow_formed flow_in every
returns-else-type_ok c = let t : type_ok (be8 c.args.c.now 0) (be16 c.args.c.now 2) ≡ false = sym (ap (λ (x : FlowFields). type_ok x.kind x.count) c.flow_in-f.ensures) ∙ sym c.type_ok.ensures ∙ c.if-type_ok.false in rw t c.if-type_ok.false

pub returns-then-type_ok : goal.returns-then-type_ok
unfolding flow_formed flow_in
returns-then-type_ok c = let t : type_ok (be8 c.args.c.now 0) (be16 c.args.c.now 2) ≡ true = sym (ap (λ (x : FlowFields). type_ok x.kind x.count) c.flow_in-f.ensures) ∙ sym c.type_ok.ensures ∙ c.if-type_ok.true in ap (λ (x : FlowFields). x.agrees) c.flow_in-f.ensures ∙ second_of _ _ t
