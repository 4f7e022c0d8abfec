use mathlib.Core.Path.{ap, ◌∙◌}
use mathlib.Core.List.{List, ◌++◌}
use Prim.Native.Nat.{ℕ}
use native.Mathlib.Omega.{arith}
use Rattle.octets.specs.Writing.{over}
use Rattle.octets.proofs.Writing.{lent-before}
use Rattle.writers.specs.Tlvs.{command_of}
use Rattle.writers.specs.Heads.{command_head}
use Rattle.writers.proofs.Tlvs.{length-head, holder_parts}
use Rattle.flow_octets.specs.FlowOctets.{flow_tlv}
use Rattle.begun.proofs.Sizes.{sized, length-add}
use borrow.Author.Rules.{rules}
use Rattle.begun.proofs.put_add.Goals as goal

pub put_command-requires : goal.put_command-requires
put_command-requires c = (search rules, omega (arith, (sized c.args.f).most, c.put_flow-n.ensures.written.size))

pub overflow_add-result : goal.overflow_add-result
overflow_add-result c = omega (arith, (sized c.args.f).most, c.put_flow-n.ensures.written.size)

pub returns : goal.returns
unfolding command_of
returns c = let a = c.args in let w : List ℕ = flow_tlv a.f in let e = c.put_flow-n.ensures.written.size in
    record {
      size = omega (arith, e, length-add a.f);
      text = lent-before (command_head 1 0 c.put_flow-n.result) w a.buf.now 8 (length-head _ _ _ _ _) (omega arith) c.put_flow-n.ensures.written.text c.put_command.ensures
          ∙ ap (λ (k : ℕ). over (command_head 1 0 k ++ w) a.buf.now) e
          ∙ ap (λ (r : List ℕ). over r a.buf.now) (holder_parts 0x0011 1 0 w (sized a.f).words);
    }
