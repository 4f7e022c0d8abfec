use mathlib.Core.List.{List, ◌++◌}
use Prim.Native.Nat.{ℕ}
use native.Mathlib.Omega.{arith}
use lib.ListN.{length-append}
use Rattle.header.proofs.Messages.{message-by, length-message}
use Rattle.writers.specs.Tlvs.{target_of, command_of}
use Rattle.writers.proofs.Tlvs.{length-target}
use Rattle.flow_octets.specs.FlowOctets.{flow_tlv}
use Rattle.replies.specs.Replies.{begin_header}
use Rattle.begun.specs.Begun.{admission_of}
use Rattle.begun.proofs.Sizes.{sized, length-add}
use Rattle.begun.proofs.put_admission.Goals as goal

pub put_header-requires : goal.put_header-requires
put_header-requires c = (omega arith, omega (arith, length-target c.args.id.now, length-add c.args.f, (sized c.args.f).most, length-append (target_of c.args.id.now) (command_of 1 0 (flow_tlv c.args.f)), c.put_target_add-n.ensures.size, c.requires))

pub overflow_add-result : goal.overflow_add-result
overflow_add-result c = omega (arith, length-target c.args.id.now, length-add c.args.f, (sized c.args.f).most, length-append (target_of c.args.id.now) (command_of 1 0 (flow_tlv c.args.f)), c.put_target_add-n.ensures.size, c.requires)

pub returns : goal.returns
unfolding admission_of
returns c = let a = c.args in let w : List ℕ = target_of a.id.now ++ command_of 1 0 (flow_tlv a.f) in
    record {
      size = omega (arith, c.put_target_add-n.ensures.size, length-message (begin_header 145 a.transaction) w);
      text = message-by (begin_header 145 a.transaction) w a.reply.now _ c.put_target_add-n.ensures.size (omega arith) c.put_target_add-n.ensures.text (rw c.begin_header.ensures at c.put_header.ensures);
    }
