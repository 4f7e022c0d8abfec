use mathlib.Core.List.{List, ◌++◌}
use Prim.Native.Nat.{ℕ}
use native.Mathlib.Omega.{arith}
use Rattle.header.proofs.Messages.{message-by}
use Rattle.writers.specs.Tlvs.{target_of, allocation_of}
use Rattle.replies.specs.Replies.{reply_header, amount_reply}
use Rattle.replies.proofs.Refusals.{length-target-amount, length-amount}
use Rattle.replies.proofs.put_amount.Goals as goal

pub put_header-requires : goal.put_header-requires
put_header-requires c = (omega arith, omega (arith, length-target-amount c.args.id.now c.args.amount, c.put_target_amount-n.ensures.size, c.requires))

pub overflow_add-result : goal.overflow_add-result
overflow_add-result c = omega (arith, length-target-amount c.args.id.now c.args.amount, c.put_target_amount-n.ensures.size, c.requires)

pub returns : goal.returns
unfolding amount_reply
returns c = let a = c.args in let w : List ℕ = target_of a.id.now ++ allocation_of a.amount in
    record {
      size = omega (arith, c.put_target_amount-n.ensures.size, length-target-amount a.id.now a.amount, length-amount a.h a.kind a.res a.code a.id.now a.amount);
      text = message-by (reply_header a.h a.kind a.res a.code) w a.reply.now _ c.put_target_amount-n.ensures.size (omega arith) c.put_target_amount-n.ensures.text (rw c.reply_header.ensures at c.put_header.ensures);
    }
