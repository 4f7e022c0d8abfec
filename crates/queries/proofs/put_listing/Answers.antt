use mathlib.Core.List.{List, ◌++◌}
use Prim.Native.Nat.{ℕ}
use native.Mathlib.Omega.{arith}
use Rattle.header.specs.declared.Header.{Header}
use Rattle.header.proofs.Messages.{message-by, length-message}
use Rattle.writers.specs.Tlvs.{target_of}
use Rattle.replies.specs.Replies.{reply_header}
use Rattle.queries.specs.Queries.{flow_tlvs, flows_reply}
use Rattle.queries.proofs.Answers.{body_size}
use Rattle.queries.proofs.put_listing.Goals as goal

pub put_header-requires : goal.put_header-requires
put_header-requires c = (omega arith, omega (arith, body_size c.args.id.now c.args.channels.now c.args.ks.now, c.put_target_flows-n.ensures.size, c.requires))

pub overflow_add-result : goal.overflow_add-result
overflow_add-result c = omega (arith, body_size c.args.id.now c.args.channels.now c.args.ks.now, c.put_target_flows-n.ensures.size, c.requires)

pub returns : goal.returns
unfolding flows_reply
returns c =
    let a = c.args in
    let w : List ℕ = target_of a.id.now ++ flow_tlvs a.channels.now a.ks.now in
    let head : Header = reply_header a.h a.h.kind 3 0 in
    let wrote = c.put_target_flows-n.ensures in
    record {
      size = omega (arith, wrote.size, length-message head w);
      text = message-by head w a.reply.now _ wrote.size (omega arith) wrote.text (rw c.reply_header.ensures at c.put_header.ensures);
    }
