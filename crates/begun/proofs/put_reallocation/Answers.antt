use mathlib.Core.List.{List, ◌++◌}
use Prim.Native.Nat.{ℕ}
use native.Mathlib.Omega.{arith}
use lib.ListN.{length-append}
use Rattle.header.proofs.Messages.{message-by, length-message}
use Rattle.writers.specs.Tlvs.{target_of, request_of}
use Rattle.writers.proofs.Tlvs.{length-target, length-request}
use Rattle.replies.specs.Replies.{begin_header}
use Rattle.begun.specs.Begun.{reallocation_of}
use Rattle.begun.proofs.put_reallocation.Goals as goal

pub put_header-requires : goal.put_header-requires
put_header-requires c = (omega arith, omega (arith, length-target c.args.id.now, length-request c.args.required c.args.preferred, length-append (target_of c.args.id.now) (request_of c.args.required c.args.preferred), c.put_target_request-n.ensures.size, c.requires))

pub overflow_add-result : goal.overflow_add-result
overflow_add-result c = omega (arith, length-target c.args.id.now, length-request c.args.required c.args.preferred, length-append (target_of c.args.id.now) (request_of c.args.required c.args.preferred), c.put_target_request-n.ensures.size, c.requires)

pub returns : goal.returns
unfolding reallocation_of
returns c = let a = c.args in let w : List ℕ = target_of a.id.now ++ request_of a.required a.preferred in
    record {
      size = omega (arith, c.put_target_request-n.ensures.size, length-message (begin_header 146 a.transaction) w);
      text = message-by (begin_header 146 a.transaction) w a.reply.now _ c.put_target_request-n.ensures.size (omega arith) c.put_target_request-n.ensures.text (rw c.begin_header.ensures at c.put_header.ensures);
    }
