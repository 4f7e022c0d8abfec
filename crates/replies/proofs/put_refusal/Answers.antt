use Prim.Native.Nat.{◌+◌}
use Rattle.octets.proofs.Writing.{lent-after}
use Rattle.header.specs.Header.{header_of}
use Rattle.header.proofs.Messages.{length_header}
use Rattle.writers.specs.Heads.{status_head}
use Rattle.replies.specs.Replies.{reply_header}
use Rattle.replies.specs.Heads.{refusal_head}
use Rattle.replies.proofs.put_refusal.Goals as goal

pub returns : goal.returns
unfolding refusal_head
returns c = let a = c.args in
    lent-after (header_of (reply_header a.h 91 4 a.code) (8 + a.n)) (status_head a.h.kind a.n) _ 16
    (rw c.reply_header.ensures at c.put_header.ensures) (length_header _ _) c.put_status.ensures
