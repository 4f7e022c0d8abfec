use mathlib.Core.Path.{sym, ap, ◌∙◌}
use mathlib.Core.List.{List, [], append-nil}
use Prim.Native.Nat.{ℕ}
use Rattle.octets.specs.Writing.{over}
use Rattle.header.specs.Header.{header_of, message_of}
use Rattle.header.specs.declared.Header.{Header}
use Rattle.header.proofs.Messages.{length-message}
use Rattle.replies.specs.Replies.{reply_header, success_of}
use Rattle.replies.proofs.put_success.Goals as goal

pub returns : goal.returns
unfolding success_of message_of
returns c = record {
  size = sym (length-message (reply_header c.args.h 91 3 0) []);
  text = c.put_header.ensures ∙ ap (λ (x : Header). over (header_of x 0) c.args.reply.now) c.reply_header.ensures ∙ ap (λ (w : List ℕ). over w c.args.reply.now) (sym (append-nil _));
}
