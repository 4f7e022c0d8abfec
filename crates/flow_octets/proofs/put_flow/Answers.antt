use borrow.Author.Rules.{rules}
use mathlib.Core.Path.{subst}
use mathlib.Core.List.{List}
use Prim.Native.Nat.{ℕ}
use Rattle.octets.specs.Writing.{Wrote}
use Rattle.flows.proofs.Good.{good-flow}
use Rattle.flow_octets.proofs.FlowOctets.{tlv_is}
use Rattle.flow_octets.proofs.Back.{back}
use Rattle.flow_octets.proofs.put_flow.Goals as goal

pub returns : goal.returns
returns c = record { written = subst (λ (w : List ℕ). Wrote w c.put_flow.result c.args.buf.now c.put_flow.new.buf) (tlv_is c.args.f c.source_count-count.ensures.value c.width.ensures.value c.source_words.ensures.value _ c.put_words-a.ensures.wrote c.put_words-b.ensures.wrote) c.put_flow.ensures; back = λ g. back c.args.f (good-flow c.args.f g) (search rules) (search rules) }
