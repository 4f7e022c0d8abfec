use mathlib.Core.List.{List}
use Prim.Native.Nat.{ℕ}
use native.Mathlib.Omega.{arith}
use Rattle.replies.proofs.Refusals.{length-refusal, refusal-by}
use Rattle.checks.specs.Table.{enclosed_of}
use Rattle.checks.proofs.Named.{enclosed_words}
use Rattle.checks.proofs.put_refused.Goals as goal

pub put_refusal-requires : goal.put_refusal-requires
put_refusal-requires c = (omega (arith, c.requires.0), omega (arith, c.put_enclosed-n.ensures.size, (enclosed_words c.args.h.kind c.args.tlvs.now c.requires.1 c.args.code).most))

pub overflow_add-result : goal.overflow_add-result
overflow_add-result c = omega (arith, c.put_enclosed-n.ensures.size, (enclosed_words c.args.h.kind c.args.tlvs.now c.requires.1 c.args.code).most)

pub returns : goal.returns
returns c = let a = c.args in let w : List ℕ = enclosed_of a.h.kind a.tlvs.now a.code in let m = (enclosed_words a.h.kind a.tlvs.now c.requires.1 a.code).whole in record { size = omega (arith, c.put_enclosed-n.ensures.size, length-refusal a.h a.code w m); text = refusal-by a.h a.code w m a.reply.now _ c.put_enclosed-n.ensures.size (omega (arith, c.requires.0)) c.put_enclosed-n.ensures.text c.put_refusal.ensures }
