use mathlib.Core.Path.{◌≡◌}
use mathlib.Core.List.{List, ◌++◌}
use Prim.Native.Nat.{ℕ, ◌%◌, ◌≤◌}
use native.Mathlib.Omega.{arith}
use lib.ListN.{length}
use Rattle.writers.specs.Tlvs.{tlv_of, target_of, sequence_of}
use Rattle.replies.proofs.Refusals.{length-refusal, refusal-by}
use Rattle.control.specs.Control.{failure_of}
use Rattle.control.proofs.Failure.{length_enclosed}
use Rattle.control.proofs.put_failure.Goals as goal

pub put_refusal-requires : goal.put_refusal-requires
put_refusal-requires c =
    let most : c.put_enclosed-n.result ≤ 4180 = omega (arith, length_enclosed c.args.id.now c.args.seq c.args.c.now, c.put_enclosed-n.ensures.size, c.requires) in omega (arith, most, c.requires)

pub overflow_add-result : goal.overflow_add-result
overflow_add-result c =
    let most : c.put_enclosed-n.result ≤ 4180 = omega (arith, length_enclosed c.args.id.now c.args.seq c.args.c.now, c.put_enclosed-n.ensures.size, c.requires) in omega (arith, most)

pub returns : goal.returns
unfolding failure_of
returns c = let a = c.args in
    let w : List ℕ = target_of a.id.now ++ sequence_of a.seq ++ tlv_of 0x0011 a.c.now in
    let l = length_enclosed a.id.now a.seq a.c.now in
    let e = c.put_enclosed-n.ensures.size in
    let m : length w % 4 ≡ 0 = omega arith in
    record {
      size = omega (arith, e, length-refusal a.h a.code w m);
      text = refusal-by a.h a.code w m a.reply.now _ e (omega arith) c.put_enclosed-n.ensures.text c.put_refusal.ensures;
    }
