use mathlib.Core.Path.{◌≡◌, sym, ◌∙◌}
use mathlib.Core.List.{◌++◌}
use Prim.Native.Nat.{◌≤◌}
use native.Mathlib.Omega.{arith}
use lib.ListN.{length-drop, length-append}
use Rattle.octets.proofs.Parts.{rest_part}
use Rattle.octets.proofs.Writing.{lent-after}
use Rattle.writers.specs.Tlvs.{tlv_of, target_of, sequence_of}
use Rattle.writers.proofs.Tlvs.{length-tlv, length-target, length-sequence}
use Rattle.control.proofs.put_enclosed.Goals as goal

pub slice_bounds-put_sequence-count : goal.slice_bounds-put_sequence-count
slice_bounds-put_sequence-count c =
    let most : c.put_target-a.result ≤ 72 = omega (arith, length-target c.args.id.now, c.put_target-a.ensures.size, c.requires) in omega (arith, most)

pub slice_bounds-put_sequence-start : goal.slice_bounds-put_sequence-start
slice_bounds-put_sequence-start c =
    let most : c.put_target-a.result ≤ 72 = omega (arith, length-target c.args.id.now, c.put_target-a.ensures.size, c.requires) in omega (arith, most)

pub put_sequence-requires : goal.put_sequence-requires
put_sequence-requires c =
    let most : c.put_target-a.result ≤ 72 = omega (arith, length-target c.args.id.now, c.put_target-a.ensures.size, c.requires) in simp (rest_part, length-drop) (omega (arith, most, c.put_target-a.auto, c.requires))

pub overflow_add-b : goal.overflow_add-b
overflow_add-b c =
    let most : c.put_target-a.result ≤ 72 = omega (arith, length-target c.args.id.now, c.put_target-a.ensures.size, c.requires) in
    let eight : c.put_sequence.result ≡ 8 = c.put_sequence.ensures.size ∙ length-sequence c.args.seq in omega (arith, most, eight)

pub slice_bounds-put_tlv-count : goal.slice_bounds-put_tlv-count
slice_bounds-put_tlv-count c =
    let most : c.put_target-a.result ≤ 72 = omega (arith, length-target c.args.id.now, c.put_target-a.ensures.size, c.requires) in
    let eight : c.put_sequence.result ≡ 8 = c.put_sequence.ensures.size ∙ length-sequence c.args.seq in omega (arith, most, eight, c.requires)

pub slice_bounds-put_tlv-start : goal.slice_bounds-put_tlv-start
slice_bounds-put_tlv-start c =
    let most : c.put_target-a.result ≤ 72 = omega (arith, length-target c.args.id.now, c.put_target-a.ensures.size, c.requires) in
    let eight : c.put_sequence.result ≡ 8 = c.put_sequence.ensures.size ∙ length-sequence c.args.seq in omega (arith, most, eight, c.requires)

pub put_tlv-n-requires : goal.put_tlv-n-requires
put_tlv-n-requires c =
    let most : c.put_target-a.result ≤ 72 = omega (arith, length-target c.args.id.now, c.put_target-a.ensures.size, c.requires) in
    let eight : c.put_sequence.result ≡ 8 = c.put_sequence.ensures.size ∙ length-sequence c.args.seq in simp (rest_part, length-drop) (omega (arith, most, eight, c.requires))

pub overflow_add-result : goal.overflow_add-result
overflow_add-result c =
    let most : c.put_target-a.result ≤ 72 = omega (arith, length-target c.args.id.now, c.put_target-a.ensures.size, c.requires) in
    let eight : c.put_sequence.result ≡ 8 = c.put_sequence.ensures.size ∙ length-sequence c.args.seq in omega (arith, most, eight, length-tlv 0x0011 c.args.c.now, c.put_tlv-n.ensures.size, c.requires)

pub returns : goal.returns
returns c = let a = c.args in
    let t = c.put_target-a.ensures in
    let q = c.put_sequence.ensures in
    record {
      size = simp length-append (omega (arith, t.size, q.size, c.put_tlv-n.ensures.size));
      text =
          lent-after (target_of a.id.now ++ sequence_of a.seq) (tlv_of 0x0011 a.c.now) a.buf.now _
          (lent-after (target_of a.id.now) (sequence_of a.seq) a.buf.now _ t.text (sym t.size) q.text)
          (simp length-append (omega (arith, t.size, q.size))) c.put_tlv-n.ensures.text;
    }
