use native.Mathlib.Omega.{arith}
use mathlib.Core.Path.{◌≡◌, refl, ap, ◌∙◌}
use mathlib.Core.List.{List, ◌++◌}
use Prim.Native.Nat.{ℕ, ◌+◌, ◌-◌}
use lib.ListN.{length, replicate, length-append}
use Rattle.octets.specs.Numbers.{padded}
use Rattle.octets.specs.Writing.{over}
use Rattle.octets.proofs.Writing.{lent-after}
use Rattle.writers.specs.Heads.{head_of}
use Rattle.writers.proofs.Tlvs.{length-flow, length-head, flow-parts}
use Rattle.writers.proofs.put_flow.Goals as goal

pub returns : goal.returns
returns c = let a = c.args in let g = a.group.now in let s = a.sources.now in let n : ℕ = 4 + length g + length s in
    let h : List ℕ = head_of 0x0019 n a.kind a.family a.count in
    let k : c.pad-p.result - n ≡ padded n - n = omega arith in
    record {
      size = omega (arith, length-flow a.kind a.family a.count g s, c.pad-p.ensures);
      text = lent-after (h ++ g ++ s) (replicate (padded n - n) 0) a.buf.now (4 + n)
          (lent-after (h ++ g) s a.buf.now (8 + length g)
          (lent-after h g a.buf.now 8 c.put_head.ensures (length-head 0x0019 n a.kind a.family a.count) c.put_copy.ensures)
          (simp (length-append, length-head)) c.put_copy-2.ensures)
          (simp (length-append, length-head) (omega arith)) (rw k at c.put_zeros.ensures)
          ∙ ap (λ (w : List ℕ). over w a.buf.now) (flow-parts a.kind a.family a.count g s n refl);
    }
