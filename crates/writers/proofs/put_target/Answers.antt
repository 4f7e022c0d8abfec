use native.Mathlib.Omega.{arith}
use mathlib.Core.Path.{ap, ◌∙◌}
use mathlib.Core.List.{List, ◌++◌}
use Prim.Native.Nat.{ℕ}
use lib.ListN.{length-append}
use Rattle.octets.specs.Numbers.{oct16}
use Rattle.octets.specs.Writing.{over}
use Rattle.octets.proofs.Numbers.{length-oct16}
use Rattle.octets.proofs.Writing.{lent-before}
use Rattle.writers.specs.Tlvs.{tlv_of}
use Rattle.writers.proofs.Tlvs.{length-tlv, length-target, target-parts}
use Rattle.writers.proofs.put_target.Goals as goal

pub overflow_cast-n : goal.overflow_cast-n
overflow_cast-n c = omega (arith, c.put_tlv-n.ensures.size, length-tlv 1 c.args.id.now, c.requires)

pub overflow_add-result : goal.overflow_add-result
overflow_add-result c = omega (arith, c.put_tlv-n.ensures.size, length-tlv 1 c.args.id.now, c.requires)

pub returns : goal.returns
returns c = let a = c.args in let w : List ℕ = tlv_of 0x0001 a.id.now in let n = c.put_tlv-n.result in
    record {
      size = omega (arith, c.put_tlv-n.ensures.size, length-tlv 1 a.id.now, length-target a.id.now);
      text = lent-before (oct16 0x1000 ++ oct16 n) w a.buf.now 4 (simp (length-append, length-oct16)) (omega arith) c.put_tlv-n.ensures.text c.put_pair.ensures
          ∙ ap (λ (r : List ℕ). over r a.buf.now) (target-parts a.id.now n c.put_tlv-n.ensures.size);
    }
