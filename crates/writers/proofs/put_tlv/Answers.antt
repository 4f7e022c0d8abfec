use native.Mathlib.Omega.{arith}
use mathlib.Core.Path.{◌≡◌}
use mathlib.Core.List.{List, ◌++◌}
use Prim.Native.Nat.{ℕ, ◌+◌, ◌-◌}
use lib.ListN.{length, length-append}
use Rattle.octets.specs.Numbers.{oct16, padded}
use Rattle.octets.proofs.Numbers.{length-oct16}
use Rattle.octets.proofs.Writing.{lent-after}
use Rattle.writers.specs.Tlvs.{tlv_of}
use Rattle.writers.proofs.Tlvs.{length-tlv}
use Rattle.writers.proofs.put_tlv.Goals as goal

pub returns : goal.returns
unfolding tlv_of
returns c = let a = c.args in let w = a.content.now in let h : List ℕ = oct16 a.kind ++ oct16 (length w) in
    let k : c.pad-p.result - length w ≡ padded (length w) - length w = omega arith in
    record {
      size = omega (arith, length-tlv a.kind w, c.pad-p.ensures);
      text = lent-after (h ++ w) _ _ (4 + length w)
          (lent-after h w _ 4 c.put_pair.ensures (simp (length-append, length-oct16)) c.put_copy.ensures)
          (simp (length-append, length-oct16)) (rw k at c.put_zeros.ensures);
    }
