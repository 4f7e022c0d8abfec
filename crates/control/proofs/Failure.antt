-- The octets that a Failure encloses. Assumes nothing.
use mathlib.Core.Path.{◌≡◌}
use mathlib.Core.List.{List, ◌++◌}
use Prim.Native.Nat.{ℕ, ◌+◌}
use native.Mathlib.Omega.{arith}
use lib.ListN.{length, length-append}
use Rattle.octets.specs.Numbers.{padded}
use Rattle.writers.specs.Tlvs.{tlv_of, target_of, sequence_of}
use Rattle.writers.proofs.Tlvs.{length-tlv, length-target, length-sequence}

-- Target, Sequence-Number and Command fill whole words
pub length_enclosed : (id : List ℕ) (seq : ℕ) (c : List ℕ)
    → length (target_of id ++ sequence_of seq ++ tlv_of 0x0011 c) ≡ 20 + padded (length id) + padded (length c)
length_enclosed id seq c = simp (length-append, length-target, length-sequence, length-tlv) (omega arith)
