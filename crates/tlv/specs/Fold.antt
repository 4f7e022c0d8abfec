-- The one run over the TLVs of a list, from which every other is made. Assumes nothing: these are definitions.
use Rattle.std.specs.Prelude.{ℕ, zero, suc, List, length, take, drop}
use Rattle.tlv.specs.declared.First.{First}
use Rattle.tlv.specs.declared.First.TheVariants.{End, Broken, Tlv}
use Rattle.tlv.specs.First.{first_tlv}

-- `end` at the end of s, `broken` at a broken length, and at a TLV of type t and content c what `turn t c` makes of what the run over
-- the rest gives
module _ {B : Type 0} (end broken : B) (turn : ℕ → List ℕ → B → B) where
  unfoldable pub fold_by : (List ℕ → B) → List ℕ → First → B
  fold_by rest s End = end
  fold_by rest s Broken = broken
  fold_by rest s (Tlv t n m) = turn t (take n (drop 4 s)) (rest (drop m s))

  -- at most f TLVs
  unfoldable pub fold_up_to : ℕ → List ℕ → B
  fold_up_to zero s = end
  fold_up_to (suc f) s = fold_by (fold_up_to f) s (first_tlv s)

  -- a TLV takes at least one octet, so that the octets of s are always enough
  unfoldable pub fold_tlvs : List ℕ → B
  fold_tlvs s = fold_up_to (length s) s
