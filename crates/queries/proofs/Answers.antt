-- Multicast-Flows that are written one directly after the other.
--     flows_turn       one flow more
--     flows_size, flows_most     each takes at most 40 octets
--     body_size        so many are the octets of a Target and the flows after it
-- Assumes nothing.
use Prim.Native.Nat.{ℕ, ◌+◌, ◌*◌, ◌-◌, ◌≤◌, ◌<◌}
use mathlib.Core.Path.{◌≡◌, refl, sym, ap, ◌∙◌}
use mathlib.Core.List.{List, [], ◌∷◌, ◌++◌, append-nil, append_assoc}
use native.Mathlib.Numerals.{add-one}
use native.Mathlib.Omega.{arith}
use lib.ListN.{length, take, drop, get_or, length-take, length-append}
use lib.Seq.{take-suc}
use borrow.Rule.Slice.PartMut.{put_mid}
use Rattle.octets.specs.Writing.{over, Wrote}
use Rattle.octets.proofs.Writing.{lent-after}
use Rattle.octets.specs.Numbers.{padded}
use Rattle.writers.specs.Tlvs.{target_of}
use Rattle.writers.proofs.Tlvs.{length-target}
use Rattle.flows.specs.declared.Flow.{Flow}
use Rattle.flow_octets.specs.FlowOctets.{flow_tlv}
use Rattle.channels.specs.Channels.{channel_at}
use Rattle.begun.proofs.Sizes.{sized}
use Rattle.queries.specs.Queries.{flow_tlvs}

module _ (channels : List ℕ) where
  flows-append : (xs ys : List ℕ) → flow_tlvs channels (xs ++ ys) ≡ flow_tlvs channels xs ++ flow_tlvs channels ys
  unfolding flow_tlvs
  flows-append [] ys = refl
  flows-append (x ∷ xs) ys =
      ap (λ (r : List ℕ). flow_tlv (channel_at channels x) ++ r) (flows-append xs ys) ∙ sym (append_assoc (flow_tlv (channel_at channels x)) (flow_tlvs channels xs) (flow_tlvs channels ys))

  pub flows_size : (xs : List ℕ) → length (flow_tlvs channels xs) ≤ 40 * length xs
  unfolding flow_tlvs
  flows_size [] = omega arith
  flows_size (x ∷ xs) =
      omega (arith, flows_size xs, (sized (channel_at channels x)).most, length-append (flow_tlv (channel_at channels x)) (flow_tlvs channels xs))

  pub flows_most : (ks : List ℕ) (i : ℕ) → length (flow_tlvs channels (take i ks)) ≤ 40 * i
  flows_most ks i = omega (arith, flows_size (take i ks), length-take i ks)

  flows-more : (ks : List ℕ) (i : ℕ) → i < length ks → flow_tlvs channels (take i ks) ++ flow_tlv (channel_at channels (get_or ks i 0)) ≡ flow_tlvs channels (take (i + 1) ks)
  unfolding flow_tlvs
  flows-more ks i h =
      ap (λ (r : List ℕ). flow_tlvs channels (take i ks) ++ r) (sym (append-nil (flow_tlv (channel_at channels (get_or ks i 0)))))
      ∙ sym (flows-append (take i ks) (get_or ks i 0 ∷ []))
      ∙ ap (flow_tlvs channels) (sym (take-suc ks i 0 h))
      ∙ ap (λ (n : ℕ). flow_tlvs channels (take n ks)) (sym (add-one i))

  -- the flow of row i after those before it: x is the buffer, y what comes back of the part that was lent
  module _ (ks : List ℕ) {i at n : ℕ} {f : Flow} {x y l : List ℕ} (h : i < length ks) (inv : Wrote (flow_tlvs channels (take i ks)) at l x)
      (e : f ≡ channel_at channels (get_or ks i 0)) (w : Wrote (flow_tlv f) n (take (length x - at) (drop at x)) y)
    where
      tlv_is : flow_tlvs channels (take i ks) ++ flow_tlv f ≡ flow_tlvs channels (take (i + 1) ks)
      tlv_is = ap (λ (g : Flow). flow_tlvs channels (take i ks) ++ flow_tlv g) e ∙ flows-more ks i h

      pub flows_turn : Wrote (flow_tlvs channels (take (i + 1) ks)) (at + n) l (put_mid at (length x - at) x y)
      flows_turn = record {
        size = omega (arith, inv.size, w.size, ap length tlv_is, length-append (flow_tlvs channels (take i ks)) (flow_tlv f));
        text =
            lent-after (flow_tlvs channels (take i ks)) (flow_tlv f) l at inv.text (sym inv.size) w.text
            ∙ ap (λ (v : List ℕ). over v l) tlv_is;
      }

-- the Target and the flows after it
pub body_size : (id channels ks : List ℕ) → length (target_of id ++ flow_tlvs channels ks) ≤ 8 + padded (length id) + 40 * length ks
body_size id channels ks = omega (arith, length-target id, flows_size channels ks, length-append (target_of id) (flow_tlvs channels ks))
