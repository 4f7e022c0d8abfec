-- How many octets each kind of message takes. Assumes nothing.
use mathlib.Core.Path.{◌≡◌, refl, ap}
use mathlib.Core.Logic.{◌⊎◌, inl, inr}
use mathlib.Core.List.{List, [], ◌∷◌}
use mathlib.Core.Bool.{Bool, true, false, cond}
use Prim.Native.Nat.{ℕ, zero, suc, ◌+◌, ◌*◌, ◌≤◌, ◌<◌, max}
use native.Mathlib.Omega.{arith}
use native.Mathlib.Nat.{le_refl}
use lib.ListN.{length, take, length-append, length-take}
use lib.Dec.{eqb}
use Rattle.octets.specs.Numbers.{padded}
use Rattle.header.specs.declared.Header.{Header}
use Rattle.header.proofs.Messages.{length-message}
use Rattle.items.specs.Items.{items_of, count_of, first_of}
use Rattle.fields.specs.Fields.{circuit_ids}
use Rattle.flows.specs.declared.Flow.{Flow}
use Rattle.flows.specs.Words.{octets_of}
use Rattle.flows.specs.Flows.{width}
use Rattle.flow_octets.specs.FlowOctets.{source_words, flow_tlv}
use Rattle.flow_octets.proofs.FlowOctets.{width_le, length-octets}
use Rattle.channels.specs.Channels.{channel_at}
use Rattle.writers.specs.Tlvs.{target_of, status_of, command_of}
use Rattle.writers.proofs.Tlvs.{length-tlv, length-target, length-flow, length-allocation, length-request, length-sequence, length_holder}
use Rattle.replies.specs.Replies.{reply_header, refusal_of, success_of, amount_reply}
use Rattle.begun.specs.Begun.{admission_of, reallocation_of}
use Rattle.rules.specs.Rules.{rules_of}
use Rattle.rules.proofs.Faults.{fault_tail}
use Rattle.checks.proofs.Named.{all_words}
use Rattle.checks.specs.Table.{id_in, faults, enclosed_of}
use Rattle.control.specs.Control.{failure_of}
use Rattle.queries.specs.Queries.{flow_tlvs, flows_reply}
use Rattle.replyback.specs.Sizes.{ShortSizes, RowSizes, Sizes}
use Rattle.replyback.proofs.Totals.{total, total-fits, two_types, among_fits, first_fits, first-none, type_fits, id-fits, total_of, tail_fits, copy_fits}

zero-or-more : (n : ℕ) → (n ≡ 0) ⊎ (0 < n)
zero-or-more zero = inl refl
zero-or-more (suc n) = inr (omega arith)

-- ---- a Multicast-Flow has at most an IPv6 group and source
words_le : (n : ℕ) (a : List ℕ) → n ≤ 4 → length (octets_of (take n a)) ≤ 16
words_le n a h = omega (arith, length-octets (take n a), length-take n a)

source_le : (family sourced : ℕ) → source_words family sourced ≤ 4
unfolding source_words
source_le family sourced = go (eqb sourced 0)
  where
    go : (b : Bool) → cond b 0 (width family) ≤ 4
    go true = omega arith
    go false = width_le family

flow_le : (f : Flow) → length (flow_tlv f) ≤ 40
unfolding flow_tlv
flow_le f =
    simp length-flow (omega (
      arith,
      words_le (width f.family) f.group (width_le f.family),
      words_le (source_words f.family f.sourced) f.source (source_le f.family f.sourced),
    ))

flows_le : (channels ks : List ℕ) → length (flow_tlvs channels ks) ≤ 40 * length ks
unfolding flow_tlvs
flows_le channels [] = omega arith
flows_le channels (k ∷ ks) = simp length-append (omega (arith, flow_le (channel_at channels k), flows_le channels ks))

-- ---- with a circuit id of at most 63 octets
module _ (id : List ℕ) (hi : length id < 64) where
  target_le : length (target_of id) ≤ 72
  target_le = omega (arith, length-target id)

  command_le : (f : Flow) → length (command_of 1 0 (flow_tlv f)) ≤ 48
  unfolding command_of
  command_le f = omega (arith, length_holder 0x0011 1 0 (flow_tlv f), flow_le f)

  pub short_sizes : ShortSizes id
  unfolding admission_of reallocation_of amount_reply flows_reply
  short_sizes =
      record {
        admission = λ transaction f. simp (length-message, length-append) (omega (arith, target_le, command_le f));
        reallocation = λ transaction required preferred. simp (length-message, length-append, length-request) (omega (arith, target_le));
        amount = λ h kind result code amount. simp (length-message, length-append, length-allocation) (omega (arith, target_le));
        listing = λ h channels ks hk. simp (length-message, length-append) (omega (arith, target_le, flows_le channels ks));
      }

-- ---- refusals
refusal-length : (h : Header) (code : ℕ) (inner : List ℕ) → length (refusal_of h code inner) ≡ 24 + padded (length inner)
unfolding refusal_of status_of
refusal-length h code inner = simp (length-message, length_holder) (omega arith)

failure_length : (h : Header) (code : ℕ) (id : List ℕ) (number : ℕ) (c : List ℕ)
    → length (failure_of h code id number c) ≡ 44 + padded (length id) + padded (length c)
unfolding failure_of
failure_length h code id number c =
    simp (refusal-length, length-append, length-target, length-sequence, length-tlv) (omega arith)

module _ (h : Header) (s : List ℕ) where
  -- the Target of the message, and its circuit id if it has one
  abbrev target : List ℕ
  target = first_of 0x1000 (items_of s)

  target_there : 0 < circuit_ids target → 0 < count_of 0x1000 (items_of s)
  target_there k = go (zero-or-more (count_of 0x1000 (items_of s)))
    where
      go : (count_of 0x1000 (items_of s) ≡ 0) ⊎ (0 < count_of 0x1000 (items_of s)) → 0 < count_of 0x1000 (items_of s)
      go (inl e) = absurd (omega (arith, first-none 0x1000 (items_of s) e, id-fits target k))
      go (inr l) = l

  id_in_target : 0 < circuit_ids target → 4 + padded (length (id_in s)) ≤ length target
  unfolding id_in
  id_in_target k = id-fits target k

  id-within : padded (8 + padded (length (id_in s))) ≤ max 8 (length s)
  unfolding id_in
  id-within = go (zero-or-more (circuit_ids target))
    where
      go : (circuit_ids target ≡ 0) ⊎ (0 < circuit_ids target) → padded (8 + padded (length (id_in s))) ≤ max 8 (length s)
      go (inl e) = omega (arith, first-none 0x0001 (items_of target) e)
      go (inr k) = omega (arith, id_in_target k, first_fits 0x1000 (items_of s) (target_there k), type_fits 0x1000 (items_of s), total-fits s)

  target_row : (code : ℕ) → length (refusal_of h code (target_of (id_in s))) ≤ 24 + max 8 (length s)
  target_row code = simp (refusal-length, length-target) (omega (arith, id-within))

  row_sizes : RowSizes h s
  unfolding enclosed_of
  row_sizes =
      record {
        unhandled = refusal-length h 0x51 [];
        result = refusal-length h 0x2 [];
        broken = refusal-length h 0x53 [];
        missing = simp refusal-length (omega (arith, (all_words h.kind (items_of s)).most));
        fault = simp refusal-length (omega (arith, copy_fits (faults h.kind s), fault_tail (rules_of h.kind) (λ is. total_of is ≤ total_of (items_of s)) (λ i is h. tail_fits i is (total_of (items_of s)) h) [] (items_of s) (le_refl (total_of (items_of s))), total-fits s));
        unknown = target_row 0x500;
        down = target_row 0x6;
        failure = λ code number c front after k e.
            omega (
              arith,
              failure_length h code (id_in s) number c,
              id_in_target k,
              first_fits 0x1000 (items_of s) (target_there k),
              among_fits front c after,
              ap total e,
              two_types 0x1000 0x0011 (λ x. omega arith) (items_of s),
              total-fits s,
            );
      }

success_length : (h : Header) → length (success_of h) ≡ 16
unfolding success_of
success_length h = length-message (reply_header h 91 3 0) []

pub sizes : Sizes
sizes = record { short = short_sizes; rows = row_sizes; success = success_length; failure = failure_length }
