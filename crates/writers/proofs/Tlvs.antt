-- How many octets each TLV takes, and its parts in the order in which they are written. Assumes nothing.
use mathlib.Core.Path.{◌≡◌, sym, ap, ◌∙◌}
use mathlib.Core.List.{List, ◌++◌, append-nil}
use Prim.Native.Nat.{ℕ, ◌+◌, ◌-◌, ◌%◌}
use native.Mathlib.Omega.{arith}
use lib.ListN.{length, replicate, length-append, length-replicate}
use Rattle.octets.specs.Numbers.{oct8, oct16, padded}
use Rattle.octets.proofs.Numbers.{length-oct8, length-oct16, length-oct32}
use Rattle.writers.specs.Tlvs.{tlv_of, target_of, holder_of, flow_of, allocation_of, request_of, sequence_of}
use Rattle.writers.specs.Heads.{head_of}

pub length-tlv : (t : ℕ) (c : List ℕ) → length (tlv_of t c) ≡ 4 + padded (length c)
unfolding tlv_of
length-tlv t c = simp (length-append, length-oct16, length-replicate) (omega arith)

-- a content that fills whole words is not padded
pub whole : (t : ℕ) (c : List ℕ) → length c % 4 ≡ 0 → tlv_of t c ≡ oct16 t ++ oct16 (length c) ++ c
unfolding tlv_of
whole t c h =
    let e : padded (length c) - length c ≡ 0 = omega arith in
    ap (λ (k : ℕ). oct16 t ++ oct16 (length c) ++ c ++ replicate k 0) e ∙ append-nil _

pub length-target : (id : List ℕ) → length (target_of id) ≡ 8 + padded (length id)
unfolding target_of
length-target id = simp length-tlv (omega arith)

-- n is how many octets the circuit id's TLV takes
pub target-parts : (id : List ℕ) (n : ℕ) → n ≡ length (tlv_of 0x0001 id) → oct16 0x1000 ++ oct16 n ++ tlv_of 0x0001 id ≡ target_of id
unfolding target_of
target-parts id n e =
    ap (λ (k : ℕ). oct16 0x1000 ++ oct16 k ++ tlv_of 0x0001 id) e ∙ sym (whole 0x1000 (tlv_of 0x0001 id) (simp length-tlv (omega arith)))

pub length-flow : (kind family count : ℕ) (group sources : List ℕ)
    → length (flow_of kind family count group sources) ≡ 4 + padded (4 + length group + length sources)
unfolding flow_of
length-flow kind family count group sources = simp (length-tlv, length-append, length-oct8, length-oct16)

pub flow-parts : (kind family count : ℕ) (group sources : List ℕ) (n : ℕ) → n ≡ 4 + length group + length sources
    → head_of 0x0019 n kind family count ++ group ++ sources ++ replicate (padded n - n) 0 ≡ flow_of kind family count group sources
unfolding flow_of tlv_of head_of oct8 oct16
flow-parts kind family count group sources n e =
    let w : List ℕ = oct8 kind ++ oct8 family ++ oct16 count ++ group ++ sources in
    let l : length w ≡ n = simp length-append (omega arith) in
    sym (ap (λ (k : ℕ). oct16 0x0019 ++ oct16 k ++ w ++ replicate (padded k - k) 0) l)

pub length-allocation : (amount : ℕ) → length (allocation_of amount) ≡ 8
unfolding allocation_of
length-allocation amount = simp (length-tlv, length-oct32)

pub length-request : (required preferred : ℕ) → length (request_of required preferred) ≡ 12
unfolding request_of
length-request required preferred = simp (length-tlv, length-append, length-oct32)

pub length-sequence : (n : ℕ) → length (sequence_of n) ≡ 8
unfolding sequence_of
length-sequence n = simp (length-tlv, length-oct32)

-- ---- a holder that encloses TLVs, which fill whole words
module _ (t x y : ℕ) (inner : List ℕ) where
  pub length_holder : length (holder_of t x y inner) ≡ 8 + padded (length inner)
  unfolding holder_of
  length_holder = simp (length-tlv, length-append, length-oct8, length-oct16) (omega arith)

  pub holder_parts : length inner % 4 ≡ 0 → head_of t (4 + length inner) x y 0 ++ inner ≡ holder_of t x y inner
  unfolding holder_of head_of oct8 oct16
  holder_parts h =
      let w : List ℕ = oct8 x ++ oct8 y ++ oct16 0 ++ inner in
      let l : length w ≡ 4 + length inner = simp length-append in
      sym (whole t w (omega arith) ∙ ap (λ (k : ℕ). oct16 t ++ oct16 k ++ w) l)

pub length-head : (t n x y z : ℕ) → length (head_of t n x y z) ≡ 8
unfolding head_of
length-head t n x y z = simp (length-append, length-oct8, length-oct16)
