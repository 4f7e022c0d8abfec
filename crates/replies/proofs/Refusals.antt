-- A refusal whose enclosed TLVs are written first and its head last; and how many octets the replies take. Assumes nothing.
use mathlib.Core.Path.{◌≡◌, sym, ap, ◌∙◌}
use mathlib.Core.List.{List, ◌++◌, append_assoc}
use Prim.Native.Nat.{ℕ, ◌+◌, ◌-◌, ◌%◌, ◌≤◌}
use native.Mathlib.Omega.{arith}
use lib.ListN.{length, take, drop, length-append}
use borrow.Rule.Slice.PartMut.{put_mid}
use Rattle.octets.specs.Numbers.{padded}
use Rattle.octets.specs.Writing.{over}
use Rattle.octets.proofs.Writing.{lent-before}
use Rattle.header.specs.declared.Header.{Header}
use Rattle.header.specs.Header.{header_of, message_of}
use Rattle.header.proofs.Messages.{length_header, length-message}
use Rattle.writers.specs.Tlvs.{holder_of, status_of, target_of, allocation_of}
use Rattle.writers.specs.Heads.{status_head}
use Rattle.writers.proofs.Tlvs.{length_holder, holder_parts, length-head, length-target, length-allocation}
use Rattle.replies.specs.Replies.{reply_header, refusal_of, amount_reply}
use Rattle.replies.specs.Heads.{refusal_head}

pub length-refusal-head : (h : Header) (code n : ℕ) → length (refusal_head h code n) ≡ 24
unfolding refusal_head
length-refusal-head h code n = simp (length-append, length_header, length-head)

-- the enclosed TLVs fill whole words
module _ (h : Header) (code : ℕ) (inner : List ℕ) (m : length inner % 4 ≡ 0) where
  length-status : length (status_of h.kind inner) ≡ 8 + length inner
  unfolding status_of
  length-status = length_holder 0x0106 0 h.kind inner ∙ omega arith

  pub length-refusal : length (refusal_of h code inner) ≡ 24 + length inner
  unfolding refusal_of
  length-refusal = length-message (reply_header h 91 4 code) (status_of h.kind inner) ∙ omega (arith, length-status)

  refusal-parts : refusal_head h code (length inner) ++ inner ≡ refusal_of h code inner
  unfolding refusal_of refusal_head message_of status_of
  refusal-parts =
      append_assoc (header_of (reply_header h 91 4 code) (8 + length inner)) (status_head h.kind (length inner)) inner
      ∙ ap (λ (w : List ℕ). header_of (reply_header h 91 4 code) (8 + length inner) ++ w) (holder_parts 0x0106 0 h.kind inner m)
      ∙ ap (λ (k : ℕ). header_of (reply_header h 91 4 code) k ++ holder_of 0x0106 0 h.kind inner) (sym length-status)

  -- the rest of l from 24 on is lent to the writer of inner, and then the head is written
  pub refusal-by : (l : List ℕ) {y z : List ℕ} (n : ℕ) → n ≡ length inner → 24 ≤ length l
      → y ≡ over inner (take (length l - 24) (drop 24 l)) → z ≡ over (refusal_head h code n) (put_mid 24 (length l - 24) l y)
      → z ≡ over (refusal_of h code inner) l
  refusal-by l n en hl ey ez =
      lent-before (refusal_head h code n) inner l 24 (length-refusal-head h code n) hl ey ez
      ∙ ap (λ (w : List ℕ). over w l) (ap (λ (k : ℕ). refusal_head h code k ++ inner) en ∙ refusal-parts)

pub length-target-amount : (id : List ℕ) (amount : ℕ) → length (target_of id ++ allocation_of amount) ≡ 16 + padded (length id)
length-target-amount id amount = simp (length-append, length-target, length-allocation) (omega arith)

pub length-amount : (h : Header) (kind result code : ℕ) (id : List ℕ) (amount : ℕ)
    → length (amount_reply h kind result code id amount) ≡ 32 + padded (length id)
unfolding amount_reply
length-amount h kind result code id amount =
    length-message (reply_header h kind result code) (target_of id ++ allocation_of amount) ∙ omega (arith, length-target-amount id amount)
