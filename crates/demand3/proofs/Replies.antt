-- What the ledger reads of a reply: its type and Result, what a refusal encloses, and the port and amount of a Bandwidth Transfer.
-- Assumes nothing.
use Rattle.std.specs.Prelude.{Some}
use Prim.Native.Nat.{ℕ, ◌<◌}
use mathlib.Core.Path.{◌≡◌, refl, sym, ap, ◌∙◌}
use mathlib.Core.Bool.{Bool, true, false, cond, ◌||◌}
use mathlib.Core.List.{List, [], ◌∷◌, ◌++◌, append-nil, append_assoc}
use native.Mathlib.Omega.{arith}
use lib.Dec.{eqb}
use Rattle.octets.specs.Numbers.{oct8, oct16, oct24}
use Rattle.header.specs.declared.Header.{Header}
use Rattle.header.specs.Header.{header_in, header_of, message_of}
use Rattle.items.specs.Items.{Item, item, items_of, of_type, count_of, first_of}
use Rattle.items.proofs.Types.{count_miss}
use Rattle.fields.specs.Fields.{circuit_id, allocation_in, sequence_in, status_tlvs}
use Rattle.writers.specs.Tlvs.{tlv_of, bare_of, target_of, status_of, sequence_of, allocation_of}
use Rattle.replies.specs.Replies.{reply_header, refusal_of, success_of, amount_reply}
use Rattle.circuits.specs.Circuits.{id_at, port_of}
use Rattle.tables.proofs.Tables.{own_port}
use Rattle.rules.specs.declared.Rule.{Rule}
use Rattle.rules.specs.Rules.{rules_of, rules_among}
use Rattle.rules.specs.Named.{lacks, missing, bares}
use Rattle.rules.proofs.Faults.{EachRule, OfFirst, fault_named}
use Rattle.checks.specs.Table.{id_in, faults, copy_of, enclosed_of, refused_of}
use Rattle.control.specs.Control.{failure_of}
use Rattle.queries.specs.Queries.{flows_reply, flow_tlvs}
use Rattle.readback.proofs.Tlv.{items-none, items_back}
use Rattle.readback.proofs.Message.{message_back}
use Rattle.readback.proofs.Fields.{read_back}
use Rattle.demand3.specs.Calls.{Tables}
use Rattle.demand3.specs.Reads.{kind_in, result_in, tlvs_in, port_in, amount_in, enclosed_in}
use Rattle.demand3.proofs.Agree.{TablesTaken}

-- ---- type and Result, whatever the transaction
pub kind-none : kind_in [] ≡ 0
unfolding kind_in header_in
kind-none = refl

pub result-none : result_in [] ≡ 0
unfolding result_in header_in
result-none = refl

module _ (h : Header) (body : List ℕ) where
  pub kind-back : kind_in (message_of h body) ≡ h.kind
  unfolding kind_in header_in message_of header_of oct8 oct16 oct24
  kind-back = refl

  pub result-back : h.result < 16 → result_in (message_of h body) ≡ h.result
  unfolding result_in header_in message_of header_of oct8 oct16 oct24
  result-back k = omega arith

  tlvs-back : tlvs_in (message_of h body) ≡ items_of body
  unfolding tlvs_in
  tlvs-back = ap items_of (message_back h body).tlvs

module _ (h : Header) where
  pub kind-refusal : (code : ℕ) (inner : List ℕ) → kind_in (refusal_of h code inner) ≡ 91
  unfolding refusal_of
  kind-refusal code inner = kind-back (reply_header h 91 4 code) (status_of h.kind inner)

  pub result-refusal : (code : ℕ) (inner : List ℕ) → result_in (refusal_of h code inner) ≡ 4
  unfolding refusal_of
  result-refusal code inner = result-back (reply_header h 91 4 code) (status_of h.kind inner) (omega arith)

  pub kind_success : kind_in (success_of h) ≡ 91
  unfolding success_of
  kind_success = kind-back (reply_header h 91 3 0) []

  pub result_success : result_in (success_of h) ≡ 3
  unfolding success_of
  result_success = result-back (reply_header h 91 3 0) [] (omega arith)

  pub kind-amount : (kind result code : ℕ) (id : List ℕ) (amount : ℕ) → kind_in (amount_reply h kind result code id amount) ≡ kind
  unfolding amount_reply
  kind-amount kind result code id amount = kind-back (reply_header h kind result code) (target_of id ++ allocation_of amount)

  pub result-amount : (kind result code : ℕ) (id : List ℕ) (amount : ℕ) → result < 16 → result_in (amount_reply h kind result code id amount) ≡ result
  unfolding amount_reply
  result-amount kind result code id amount = result-back (reply_header h kind result code) (target_of id ++ allocation_of amount)

  pub kind-flows : (id channels ks : List ℕ) → kind_in (flows_reply h id channels ks) ≡ h.kind
  unfolding flows_reply
  kind-flows id channels ks = kind-back (reply_header h h.kind 3 0) (target_of id ++ flow_tlvs channels ks)

-- ---- what a refusal encloses
one-item : (w : List ℕ) (i : Item) → ((r : List ℕ) → items_of (w ++ r) ≡ i ∷ items_of r) → items_of w ≡ i ∷ []
one-item w i s = ap items_of (sym (append-nil w)) ∙ s [] ∙ ap (λ (is : List Item). i ∷ is) items-none

pub enclosed_back : (h : Header) (code : ℕ) (inner : List ℕ) → enclosed_in (refusal_of h code inner) ≡ items_of inner
unfolding refusal_of enclosed_in first_of of_type
enclosed_back h code inner =
    let b = read_back.status h.kind inner in
    ap (λ (is : List Item). items_of (status_tlvs (first_of 0x0106 is)))
    (tlvs-back (reply_header h 91 4 code) (status_of h.kind inner) ∙ one-item (status_of h.kind inner) (item 0x0106 b.content) b.stands)
    ∙ ap items_of b.fields.2

-- a failed command is named by its number
module _ (h : Header) (code : ℕ) (id : List ℕ) (seq : ℕ) (c : List ℕ) where
  abbrev told : List Item
  told =
      item 0x1000 (read_back.target id).content ∷ item 0x0022 (read_back.sequence seq).content ∷ item 0x0011 (read_back.tlv 0x0011 c).content ∷ []

  enclosed_failure : enclosed_in (failure_of h code id seq c) ≡ told
  unfolding failure_of
  enclosed_failure =
      let a = read_back.target id in
      let b = read_back.sequence seq in
      let d = read_back.tlv 0x0011 c in
      enclosed_back h code (target_of id ++ sequence_of seq ++ tlv_of 0x0011 c)
      ∙ ap items_of (append_assoc (target_of id) (sequence_of seq) (tlv_of 0x0011 c))
      ∙ a.stands (sequence_of seq ++ tlv_of 0x0011 c)
      ∙ ap (λ (is : List Item). item 0x1000 a.content ∷ is)
      (b.stands (tlv_of 0x0011 c) ∙ ap (λ (is : List Item). item 0x0022 b.content ∷ is) (one-item (tlv_of 0x0011 c) (item 0x0011 d.content) d.stands))

  pub count_failure : count_of 0x0022 (enclosed_in (failure_of h code id seq c)) ≡ 1
  unfolding count_of of_type
  count_failure = ap (count_of 0x0022) enclosed_failure

  pub sequence_failure : sequence_in (first_of 0x0022 (enclosed_in (failure_of h code id seq c))) ≡ seq
  unfolding first_of of_type
  sequence_failure = ap (λ (is : List Item). sequence_in (first_of 0x0022 is)) enclosed_failure ∙ (read_back.sequence seq).fields.1

-- ---- a refusal by the table names no command: nothing that it encloses is a Sequence-Number
-- w adds no TLV of that type to those after it
unfoldable Unnumbered : List ℕ → Type 0
Unnumbered w = (r : List ℕ) → count_of 0x0022 (items_of (w ++ r)) ≡ count_of 0x0022 (items_of r)

none_unnumbered : Unnumbered []
unfolding Unnumbered
none_unnumbered r = refl

tlv_unnumbered : (k : ℕ) (c : List ℕ) → (k ≡ 0x0022 → ⊥) → Unnumbered (tlv_of k c)
unfolding Unnumbered
tlv_unnumbered k c n r = ap (count_of 0x0022) (items_back k c r) ∙ count_miss (item k c) (items_of r) n

both_unnumbered : (v w : List ℕ) → Unnumbered v → Unnumbered w → Unnumbered (v ++ w)
unfolding Unnumbered
both_unnumbered v w f g r = ap (λ (x : List ℕ). count_of 0x0022 (items_of x)) (append_assoc v w r) ∙ f (w ++ r) ∙ g r

some_unnumbered : (b : Bool) (v w : List ℕ) → Unnumbered v → Unnumbered w → Unnumbered (cond b v w)
some_unnumbered true v w f g = f
some_unnumbered false v w f g = g

-- the first TLV at fault of a 144 is a Target or a Command
abbrev Unlike : ℕ → Type 0
Unlike k = k ≡ 0x0022 → ⊥

copy_unnumbered : (is : List Item) → OfFirst Unlike is → Unnumbered (copy_of is)
unfolding copy_of
copy_unnumbered [] h = none_unnumbered
copy_unnumbered (i ∷ is) h = tlv_unnumbered i.kind i.content h

missing_unnumbered : (rs : List Rule) (is : List Item) → EachRule Unlike rs → Unnumbered (bares (missing rs is))
unfolding missing bares
missing_unnumbered [] is h = none_unnumbered
missing_unnumbered (r ∷ rs) is h = go (lacks r is) (missing rs is) (missing_unnumbered rs is h.1)
  where
    go : (b : Bool) (ts : List ℕ) → Unnumbered (bares ts) → Unnumbered (bares (cond b (r.kind ∷ ts) ts))
    go true ts f = both_unnumbered (bare_of r.kind) (bares ts) (tlv_unnumbered r.kind [] h.0) f
    go false ts f = f

-- the rules of a 144 name no Sequence-Number
ordered_unlike : EachRule Unlike (rules_of 144)
unfolding rules_of rules_among
ordered_unlike = (λ k. omega arith, (λ k. omega arith, tt))

enclosed_unnumbered : (s : List ℕ) (code : ℕ) → Unnumbered (enclosed_of 144 s code)
unfolding enclosed_of target_of
enclosed_unnumbered s code =
    some_unnumbered (eqb code 0x54) _ _ (missing_unnumbered (rules_of 144) (items_of s) ordered_unlike)
    (some_unnumbered (eqb code 0x55) _ _ (copy_unnumbered (faults 144 s) (fault_named Unlike (rules_of 144) ordered_unlike [] (items_of s)))
    (some_unnumbered (eqb code 0x500 || eqb code 0x6) _ _ (tlv_unnumbered 0x1000 (tlv_of 0x0001 (id_in s)) (λ k. omega arith)) none_unnumbered))

pub refused_unnumbered : (h : Header) (s : List ℕ) (code : ℕ) → h.kind ≡ 144 → count_of 0x0022 (enclosed_in (refused_of h s code)) ≡ 0
unfolding count_of of_type Unnumbered
refused_unnumbered h s code e =
    let w : List ℕ = enclosed_of h.kind s code in
    ap (count_of 0x0022) (enclosed_back h code w ∙ ap (λ (k : ℕ). items_of (enclosed_of k s code)) e ∙ ap items_of (sym (append-nil (enclosed_of 144 s code))))
    ∙ enclosed_unnumbered s code []
    ∙ ap (count_of 0x0022) items-none

-- ---- the port of a message that begins with a Target
module _ (t : Tables) (h : Header) (p : ℕ) (rest : List ℕ) where
  pub target_port : TablesTaken t → p < t.ports → port_in t (message_of h (target_of (id_at t.ids p) ++ rest)) ≡ Some p
  unfolding port_in id_in first_of of_type tlvs_in
  target_port k l =
      let a = read_back.target (id_at t.ids p) in
      ap (λ (is : List Item). port_of t.ids t.ports (circuit_id (first_of 0x1000 is))) (tlvs-back h (target_of (id_at t.ids p) ++ rest) ∙ a.stands rest)
      ∙ ap (port_of t.ids t.ports) a.fields.1
      ∙ own_port t.ids t.ports t.channels t.channel_count t.entries t.entry_count k p l

-- ---- the port and the amount of a Bandwidth Transfer
module _ (t : Tables) (h : Header) (kind result code p amount : ℕ) where
  abbrev reply : List ℕ
  reply = amount_reply h kind result code (id_at t.ids p) amount

  abbrev carried : List Item
  carried = item 0x1000 (read_back.target (id_at t.ids p)).content ∷ item 0x0015 (read_back.allocation amount).content ∷ []

  tlvs-amount : tlvs_in reply ≡ carried
  unfolding amount_reply
  tlvs-amount =
      let a = read_back.target (id_at t.ids p) in
      let b = read_back.allocation amount in
      tlvs-back (reply_header h kind result code) (target_of (id_at t.ids p) ++ allocation_of amount)
      ∙ a.stands (allocation_of amount)
      ∙ ap (λ (is : List Item). item 0x1000 a.content ∷ is) (one-item (allocation_of amount) (item 0x0015 b.content) b.stands)

  pub amount-back : amount_in reply ≡ amount
  unfolding amount_in first_of of_type
  amount-back = ap (λ (is : List Item). allocation_in (first_of 0x0015 is)) tlvs-amount ∙ (read_back.allocation amount).fields.1

  pub port_back : TablesTaken t → p < t.ports → port_in t reply ≡ Some p
  unfolding amount_reply
  port_back = target_port t (reply_header h kind result code) p (allocation_of amount)
