-- What the card writes reads back as the same fields (demand 2), by the definitions that received messages go through.
-- Assumes nothing: these are definitions; the statements are proved in proofs/, and owed by `readback::header_size`.
use Rattle.std.specs.Prelude.{ℕ, ◌+◌, ◌*◌, ◌<◌, ◌≡◌, true, List, [], ◌∷◌, ◌++◌, length, drop}
use Rattle.header.specs.declared.Header.{Header}
use Rattle.header.specs.Header.{usable, header_in, message_of}
use Rattle.items.specs.Items.{item, items_of}
use Rattle.fields.specs.Fields.{circuit_ids, circuit_id, status_in, status_text, status_tlvs, command_in, command_tlvs, allocation_in, request_in, sequence_in, length_ok}
use Rattle.fields.specs.Flow.{width_of, flow_in, group_in, sources_in}
use Rattle.writers.specs.Tlvs.{tlv_of, target_of, status_of, command_of, flow_of, allocation_of, request_of, sequence_of}

-- a message: its header is usable and says h, and its TLVs follow. The numbers of h fit their fields
pub record MessageBack (h : Header) (body : List ℕ) : Type 0 where
  pub size : length (message_of h body) ≡ 16 + length body
  pub is_usable : usable (message_of h body) ≡ true
  pub header : h.result < 16 → h.code < 4096 → h.transaction < 16777216 → header_in (message_of h body) ≡ h
  pub tlvs : drop 16 (message_of h body) ≡ body

-- w is one TLV of type t; its content has the fields that are said; and whatever stands after w reads as it would alone
pub record Reads (w : List ℕ) (t : ℕ) (Fields : List ℕ → Type 0) : Type 0 where
  pub content : List ℕ
  pub stands : (r : List ℕ) → items_of (w ++ r) ≡ item t content ∷ items_of r
  pub fields : Fields content

pub record ReadBack : Type 0 where
  pub message : (h : Header) (body : List ℕ) → MessageBack h body
  -- any TLV, a copy of a received one and a bare header among them
  pub tlv : (t : ℕ) (c : List ℕ) → Reads (tlv_of t c) t (λ x. x ≡ c)
  pub target : (id : List ℕ) → Reads (target_of id) 0x1000 (λ c. (circuit_ids c ≡ 1) × (circuit_id c ≡ id) × (items_of c ≡ item 0x0001 id ∷ []))
  pub status : (kind : ℕ) (inner : List ℕ)
      → Reads (status_of kind inner) 0x0106 (λ c. (status_in c ≡ record { kind = kind; text = 0 }) × (status_text c ≡ []) × (status_tlvs c ≡ inner))
  pub command : (code accounting : ℕ) (inner : List ℕ)
      → Reads (command_of code accounting inner) 0x0011 (λ c. (command_in c ≡ record { code = code; accounting = accounting }) × (command_tlvs c ≡ inner))
  pub allocation : (amount : ℕ) → Reads (allocation_of amount) 0x0015 (λ c. (length_ok 0x0015 c ≡ true) × (allocation_in c ≡ amount))
  pub request : (required preferred : ℕ)
      → Reads (request_of required preferred) 0x0016 (λ c. (length_ok 0x0016 c ≡ true) × (request_in c ≡ record { required = required; preferred = preferred }))
  pub sequence : (n : ℕ) → Reads (sequence_of n) 0x0022 (λ c. (length_ok 0x0022 c ≡ true) × (sequence_in c ≡ n))
  -- a flow of a known family, whose addresses have its width
  pub flow : (kind family count : ℕ) (group sources : List ℕ)
      → 0 < width_of family → length group ≡ width_of family → length sources ≡ width_of family * count
      → Reads (flow_of kind family count group sources) 0x0019
      (λ c. (flow_in c ≡ record { kind = kind; family = family; count = count; agrees = true }) × (group_in c ≡ group) × (sources_in c ≡ sources))
