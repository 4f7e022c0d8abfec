-- How a message that the card wrote reads, by the definitions that received messages go through (demand 2).
-- Assumes nothing: these are definitions; the statements are in Kinds, Sizes and Every.
use Rattle.std.specs.Prelude.{ℕ, ◌≡◌, true, false, List, [], ◌∷◌, drop}
use Rattle.header.specs.declared.Header.{Header}
use Rattle.header.specs.Header.{usable, header_in}
use Rattle.tlv.specs.Depth.{depth_of, list_ok}
use Rattle.items.specs.Items.{Item, item, items_of}
use Rattle.fields.specs.Fields.{circuit_ids, circuit_id, status_in, status_text, status_tlvs}
use Rattle.replies.specs.Replies.{reply_header}

-- w is a usable message with header h and these TLVs, and passes the check of lengths and depth at the depth that its Result allows
pub record Says (w : List ℕ) (h : Header) (is : List Item) : Type 0 where
  pub is_usable : usable w ≡ true
  pub header : header_in w ≡ h
  pub tlvs : items_of (drop 16 w) ≡ is
  pub passes : list_ok (depth_of h.result) false (drop 16 w) ≡ true

-- a Target with content c holds one circuit id, this one, and nothing else
pub record Names (c id : List ℕ) : Type 0 where
  pub one : circuit_ids c ≡ 1
  pub same : circuit_id c ≡ id
  pub alone : items_of c ≡ item 0x0001 id ∷ []

-- a Status-Info with content c gives this message type and an empty text, and encloses these TLVs
pub record Encloses (c : List ℕ) (kind : ℕ) (is : List Item) : Type 0 where
  pub about : status_in c ≡ record { kind = kind; text = 0 }
  pub text : status_text c ≡ []
  pub tlvs : items_of (status_tlvs c) ≡ is

-- a Generic Response (91), Failure (4), to a message with header h: one Status-Info, that encloses these TLVs
pub record Refuses (w : List ℕ) (h : Header) (code : ℕ) (is : List Item) : Type 0 where
  pub content : List ℕ
  pub says : Says w (reply_header h 91 4 code) (item 0x0106 content ∷ [])
  pub status : Encloses content h.kind is

-- each of some types as a bare header: a TLV without content
unfoldable pub absent : List ℕ → List Item
absent [] = []
absent (t ∷ ts) = item t [] ∷ absent ts
