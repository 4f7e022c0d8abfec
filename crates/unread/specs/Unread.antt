-- The received Result Code, padding and reserved octets are not read (CARD.md, "Octets"), on any card. Assumes nothing:
-- these are definitions; the statements are proved in proofs/, and owed by `unread::code_bits`.
use Rattle.std.specs.Prelude.{ℕ, ◌≡◌, List, drop}
use Rattle.header.specs.declared.Header.{Header}
use Rattle.writers.specs.Tlvs.{tlv_of}
use Rattle.replies.specs.Replies.{refusal_of}
use Rattle.card.specs.Cards.{Card}
use Rattle.card.specs.Outcome.{Outcome}
use Rattle.control.specs.Control.{failure_of}
use Rattle.messages.specs.Messages.{received_of}
use Rattle.unread.specs.Alike.{tlvs, content, Alike, SameHeader}

-- two replies: the same, or refusals that differ in the copy of a received TLV alone, whose contents are alike
pub data SameReply : List ℕ → List ℕ → Type 0 where
  equal : {w : List ℕ} → SameReply w w
  fault : {t : ℕ} {c c' : List ℕ} (h : Header) → Alike (content t) c c' → SameReply (refusal_of h 0x55 (tlv_of t c)) (refusal_of h 0x55 (tlv_of t c'))
  failed : {c c' : List ℕ} (h : Header) (code : ℕ) (id : List ℕ) (number : ℕ) → Alike (content 0x0011) c c'
      → SameReply (failure_of h code id number c) (failure_of h code id number c')

pub record SameOutcome (o o' : Outcome) : Type 0 where
  pub card : o.card ≡ o'.card
  pub number : o.number ≡ o'.number
  pub reply : SameReply o.reply o'.reply

pub record Unread : Type 0 where
  pub code : (ids channels : List ℕ) (card : Card) (m m' : List ℕ) (space : ℕ) → SameHeader m m' → drop 16 m ≡ drop 16 m'
      → received_of ids channels card m space ≡ received_of ids channels card m' space
  pub octets : (ids channels : List ℕ) (card : Card) (m m' : List ℕ) (space : ℕ) → SameHeader m m' → Alike tlvs (drop 16 m) (drop 16 m')
      → SameOutcome (received_of ids channels card m space) (received_of ids channels card m' space)
