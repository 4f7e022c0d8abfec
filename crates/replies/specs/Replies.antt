-- Whole messages that the card writes (CARD.md, "What the card writes").
-- Assumes nothing: these are definitions.
use Rattle.std.specs.Prelude.{ℕ, List, [], ◌++◌}
use Rattle.header.specs.declared.Header.{Header}
use Rattle.header.specs.Header.{message_of}
use Rattle.writers.specs.Tlvs.{target_of, status_of, allocation_of}

-- the header of a reply to a message with header h: replies copy the request's transaction, and its partition
abbrev pub reply_header : Header → ℕ → ℕ → ℕ → Header
reply_header h kind result code =
    record { kind = kind; result = result; code = code; partition = h.partition; transaction = h.transaction }

-- the header of a message that the card begins: Result 0, code 0, partition 0
abbrev pub begin_header : ℕ → ℕ → Header
begin_header kind transaction = record { kind = kind; result = 0; code = 0; partition = 0; transaction = transaction }

-- a Generic Response (91), Failure (4), whose Status-Info gives the message type and an empty text, and encloses TLVs
unfoldable pub refusal_of : Header → ℕ → List ℕ → List ℕ
refusal_of h code inner = message_of (reply_header h 91 4 code) (status_of h.kind inner)

-- a Generic Response, Success (3), code 0, header only
unfoldable pub success_of : Header → List ℕ
success_of h = message_of (reply_header h 91 3 0) []

-- Target, then an amount as Bandwidth-Allocation: a Bandwidth Transfer (147), or the answer to a Delegated Bandwidth Query (148)
unfoldable pub amount_reply : Header → ℕ → ℕ → ℕ → List ℕ → ℕ → List ℕ
amount_reply h kind result code id amount = message_of (reply_header h kind result code) (target_of id ++ allocation_of amount)
