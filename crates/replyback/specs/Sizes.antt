-- How many octets the card writes: each kind of message, from what it is made of. Assumes nothing: these are definitions; the
-- statements are proved in proofs/, and owed by `replyback::largest_reply`.
use Rattle.std.specs.Prelude.{ℕ, ◌+◌, ◌≤◌, ◌<◌, max, ◌≡◌, List, ◌∷◌, ◌++◌, length}
use Rattle.octets.specs.Numbers.{padded}
use Rattle.header.specs.declared.Header.{Header}
use Rattle.items.specs.Items.{items_of, first_of}
use Rattle.fields.specs.Fields.{circuit_ids}
use Rattle.flows.specs.declared.Flow.{Flow}
use Rattle.replies.specs.Replies.{success_of, amount_reply}
use Rattle.begun.specs.Begun.{admission_of, reallocation_of}
use Rattle.checks.specs.Table.{id_in, refused_of}
use Rattle.control.specs.Control.{commands_in, failure_of}
use Rattle.queries.specs.Queries.{flows_reply}

-- of messages with a circuit id of at most 63 octets
pub record ShortSizes (id : List ℕ) : Type 0 where
  pub admission : (transaction : ℕ) (f : Flow) → length (admission_of transaction id f) ≤ 136
  pub reallocation : (transaction required preferred : ℕ) → length (reallocation_of transaction id required preferred) ≤ 100
  pub amount : (h : Header) (kind result code amount : ℕ) → length (amount_reply h kind result code id amount) ≤ 96
  pub listing : (h : Header) (channels ks : List ℕ) → length ks ≤ 16 → length (flows_reply h id channels ks) ≤ 728

-- of the refusals of a message with header h and TLVs s
pub record RowSizes (h : Header) (s : List ℕ) : Type 0 where
  pub unhandled : length (refused_of h s 0x51) ≡ 24
  pub result : length (refused_of h s 0x2) ≡ 24
  pub broken : length (refused_of h s 0x53) ≡ 24
  pub missing : length (refused_of h s 0x54) ≤ 32
  pub fault : length (refused_of h s 0x55) ≤ 24 + length s
  -- where the Target is missing an empty circuit id stands for its own
  pub unknown : length (refused_of h s 0x500) ≤ 24 + max 8 (length s)
  pub down : length (refused_of h s 0x6) ≤ 24 + max 8 (length s)
  -- a failed command whose Target and Command came in one message: 16 octets more than that
  pub failure : (code number : ℕ) (c : List ℕ) (front after : List (List ℕ))
      → 0 < circuit_ids (first_of 0x1000 (items_of s)) → commands_in s ≡ front ++ (c ∷ after)
      → length (failure_of h code (id_in s) number c) ≤ 32 + length s

pub record Sizes : Type 0 where
  pub short : (id : List ℕ) → length id < 64 → ShortSizes id
  pub rows : (h : Header) (s : List ℕ) → RowSizes h s
  pub success : (h : Header) → length (success_of h) ≡ 16
  pub failure : (h : Header) (code : ℕ) (id : List ℕ) (number : ℕ) (c : List ℕ)
      → length (failure_of h code id number c) ≡ 44 + padded (length id) + padded (length c)
