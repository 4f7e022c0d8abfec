-- What a call writes, on any card: nothing, or a message that reads back, passes and fits. Assumes nothing: these are definitions; the
-- statement is proved in proofs/, and owed by `replyback::largest_reply`.
use Rattle.std.specs.Prelude.{ℕ, ◌+◌, ◌≤◌, ◌<◌, max, ◌≡◌, ◌⊎◌, true, false, List, [], length, drop, get_or}
use Rattle.header.specs.Header.{usable, header_in}
use Rattle.tlv.specs.Depth.{depth_of, list_ok}
use Rattle.flows.specs.declared.Flow.{Flow}
use Rattle.circuits.specs.Circuits.{id_at}
use Rattle.card.specs.Cards.{Card}
use Rattle.card.specs.Outcome.{Outcome}
use Rattle.joins.specs.Joins.{join_of}
use Rattle.joins.specs.Asks.{ask_of}
use Rattle.messages.specs.Messages.{received_of}
use Rattle.replyback.specs.Kinds.{Admits, Requests}

-- w as an answer to the message m: usable, Success or Failure, with the partition and the transaction of m; it passes the check of
-- lengths and depth at the depth that its Result allows, and fits the reply buffer, which has at least 4,608 octets
pub record Answer (m w : List ℕ) : Type 0 where
  pub is_usable : usable w ≡ true
  pub result : ((header_in w).result ≡ 3) ⊎ ((header_in w).result ≡ 4)
  pub partition : (header_in w).partition ≡ (header_in m).partition
  pub transaction : (header_in w).transaction ≡ (header_in m).transaction
  pub passes : list_ok (depth_of (header_in w).result) false (drop 16 w) ≡ true
  pub size : length w ≤ max 728 (length m + 16)
  pub fits : length w ≤ 4112

-- an outcome writes nothing, or what is so
pub data MayWrite (So : List ℕ → Type 0) (o : Outcome) : Type 0 where
  silent : o.reply ≡ [] → MayWrite So o
  written : So o.reply → MayWrite So o

-- a message in octets
abbrev pub Octets : List ℕ → Type 0
Octets m = (i : ℕ) → get_or m i 0 < 256

-- w as what a join, and an ask, begins on port p
abbrev pub JoinBegins : List ℕ → Card → ℕ → Flow → List ℕ → Type 0
JoinBegins ids card p f w = Admits w card.head.counter.number (id_at ids p) f × (length w ≤ 136)

abbrev pub AskBegins : List ℕ → Card → ℕ → ℕ → ℕ → List ℕ → Type 0
AskBegins ids card p required preferred w = Requests w card.head.counter.number (id_at ids p) required preferred × (length w ≤ 100)

-- the number of a message that is begun fits its field, and an address has four words
pub record EveryReply : Type 0 where
  pub message : (ids channels : List ℕ) (card : Card) (m : List ℕ) (space : ℕ) → Octets m
      → MayWrite (Answer m) (received_of ids channels card m space)
  pub join : (ids channels entries : List ℕ) (card : Card) (p : ℕ) (f : Flow) (space : ℕ) → card.head.counter.number < 16777216
      → length f.group ≡ 4 → length f.source ≡ 4
      → MayWrite (JoinBegins ids card p f) (join_of ids channels entries card p f space)
  pub ask : (ids : List ℕ) (card : Card) (p required preferred space : ℕ) → card.head.counter.number < 16777216
      → MayWrite (AskBegins ids card p required preferred) (ask_of ids card p required preferred space)
