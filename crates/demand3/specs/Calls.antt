-- A host's calls, the builds that answer them, and lists of calls. Assumes nothing: these are definitions.
use Rattle.std.specs.Prelude.{ℕ, Bool, List, [], ◌∷◌, map, Option, Some}
use Rattle.flows.specs.declared.Flow.{Flow}
use Rattle.channels.specs.Channels.{channel_at}
use Rattle.card.specs.Cards.{Card}
use Rattle.card.specs.Start.{Started, start_of}
use Rattle.card.specs.Outcome.{Outcome}
use Rattle.card.specs.Calls.{port_up_of, port_down_of, set_delegation_of, leave_of}
use Rattle.card.specs.Figures.{up_of, delegation_of, committed_at}
use Rattle.joins.specs.Joins.{join_of}
use Rattle.joins.specs.Asks.{ask_of}
use Rattle.listing.specs.Listing.{flows_at, active_at}
use Rattle.messages.specs.Messages.{received_of}

-- what start is given beside the first transaction number: the tables with their counts, and the two switches
pub record Tables : Type 0 where
  pub ids : List ℕ
  pub ports : ℕ
  pub channels : List ℕ
  pub channel_count : ℕ
  pub entries : List ℕ
  pub entry_count : ℕ
  pub white_cac : Bool
  pub add_cac : Bool

-- a call with its arguments; `space` is how many octets the lent reply buffer has
pub data Call : Type 0 where
  port_up : (p : ℕ) → Call
  port_down : (p : ℕ) → Call
  set_delegation : (p amount : ℕ) → Call
  join : (p : ℕ) (f : Flow) (space : ℕ) → Call
  leave : (p : ℕ) (f : Flow) → Call
  ask : (p required preferred space : ℕ) → Call
  message : (octets : List ℕ) (space : ℕ) → Call

-- what a host has of a card: its start, its calls, and the figures and the list of a port's flows that it reads
pub record Build : Type 0 where
  pub start : Tables → ℕ → Started
  pub outcome : Tables → Card → Call → Outcome
  pub is_up : Card → ℕ → Bool
  pub delegation : Card → ℕ → ℕ
  pub committed : Tables → Card → ℕ → ℕ
  pub active : Tables → Card → ℕ → Flow → Bool
  pub flows : Tables → Card → ℕ → List Flow

-- what each of our calls is proved to come to
unfoldable pub outcome_of : Tables → Card → Call → Outcome
outcome_of t card (port_up p) = port_up_of card p
outcome_of t card (port_down p) = port_down_of card p
outcome_of t card (set_delegation p amount) = set_delegation_of t.channels card p amount
outcome_of t card (join p f space) = join_of t.ids t.channels t.entries card p f space
outcome_of t card (leave p f) = leave_of t.channels card p f
outcome_of t card (ask p required preferred space) = ask_of t.ids card p required preferred space
outcome_of t card (message octets space) = received_of t.ids t.channels card octets space

unfoldable pub started_of : Tables → ℕ → Started
started_of t first =
    start_of t.ids t.ports t.channels t.channel_count t.entries t.entry_count t.white_cac t.add_cac first

-- our build: the definitions that the public functions are proved to return; a listed row of the channel table stands for its flow
abbrev pub ours : Build
ours =
    record {
      start = started_of;
      outcome = outcome_of;
      is_up = up_of;
      delegation = delegation_of;
      committed = λ t. committed_at t.channels;
      active = λ t. active_at t.channels;
      flows = λ t card p. map (channel_at t.channels) (flows_at t.channels card p);
    }

-- a list of calls, each of which gets the card as the last one left it
unfoldable pub card_after : Build → Tables → Card → List Call → Card
card_after b t card [] = card
card_after b t card (x ∷ xs) = card_after b t (b.outcome t card x).card xs

-- what the host saw of a call: its arguments, the number, and the reply
pub record Seen : Type 0 where
  pub call : Call
  pub number : ℕ
  pub reply : List ℕ

abbrev pub seen : Build → Tables → Card → Call → Seen
seen b t card x = record { call = x; number = (b.outcome t card x).number; reply = (b.outcome t card x).reply }

unfoldable pub history : Build → Tables → Card → List Call → List Seen
history b t card [] = []
history b t card (x ∷ xs) = seen b t card x ∷ history b t (b.outcome t card x).card xs

-- ---- what some statements single out
-- a join, the host asking, a message; and any other call, by the port that it is about, if it is about one
unfoldable pub by_call {ℓ} : {A : Type ℓ} → (ℕ → Flow → ℕ → A) → (ℕ → A) → (List ℕ → ℕ → A) → (Option ℕ → A) → Call → A
by_call joins asks told other (join p f space) = joins p f space
by_call joins asks told other (ask p required preferred space) = asks p
by_call joins asks told other (message m space) = told m space
by_call joins asks told other (port_up p) = other (Some p)
by_call joins asks told other (port_down p) = other (Some p)
by_call joins asks told other (set_delegation p amount) = other (Some p)
by_call joins asks told other (leave p f) = other (Some p)

-- what is said of a join, and of every other call; the same of a message
abbrev pub of_join : {A : Type 0} → (ℕ → Flow → ℕ → A) → A → Call → A
of_join read other = by_call read (λ p. other) (λ m space. other) (λ q. other)

abbrev pub of_message : {A : Type 0} → (List ℕ → ℕ → A) → A → Call → A
of_message read other = by_call (λ p f space. other) (λ p. other) read (λ q. other)
