-- Whose grants a card takes. The operator's incident: after a restart an old grant answered a new question.
-- All is read off the octets that a card wrote and those that it is handed. Assumes nothing: these are definitions.
use Rattle.std.specs.Prelude.{ℕ, ◌+◌, ◌≤◌, ◌<◌, ◌≡◌, Bool, cond, ◌||◌, List, [], ◌∷◌, ◌++◌, map, length, get_or, eqb, Some}
use Rattle.octets.specs.Members.{Among}
use Rattle.header.specs.Header.{header_in}
use Rattle.card.specs.Cards.{Card}
use Rattle.numbers.specs.Numbers.{number_after}
use Rattle.demand3.specs.Calls.{Tables, Call, Seen, ours, outcome_of, started_of, card_after, history}
use Rattle.demand3.specs.Calls.Call.{message}
use Rattle.demand3.specs.Reads.{kind_in, port_in}
use Rattle.demand3.specs.Corollaries.{card_from}

-- ---- what a card wrote
-- the octets that each call wrote, in order; none where it wrote nothing
abbrev pub written_from : Tables → Card → List Call → List (List ℕ)
written_from t card calls = map (λ (s : Seen). s.reply) (history ours t card calls)

-- since a start
abbrev pub written_of : Tables → ℕ → List Call → List (List ℕ)
written_of t first calls = written_from t (started_of t first).card calls

unfoldable pub transaction_in : List ℕ → ℕ
transaction_in m = (header_in m).transaction

-- the types of the messages that a card begins: Admission Control (145), Bandwidth Reallocation Request (146)
unfoldable pub begun_kind : ℕ → Bool
begun_kind kind = eqb kind 145 || eqb kind 146

-- their transaction numbers, in order
unfoldable pub numbers_of : List (List ℕ) → List ℕ
numbers_of [] = []
numbers_of (m ∷ ms) = cond (begun_kind (kind_in m)) (transaction_in m ∷ numbers_of ms) (numbers_of ms)

abbrev pub begun_of : Tables → ℕ → List Call → List ℕ
begun_of t first calls = numbers_of (written_of t first calls)

-- ---- the last request for a port
-- m is a 146 for port p
abbrev pub IsRequest : Tables → ℕ → List ℕ → Type 0
IsRequest t p m = (kind_in m ≡ 146) × (port_in t m ≡ Some p)

-- none of some messages is
unfoldable pub NoRequest : Tables → ℕ → List (List ℕ) → Type 0
NoRequest t p [] = Unit {0}
NoRequest t p (m ∷ ms) = (IsRequest t p m → ⊥) × NoRequest t p ms

-- among some messages there is a 146 for port p, and the last one has transaction number n
pub record LastRequest (t : Tables) (p n : ℕ) (ms : List (List ℕ)) : Type 0 where
  pub before : List (List ℕ)
  pub request : List ℕ
  pub after : List (List ℕ)
  pub among : ms ≡ before ++ request ∷ after
  pub is_request : IsRequest t p request
  pub number : transaction_in request ≡ n
  pub none_after : NoRequest t p after

-- m names a port, and has the transaction number of the last request for it
pub record OwnGrant (t : Tables) (m : List ℕ) (ms : List (List ℕ)) : Type 0 where
  pub p : ℕ
  pub port : port_in t m ≡ Some p
  pub last : LastRequest t p (transaction_in m) ms

-- ---- numbers around the circle of 1 to 16,777,215
-- some numbers, in order, are those from `first` on, and `present` is the one after them
pub record Stretch (first present : ℕ) (ns : List ℕ) : Type 0 where
  pub each : (i : ℕ) → i < length ns → get_or ns i 0 ≡ number_after first i
  pub next : present ≡ number_after first (length ns)

-- no number is one of both
abbrev pub Disjoint : List ℕ → List ℕ → Type 0
Disjoint ns ms = (n : ℕ) → Among n ns → Among n ms → ⊥

-- the number that the next message takes, after some calls from a start; a host reads it (`ancp_card_next_transaction`)
abbrev pub present_of : Tables → ℕ → List Call → ℕ
present_of t first calls = (card_from t first calls).head.counter.number

-- a second start lies k places after a first one that began n messages, past these, and with the m messages that it
-- began itself the circle has not gone all the way round; k may count the numbers of starts between the two
pub record Moved (first second k n m : ℕ) : Type 0 where
  pub places : second ≡ number_after first k
  pub past : n ≤ k
  pub round : k + m ≤ 16777215

-- ---- the statements
-- m is a Bandwidth Transfer (147), and the card takes it, for whichever port
pub record IsTaken (t : Tables) (card : Card) (m : List ℕ) : Type 0 where
  pub kind : kind_in m ≡ 147
  pub space : ℕ
  pub done : (outcome_of t card (message m space)).number ≡ 0

-- the card after it
abbrev pub taken_by : {t : Tables} {card : Card} {m : List ℕ} → IsTaken t card m → Card
taken_by {t} {card} {m} k = (outcome_of t card (message m k.space)).card

-- each for every list of calls from every start that is taken
pub record Grants : Type 0 where
  -- the counter's range
  pub range : (t : Tables) (first : ℕ) → (started_of t first).number ≡ 0 → (calls : List Call)
      → (1 ≤ present_of t first calls) × (present_of t first calls ≤ 16777215)
  -- a 147 that is taken has the transaction number of the last 146 that this card wrote for its port since this start
  pub last : (t : Tables) (first : ℕ) → (started_of t first).number ≡ 0 → (calls : List Call) (m : List ℕ)
      → IsTaken t (card_from t first calls) m → OwnGrant t m (written_of t first calls)
  -- after it no other is taken for this port, whatever is called, until the card has written another 146 for it
  pub once : (t : Tables) (first : ℕ) → (started_of t first).number ≡ 0 → (calls : List Call) (p : ℕ) (m : List ℕ)
      → port_in t m ≡ Some p → (k : IsTaken t (card_from t first calls) m) → (more : List Call)
      → NoRequest t p (written_from t (taken_by k) more) → (n : List ℕ) → port_in t n ≡ Some p
      → IsTaken t (card_after ours t (taken_by k) more) n → ⊥
  -- the messages that a card began have the numbers from `first` on, one after the other, up to the present one
  pub stretch : (t : Tables) (first : ℕ) → (started_of t first).number ≡ 0 → (calls : List Call)
      → Stretch first (present_of t first calls) (begun_of t first calls)
  -- two of them have different numbers, unless the circle has gone all the way round between them
  pub differ : (t : Tables) (first : ℕ) → (started_of t first).number ≡ 0 → (calls : List Call) (i j : ℕ) → i < j
      → j < length (begun_of t first calls) → j < i + 16777215
      → get_or (begun_of t first calls) i 0 ≡ get_or (begun_of t first calls) j 0 → ⊥
  -- the operator's incident: an old grant that answers a new question. Of two starts that have no number in common,
  -- be it with other tables, neither takes a grant for what the other began, also where its own request is open
  pub apart : (t u : Tables) (first second : ℕ) → (started_of t first).number ≡ 0 → (started_of u second).number ≡ 0
      → (xs ys : List Call) → Disjoint (begun_of t first xs) (begun_of u second ys)
      → (m : List ℕ) → Among (transaction_in m) (begun_of t first xs) → IsTaken u (card_from u second ys) m → ⊥
  -- they have none in common where the second start is moved on past what the first began
  pub restart : (t u : Tables) (first second : ℕ) → (started_of t first).number ≡ 0 → (started_of u second).number ≡ 0
      → (xs ys : List Call) (k : ℕ) → Moved first second k (length (begun_of t first xs)) (length (begun_of u second ys))
      → Disjoint (begun_of t first xs) (begun_of u second ys)
