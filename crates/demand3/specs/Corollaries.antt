-- What follows from demand 3, and of the calls beside it. Assumes nothing: these are definitions; the statements are proved in proofs/, and owed
-- with the claim.
use Rattle.std.specs.Prelude.{ℕ, suc, ◌+◌, ◌≤◌, ◌<◌, ◌≡◌, true, ◌⊎◌, length, Some}
use mathlib.Core.List.{List, [], ◌∷◌, ◌++◌, flat_map}
use Rattle.flows.specs.declared.Flow.{Flow}
use Rattle.header.specs.Header.{size_ok, usable, header_in, message_of}
use Rattle.writers.specs.Tlvs.{target_of, status_of}
use Rattle.replies.specs.Replies.{reply_header}
use Rattle.flow_octets.specs.FlowOctets.{flow_tlv}
use Rattle.circuits.specs.Circuits.{id_at}
use Rattle.lists.specs.Lists.{list_decision}
use Rattle.card.specs.Cards.{Card}
use Rattle.card.specs.Outcome.{writes}
use Rattle.demand3.specs.Calls.{Tables, Call, Build, ours, outcome_of, started_of, card_after, history, by_call}
use Rattle.demand3.specs.Calls.Call.{port_down, set_delegation, join, message}
use Rattle.demand3.specs.Reads.{kind_in, result_in, transaction_in, port_in, rate_of, IsWhite, NoneIsAbout}
use Rattle.demand3.specs.Ledger.{Ledger, opened, ledger_from}
use Rattle.demand3.specs.Claim.{charges, Wanted, Sound, Reaches, ledger_after, Acted, Claim}

-- card and ledger after a list of calls from a start, by any build; and by ours
abbrev pub card_by : Build → Tables → ℕ → List Call → Card
card_by b t first calls = card_after b t (b.start t first).card calls

abbrev pub lines_by : Build → Tables → ℕ → List Call → Ledger
lines_by b t first calls = ledger_from t opened (history b t (b.start t first).card calls)

abbrev pub card_from : Tables → ℕ → List Call → Card
card_from t first calls = card_by ours t first calls

abbrev pub lines_of : Tables → ℕ → List Call → Ledger
lines_of t first calls = lines_by ours t first calls

-- the rate of f fits beside what port p's line charges
abbrev pub Fits : Tables → Ledger → ℕ → Flow → Type 0
Fits t l p f = charges t (l p) + rate_of t f ≤ (l p).delegation

-- "Whatever the calls for other ports do, they cannot take the first four": calls that name other ports leave the port's line as it is,
-- and after them, with under 4 flows and a rate that fits, a white-listed join and an Add that is reached start
pub record FirstFour (b : Build) (t : Tables) (first : ℕ) (xs ys : List Call) (p : ℕ) : Type 0 where
  pub line : lines_by b t first (xs ++ ys) p ≡ lines_by b t first xs p
  pub join-starts : (f : Flow) (space : ℕ) → length (lines_by b t first xs p).flows < 4 → Fits t (lines_by b t first xs) p f
      → Wanted t (lines_by b t first xs) p f → IsWhite t f → 4608 ≤ space
      → (b.outcome t (card_by b t first (xs ++ ys)) (join p f space)).number ≡ 0
  pub add-starts : (m : List ℕ) (space : ℕ) (f : Flow) (before after : List (List ℕ)) → Reaches t (lines_by b t first (xs ++ ys)) m p f before after
      → length (ledger_after t (lines_by b t first (xs ++ ys)) p before p).flows < 4 → Fits t (ledger_after t (lines_by b t first (xs ++ ys)) p before) p f
      → 4608 ≤ space → Acted (b.outcome t (card_by b t first (xs ++ ys)) (message m space)) m (suc (length before))

-- on this card no Bandwidth Transfer (147) for port p is taken
abbrev pub TakesNone : Tables → Card → ℕ → Type 0
TakesNone t card p = (m : List ℕ) (space : ℕ) → kind_in m ≡ 147 → port_in t m ≡ Some p → (outcome_of t card (message m space)).number ≡ 0 → ⊥

-- the host asks for port p
unfoldable pub Asks : Call → ℕ → Type 0
Asks x p = by_call (λ q f space. ⊥) (λ q. q ≡ p) (λ m space. ⊥) (λ q. ⊥) x

unfoldable pub NoneAsks : List Call → ℕ → Type 0
NoneAsks [] p = Unit {0}
NoneAsks (y ∷ ys) p = (Asks y p → ⊥) × NoneAsks ys p

-- nor after any calls, port up among them, until the host asks for port p
abbrev pub NoneUntilAsked : Tables → Card → ℕ → Type 0
NoneUntilAsked t card p = (ys : List Call) → NoneAsks ys p → TakesNone t (card_after ours t card ys) p

-- a message that may set a delegation: a 146, or a 147 with Result 3
abbrev pub Moves : List ℕ → Type 0
Moves m = (kind_in m ≡ 146) ⊎ ((kind_in m ≡ 147) × (result_in m ≡ 3))

-- the octets of Target and flows that answer a Multicast Flow Query (149) m for port p
abbrev pub list_reply : Tables → List ℕ → ℕ → List Flow → List ℕ
list_reply t m p fs = message_of (reply_header (header_in m) 149 3 0) (target_of (id_at t.ids p) ++ flat_map flow_tlv fs)

-- a request with a Result that its type asks for: 144 with 1 or 2, 146 with 0, 148 and 149 with 2
abbrev pub RightResult : List ℕ → Type 0
RightResult m =
    ((kind_in m ≡ 144) × ((result_in m ≡ 1) ⊎ (result_in m ≡ 2)))
    ⊎ (((kind_in m ≡ 146) × (result_in m ≡ 0))
    ⊎ (((kind_in m ≡ 148) ⊎ (kind_in m ≡ 149)) × (result_in m ≡ 2)))

-- the same tables but for the list entries
abbrev pub with_entries : Tables → List ℕ → Tables
with_entries t entries =
    record {
      ids = t.ids;
      ports = t.ports;
      channels = t.channels;
      channel_count = t.channel_count;
      entries = entries;
      entry_count = t.entry_count;
      white_cac = t.white_cac;
      add_cac = t.add_cac;
    }

-- a join's numbers from before its lists are looked at: 13, 7, 6, 8, 9, 1; the others are 0 and 2 to 5
abbrev pub BeforeLists : ℕ → Type 0
BeforeLists n = (n ≡ 1) ⊎ (5 < n)

pub record Corollaries : Type 0 where
  -- of every build that meets the claim, and so of ours
  pub first_four : (b : Build) → Claim b → (t : Tables) (first : ℕ) → (b.start t first).number ≡ 0 → (xs ys : List Call) (p : ℕ)
      → NoneIsAbout t ys p → FirstFour b t first xs ys p
  -- a refused call, any number but 0 and 2, changes nothing and writes nothing, on any card
  pub refused : (t : Tables) (card : Card) (x : Call) → ((outcome_of t card x).number ≡ 0 → ⊥) → ((outcome_of t card x).number ≡ 2 → ⊥)
      → ((outcome_of t card x).card ≡ card) × ((outcome_of t card x).reply ≡ [])
  -- the operator's incident: a card freshly started takes no answer to a request of before, whatever is called, until the host asks
  pub fresh-takes-none : (t : Tables) (first : ℕ) → (started_of t first).number ≡ 0 → (p : ℕ) → NoneUntilAsked t (started_of t first).card p
  -- after set delegation, port down or a successful 146 no earlier request can be answered, then or later
  pub closed-by_host : (t : Tables) (first : ℕ) → (started_of t first).number ≡ 0 → (xs : List Call) (p amount : ℕ)
      → (outcome_of t (card_from t first xs) (set_delegation p amount)).number ≡ 0
      → NoneUntilAsked t (outcome_of t (card_from t first xs) (set_delegation p amount)).card p
  pub closed-by-down : (t : Tables) (first : ℕ) → (started_of t first).number ≡ 0 → (xs : List Call) (p : ℕ)
      → (outcome_of t (card_from t first xs) (port_down p)).number ≡ 0 → NoneUntilAsked t (outcome_of t (card_from t first xs) (port_down p)).card p
  pub closed-by_146 : (t : Tables) (first : ℕ) → (started_of t first).number ≡ 0 → (xs : List Call) (m : List ℕ) (space p : ℕ)
      → kind_in m ≡ 146 → port_in t m ≡ Some p → kind_in (outcome_of t (card_from t first xs) (message m space)).reply ≡ 147
      → result_in (outcome_of t (card_from t first xs) (message m space)).reply ≡ 3
      → NoneUntilAsked t (outcome_of t (card_from t first xs) (message m space)).card p
  -- the delegation changes by set delegation, a 146 or a taken 147 alone
  pub delegation-kept : (t : Tables) (first : ℕ) → (started_of t first).number ≡ 0 → (xs : List Call) (x : Call) (p : ℕ) → p < t.ports
      → ((amount : ℕ) → x ≡ set_delegation p amount → ⊥) → ((m : List ℕ) (space : ℕ) → x ≡ message m space → Moves m → ⊥)
      → ours.delegation (outcome_of t (card_from t first xs) x).card p ≡ ours.delegation (card_from t first xs) p
  -- a 149 for a port that is up is answered with the list of its flows, which the claim says are the ledger's
  pub flows_answered : (t : Tables) (first : ℕ) → (started_of t first).number ≡ 0 → (xs : List Call) (m : List ℕ) (space p : ℕ) → Sound t m 149 p
      → result_in m ≡ 2 → (lines_of t first xs p).is_up ≡ true → 4608 ≤ space
      → (outcome_of t (card_from t first xs) (message m space)).reply ≡ list_reply t m p (ours.flows t (card_from t first xs) p)
  -- zero is no transaction: such a request with transaction 0, on any card and whatever follows its header, keeps the card and is answered by a
  -- Generic Response, Failure 0x2, whose Status-Info names its type and encloses nothing
  pub zero-refused : (t : Tables) (card : Card) (m : List ℕ) (space : ℕ) → size_ok m ≡ true → usable m ≡ true → RightResult m → transaction_in m ≡ 0
      → 4608 ≤ space → outcome_of t card (message m space) ≡ writes card (message_of (reply_header (header_in m) 91 4 0x2) (status_of (kind_in m) []))
  -- only a join looks at the list entries, after every refusal but 3, 2, 5 and 4, and of them only at what they decide for its flow, on any card
  pub lists_last : (t : Tables) (card : Card) (x : Call) (entries : List ℕ)
      → ((p : ℕ) (f : Flow) (space : ℕ) → x ≡ join p f space → BeforeLists (outcome_of t card x).number
      ⊎ (list_decision entries card.head.entry_count f ≡ list_decision t.entries card.head.entry_count f))
      → outcome_of (with_entries t entries) card x ≡ outcome_of t card x
