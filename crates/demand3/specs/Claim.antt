-- Demand 3 as one claim about any list of calls from any start that is taken. Assumes nothing: these are definitions.
use Rattle.std.specs.Prelude.{ℕ, suc, ◌+◌, ◌-◌, ◌≤◌, ◌<◌, ◌≡◌, Bool, true, false, cond, List, [], ◌∷◌, ◌++◌, ◌⊎◌, ◌↔◌, length, drop, Some}
use Rattle.flows.specs.declared.Flow.{Flow}
use Rattle.flows.specs.Flows.{same_flow, flow_before}
use Rattle.header.specs.Header.{size_ok, usable}
use Rattle.tlv.specs.Depth.{list_ok}
use Rattle.items.specs.Items.{count_of, first_of}
use Rattle.fields.specs.Fields.{circuit_ids}
use Rattle.tables.specs.Tables.{tables_ok}
use Rattle.sums.specs.Sums.{sum_to, sum_by}
use Rattle.card.specs.Cards.{Card}
use Rattle.card.specs.Outcome.{Outcome}
use Rattle.demand3.specs.Reads.{Directive, malformed, add, delete, delete_all, directive_of, commands_in, kind_in, result_in, transaction_in, tlvs_in, port_in, listed, rate_of, IsWhite, NoneIsAbout}
use Rattle.demand3.specs.Calls.{Tables, Call, Build, card_after, history}
use Rattle.demand3.specs.Calls.Call.{port_up, set_delegation, join, message}
use Rattle.demand3.specs.Ledger.{Held, Line, Ledger, write, holds, acted_in, acts, acts_all, opened, ledger_from}

-- the sum of the rates of the flows that a line charges
unfoldable pub charges : Tables → Line → ℕ
charges t x = sum_by (λ h. cond h.charged (rate_of t h.flow) 0) x.flows

-- what all ports together use beyond their fours (`-` stops at 0); there are at most 64, and a number that is no port's has no flow:
-- clause `no_port`
unfoldable pub all_extras : Ledger → ℕ
all_extras l = sum_to 64 (λ q. length (l q).flows - 4)

-- no flow stands twice
unfoldable pub Once : List Held → Type 0
Once [] = Unit {0}
Once (h ∷ hs) = (holds h.flow hs ≡ false) × Once hs

-- how often a flow stands in a list
unfoldable pub times_in : Flow → List Flow → ℕ
times_in f fs = sum_by (λ g. cond (same_flow g f) 1 0) fs

-- each goes before the next, by family, group, source (none first)
unfoldable pub InOrder : List Flow → Type 0
InOrder [] = Unit {0}
InOrder (f ∷ []) = Unit {0}
InOrder (f ∷ g ∷ fs) = (flow_before f g ≡ true) × InOrder (g ∷ fs)

-- ---- the rule
-- "under 4 active flows, or under 16 while all ports together use under 256 beyond their fours"
abbrev pub Room : ℕ → ℕ → Type 0
Room n e = (n < 4) ⊎ ((n < 16) × (e < 256))

-- "exactly when its rate fits" and there is room; without admission control, when there is room
unfoldable pub Starts : Tables → Bool → Ledger → ℕ → Flow → Type 0
Starts t true l p f = (charges t (l p) + rate_of t f ≤ (l p).delegation) × Room (length (l p).flows) (all_extras l)
Starts t false l p f = Room (length (l p).flows) (all_extras l)

-- "a flow of a listed channel, not yet active on a port that is up"
pub record Wanted (t : Tables) (l : Ledger) (p : ℕ) (f : Flow) : Type 0 where
  pub port : p < t.ports
  pub is_listed : listed t f ≡ true
  pub is_up : (l p).is_up ≡ true
  pub idle : holds f (l p).flows ≡ false

-- ---- an Add that is reached, told by the message and the ledger alone
-- a command succeeds
unfoldable pub Succeeds : Tables → Ledger → ℕ → Directive → Type 0
Succeeds t l p (malformed code) = ⊥
Succeeds t l p (add f accounting) = (listed t f ≡ true) × ((holds f (l p).flows ≡ true) ⊎ Starts t t.add_cac l p f)
Succeeds t l p (delete f) = holds f (l p).flows ≡ true
Succeeds t l p delete_all = Unit {0}

-- each of some commands succeeds, where x is port p's line before them
unfoldable pub AllSucceed : Tables → Ledger → ℕ → Line → List (List ℕ) → Type 0
AllSucceed t l p x [] = Unit {0}
AllSucceed t l p x (c ∷ cs) = Succeeds t (write l p x) p (directive_of c) × AllSucceed t l p (acts t x (directive_of c)) cs

-- the ledger after some commands on port p
abbrev pub ledger_after : Tables → Ledger → ℕ → List (List ℕ) → Ledger
ledger_after t l p cs = write l p (acts_all t (l p) cs)

-- m is a request of this type for port p: usable, its transaction not 0, lengths and depth sound, one Target with one id
pub record Sound (t : Tables) (m : List ℕ) (kind p : ℕ) : Type 0 where
  pub size : size_ok m ≡ true
  pub header : usable m ≡ true
  pub is_kind : kind_in m ≡ kind
  pub transaction : 1 ≤ transaction_in m
  pub lengths : list_ok 3 false (drop 16 m) ≡ true
  pub target : count_of 0x1000 (tlvs_in m) ≡ 1
  pub circuit : circuit_ids (first_of 0x1000 (tlvs_in m)) ≡ 1
  pub port : port_in t m ≡ Some p

-- a sound 144 with Result 1 or 2, whose commands are `before`, all of which succeed, then a well-formed Add of f, then `after`
pub record Reaches (t : Tables) (l : Ledger) (m : List ℕ) (p : ℕ) (f : Flow) (before after : List (List ℕ)) : Type 0 where
  pub sound : Sound t m 144 p
  pub result : (result_in m ≡ 1) ⊎ (result_in m ≡ 2)
  pub here : List ℕ
  pub commands : commands_in (drop 16 m) ≡ before ++ here ∷ after
  pub accounting : ℕ
  pub is_add : directive_of here ≡ add f accounting
  pub succeed : AllSucceed t l p (l p) before
  pub wanted : Wanted t (ledger_after t l p before) p f

-- command number n of m acted
abbrev pub Acted : Outcome → List ℕ → ℕ → Type 0
Acted o m n = (o.number ≡ 0) × (n ≤ length (acted_in o.reply (commands_in (drop 16 m))))

-- ---- the claim
-- at a card and its ledger, after any list of calls
pub record Demand3 (b : Build) (t : Tables) (card : Card) (l : Ledger) : Type 0 where
  -- the figures that a host reads are the ledger's
  pub is_up : (p : ℕ) → p < t.ports → b.is_up card p ≡ (l p).is_up
  pub delegation : (p : ℕ) → p < t.ports → b.delegation card p ≡ (l p).delegation
  pub active : (p : ℕ) (f : Flow) → p < t.ports → b.active t card p f ≡ holds f (l p).flows
  pub committed : (p : ℕ) → p < t.ports → b.committed t card p ≡ charges t (l p)
  pub once : (p : ℕ) → p < t.ports → Once (l p).flows
  -- the list of flows that it reads has each flow of the line once and no other, as many in all, in order
  pub flows : (p : ℕ) (f : Flow) → p < t.ports → times_in f (b.flows t card p) ≡ cond (holds f (l p).flows) 1 0
  pub count : (p : ℕ) → p < t.ports → length (b.flows t card p) ≡ length (l p).flows
  pub order : (p : ℕ) → p < t.ports → InOrder (b.flows t card p)
  -- each is that of a listed channel, and a number that is no port's has its line of the start, without flows
  pub is_listed : (p : ℕ) (f : Flow) → p < t.ports → holds f (l p).flows ≡ true → listed t f ≡ true
  pub no_port : (p : ℕ) → t.ports ≤ p → l p ≡ opened p
  -- and the committed amount never passes the delegation
  pub bounded : (p : ℕ) → p < t.ports → charges t (l p) ≤ (l p).delegation
  -- a port, and no other number, goes up when asked; a delegation is set exactly where it is not under the committed amount
  pub ups : (p : ℕ) → ((b.outcome t card (port_up p)).number ≡ 0) ↔ (p < t.ports)
  pub sets : (p amount : ℕ) → p < t.ports → ((b.outcome t card (set_delegation p amount)).number ≡ 0) ↔ (charges t (l p) ≤ amount)
  -- a white-listed join starts exactly when the rule says so
  pub joins : (p : ℕ) (f : Flow) (space : ℕ) → Wanted t l p f → IsWhite t f → 4608 ≤ space
      → (((b.outcome t card (join p f space)).number ≡ 0) ↔ Starts t t.white_cac l p f)
      × ((b.active t (b.outcome t card (join p f space)).card p f ≡ true) ↔ Starts t t.white_cac l p f)
  -- and so does an Add that is reached, whatever follows it: it acts, and as the last command leaves the flow active
  pub adds : (m : List ℕ) (space p : ℕ) (f : Flow) (before after : List (List ℕ)) → Reaches t l m p f before after → 4608 ≤ space
      → Acted (b.outcome t card (message m space)) m (suc (length before)) ↔ Starts t t.add_cac (ledger_after t l p before) p f
  pub last-add : (m : List ℕ) (space p : ℕ) (f : Flow) (before : List (List ℕ)) → Reaches t l m p f before [] → 4608 ≤ space
      → (b.active t (b.outcome t card (message m space)).card p f ≡ true) ↔ Starts t t.add_cac (ledger_after t l p before) p f

-- what a start takes
abbrev pub takes : Tables → Bool
takes t = tables_ok t.ids t.ports t.channels t.channel_count t.entries t.entry_count

pub record Claim (b : Build) : Type 0 where
  -- good tables and a first transaction number from 1 to 16,777,215 are taken
  pub starts : (t : Tables) (first : ℕ) → takes t ≡ true → 1 ≤ first → first ≤ 16777215 → (b.start t first).number ≡ 0
  -- and from a start that is taken, demand 3 holds after every list of calls, refused ones included
  pub holds_after : (t : Tables) (first : ℕ) → (b.start t first).number ≡ 0 → (calls : List Call)
      → Demand3 b t (card_after b t (b.start t first).card calls) (ledger_from t opened (history b t (b.start t first).card calls))
  -- "Whatever the calls for other ports do": calls that are about other ports leave port p's line as it is
  pub others_keep : (t : Tables) (first : ℕ) → (b.start t first).number ≡ 0 → (xs ys : List Call) (p : ℕ) → NoneIsAbout t ys p
      → ledger_from t opened (history b t (b.start t first).card (xs ++ ys)) p ≡ ledger_from t opened (history b t (b.start t first).card xs) p
