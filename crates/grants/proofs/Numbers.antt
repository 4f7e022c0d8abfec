-- The transaction numbers that a card writes.
--     Numbered, call_numbers     a call begins no message and keeps the counter, or begins one with its number
--     calls_stretch              the numbers after any list of calls
-- Assumes nothing.
use Prim.Native.Nat.{ℕ, zero, suc, ◌+◌, ◌≤◌, ◌<◌}
use mathlib.Core.Path.{◌≡◌, refl, sym, ap, subst}
use mathlib.Core.Bool.{Bool, true, false, cond}
use mathlib.Core.List.{List, [], ◌∷◌, ◌++◌}
use native.Mathlib.Omega.{arith}
use lib.ListN.{length, get_or}
use borrow.Author.Tests.{ne_eqb}
use Rattle.header.specs.declared.Header.{Header}
use Rattle.header.specs.Header.{message_of}
use Rattle.readback.proofs.Message.{message_back}
use Rattle.writers.specs.Tlvs.{target_of, command_of, request_of}
use Rattle.replies.specs.Replies.{begin_header}
use Rattle.begun.specs.Begun.{admission_of, reallocation_of}
use Rattle.flow_octets.specs.FlowOctets.{flow_tlv}
use Rattle.circuits.specs.Circuits.{id_at}
use Rattle.ports.specs.declared.Counter.{Counter}
use Rattle.ports.specs.Transactions.{next_number}
use Rattle.pool.specs.declared.Pool.{Pool}
use Rattle.card.specs.Cards.{Card, with_pool}
use Rattle.card.specs.Outcome.{Outcome}
use Rattle.joins.specs.Joins.{grey_of}
use Rattle.joins.specs.Asks.{asked_of}
use Rattle.control.specs.Control.{commands_in, controlled}
use Rattle.transfers.specs.Transfers.{transfer_gives}
use Rattle.numbers.specs.Numbers.{number_after}
use Rattle.demand3.specs.Calls.{Tables, Call, ours, outcome_of, card_after, history}
use Rattle.demand3.specs.Reads.{kind_in}
use Rattle.demand3.proofs.Replies.{kind-none, kind-back, kind-amount}
use Rattle.demand3.proofs.Commands.{commands_tell}
use Rattle.demand3.proofs.Ways.{NotBegun, other_type, Way, stays, replies, rises, falls, sets, closes, reduces, asks, keeps_ports, commanded, grey}
use Rattle.demand3.proofs.Each.{call_way}
use Rattle.demand3.proofs.Counter.{commands_keep, InRange, call_range}
use Rattle.grants.specs.Grants.{written_from, transaction_in, begun_kind, numbers_of, Stretch}

-- ---- what is begun, and what is not
pub silent : NotBegun []
silent = other_type [] (λ e. omega arith) (λ e. omega arith) kind-none

abbrev pub is_begun : List ℕ → Bool
is_begun w = begun_kind (kind_in w)

pub begun_145 : (w : List ℕ) → kind_in w ≡ 145 → is_begun w ≡ true
unfolding begun_kind
begun_145 w e = ap begun_kind e

pub begun_146 : (w : List ℕ) → kind_in w ≡ 146 → is_begun w ≡ true
unfolding begun_kind
begun_146 w e = ap begun_kind e

not-begun : (w : List ℕ) → NotBegun w → is_begun w ≡ false
unfolding begun_kind
not-begun w n = rw (ne_eqb (kind_in w) 145 n.0, ne_eqb (kind_in w) 146 n.1)

-- the transaction number of a message that the card begins
pub number-back : (kind n : ℕ) (body : List ℕ) → n ≤ 16777215 → transaction_in (message_of (begin_header kind n) body) ≡ n
unfolding transaction_in
number-back kind n body l =
    ap (λ (h : Header). h.transaction) ((message_back (begin_header kind n) body).header (omega arith) (omega arith) (omega arith))

-- what commands write is a Generic Response or nothing
pub commands_silent : (t : Tables) (card : Card) (h : Header) (p : ℕ) (s : List ℕ) → NotBegun (controlled t.ids t.channels card h p s).reply
unfolding controlled
commands_silent t card h p s =
    let g = (commands_tell t.channels h (id_at t.ids p) p card 1 (commands_in s)).generic in
    (λ e. omega (arith, g), λ e. omega (arith, g))

-- and keep what does not read the pool
pub commands-kept : {A : Type 0} (read : Card → A) → ((card : Card) (pool : Pool) → read (with_pool card pool) ≡ read card)
    → (t : Tables) (card : Card) (h : Header) (p : ℕ) (s : List ℕ) → read (controlled t.ids t.channels card h p s).card ≡ read card
unfolding controlled
commands-kept read same t card h p s = commands_keep read same t.channels p h (id_at t.ids p) card 1 (commands_in s)

-- ---- one call
abbrev number_at : Card → ℕ
number_at card = card.head.counter.number

data Numbered (card : Card) (o : Outcome) : Type 0 where
  none : NotBegun o.reply → number_at o.card ≡ number_at card → Numbered card o
  one : is_begun o.reply ≡ true → transaction_in o.reply ≡ number_at card → number_at o.card ≡ next_number (number_at card) → Numbered card o

module _ (t : Tables) (card : Card) (range : InRange card) where
  way_numbers : (x : Call) (o : Outcome) → Way t card x o → Numbered card o
  unfolding grey_of asked_of admission_of reallocation_of transfer_gives
  way_numbers x o (stays n) = none silent refl
  way_numbers x o (replies reply w) = none w refl
  way_numbers x o (rises p) = none silent refl
  way_numbers x o (falls p) = none silent refl
  way_numbers x o (sets p amount) = none silent refl
  way_numbers x o (closes p) = none silent refl
  way_numbers x o (reduces h p amount) =
      none (other_type _ (λ e. omega arith) (λ e. omega arith) (kind-amount h 147 3 0 (id_at t.ids p) amount)) refl
  way_numbers x o (asks p required preferred space e h u) =
      let body : List ℕ = target_of (id_at t.ids p) ++ request_of required preferred in
      one (begun_146 _ (kind-back (begin_header 146 (number_at card)) body)) (number-back 146 (number_at card) body range.1) refl
  way_numbers x o (keeps_ports card' e n) = none silent (ap (λ (c : Counter). c.number) n)
  way_numbers x o (commanded h p s) = none (commands_silent t card h p s) (commands-kept number_at (λ c pool. refl) t card h p s)
  way_numbers x o (grey p f space e) =
      let body : List ℕ = target_of (id_at t.ids p) ++ command_of 1 0 (flow_tlv f) in
      one (begun_145 _ (kind-back (begin_header 145 (number_at card)) body)) (number-back 145 (number_at card) body range.1) refl

  call_numbers : (x : Call) → Numbered card (outcome_of t card x)
  call_numbers x = way_numbers x (outcome_of t card x) (call_way t card x)

-- ---- lists of calls
-- one number more before a stretch
longer : (first present : ℕ) (ns : List ℕ) → Stretch (next_number first) present ns → Stretch first present (first ∷ ns)
unfolding number_after
longer first present ns s = record { each = at; next = s.next }
  where
    at : (i : ℕ) → i < length (first ∷ ns) → get_or (first ∷ ns) i 0 ≡ number_after first i
    at zero l = refl
    at (suc i) l = s.each i (omega arith)

empty_stretch : (first : ℕ) → Stretch first first []
unfolding number_after
empty_stretch first = record { each = λ i l. absurd (omega arith); next = refl }

-- the numbers of what a call wrote and of what was written after it
joined : (card : Card) (o : Outcome) (present : ℕ) (ns : List ℕ) → Numbered card o → Stretch (number_at o.card) present ns
    → Stretch (number_at card) present (cond (is_begun o.reply) (transaction_in o.reply ∷ ns) ns)
joined card o present ns (none n k) s =
    subst (λ (b : Bool). Stretch (number_at card) present (cond b (transaction_in o.reply ∷ ns) ns)) (sym (not-begun o.reply n))
    (subst (λ (i : ℕ). Stretch i present ns) k s)
joined card o present ns (one n e k) s =
    subst (λ (b : Bool). Stretch (number_at card) present (cond b (transaction_in o.reply ∷ ns) ns)) (sym n)
    (subst (λ (i : ℕ). Stretch (number_at card) present (i ∷ ns)) (sym e)
    (longer (number_at card) present ns (subst (λ (i : ℕ). Stretch i present ns) k s)))

module _ (t : Tables) where
  abbrev numbers_from : Card → List Call → List ℕ
  numbers_from card xs = numbers_of (written_from t card xs)

  pub calls_stretch : (xs : List Call) (card : Card) → InRange card → Stretch (number_at card) (number_at (card_after ours t card xs)) (numbers_from card xs)
  unfolding card_after history numbers_of
  calls_stretch [] card r = empty_stretch (number_at card)
  calls_stretch (x ∷ xs) card r =
      let next : Card = (outcome_of t card x).card in
      joined card (outcome_of t card x) (number_at (card_after ours t next xs)) (numbers_from next xs) (call_numbers t card r x)
      (calls_stretch xs next (call_range t card x r))
