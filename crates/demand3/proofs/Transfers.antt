-- A Bandwidth Transfer (147) that goes out, and one that comes in.
--     Reallocation, reallocation     what a 146 past the table comes to
--     Transfers, reply_147           a 147 in reply answers a 146, and names the port that the 146 names
--     takes_none                     a 147 is taken only where its port has an open request
-- Assumes nothing.
use Rattle.std.specs.Prelude.{Some}
use Prim.Native.Nat.{ℕ, ◌<◌}
use mathlib.Core.Path.{◌≡◌, refl, sym, ap, ◌∙◌}
use mathlib.Core.Bool.{Bool, true, false, cond, false≢true}
use mathlib.Core.List.{List, [], ◌∷◌}
use native.Mathlib.Omega.{arith}
use lib.ListN.{drop}
use lib.Dec.{eqb, ltb}
use Rattle.octets.proofs.Tests.{each}
use Rattle.header.specs.declared.Header.{Header}
use Rattle.header.specs.Header.{header_in}
use Rattle.items.specs.Items.{items_of, first_of}
use Rattle.fields.specs.declared.Request.{Request}
use Rattle.fields.specs.Fields.{allocation_in, request_in}
use Rattle.circuits.specs.Circuits.{id_at, port_of}
use Rattle.ports.specs.Ports.{closed, delegated, answers, within}
use Rattle.pool.specs.Pool.{committed_of}
use Rattle.card.specs.Cards.{Card, port_at, with_port}
use Rattle.card.specs.Outcome.{Outcome, keeps, becomes}
use Rattle.checks.specs.Table.{id_in, enclosed_of}
use Rattle.control.specs.Control.{commands_in, controlled}
use Rattle.transfers.specs.Transfers.{reduced_to, transfer_fails, transfer_gives, reallocated, transferred}
use Rattle.messages.specs.Messages.{received_of}
use Rattle.demand3.specs.Calls.{Tables, outcome_of}
use Rattle.demand3.specs.Calls.Call.{message}
use Rattle.demand3.specs.Reads.{kind_in, port_in}
use Rattle.demand3.specs.Ledger.{Ledger}
use Rattle.demand3.specs.Corollaries.{TakesNone}
use Rattle.demand3.proofs.Agree.{Agree, TablesTaken}
use Rattle.demand3.proofs.Replies.{kind-none, kind-refusal, port_back}
use Rattle.demand3.proofs.Views.{port_below, Came, kept, notice, refused, ordered, reduced, queried, answered, came}
use Rattle.demand3.proofs.Commands.{commands_tell}
use Rattle.demand3.proofs.Messages.{names_port, port_one}

-- ---- what a 146 past the table comes to
module _ (ids channels : List ℕ) (card : Card) (h : Header) (p : ℕ) where
  pub data Reallocation : Outcome → Type 0 where
    fails : (code : ℕ) → Reallocation (transfer_fails ids card h p code)
    gives : (amount : ℕ) → Reallocation (transfer_gives ids card h p amount)

  pub reallocation : (r : Request) → Reallocation (reallocated ids channels card h p r)
  unfolding reallocated
  reallocation r = go (ltb r.required r.preferred) (ltb r.required (committed_of channels card.pool p))
    where
      go : (b c : Bool)
          → Reallocation (cond b (transfer_fails ids card h p 0x67) (cond c (transfer_fails ids card h p 0) (transfer_gives ids card h p (reduced_to channels card p r.preferred))))
      go true c = fails 0x67
      go false true = fails 0
      go false false = gives (reduced_to channels card p r.preferred)

-- ---- what a 147 past the table comes to
module _ (card : Card) (h : Header) (p amount : ℕ) where
  abbrev shut : Outcome
  shut = becomes (with_port card p (closed (port_at card p)))

  abbrev set : Outcome
  set = becomes (with_port card p (delegated (port_at card p) amount))

  -- it is never answered
  transferred-silent : (transferred card h p amount).reply ≡ []
  unfolding transferred
  transferred-silent = go (answers (port_at card p) h.transaction) (eqb h.result 4) (within (port_at card p) amount)
    where
      go : (b c d : Bool) → (cond b (cond c shut (cond d set (keeps card 16))) (keeps card 16)).reply ≡ []
      go true true d = refl
      go true false true = refl
      go true false false = refl
      go false c d = refl

  -- it is taken only where a request is open
  transferred_open : (transferred card h p amount).number ≡ 0 → (port_at card p).asking ≡ true
  unfolding transferred answers
  transferred_open = go (answers (port_at card p) h.transaction) refl
    where
      go : (b : Bool) → answers (port_at card p) h.transaction ≡ b
          → (cond b (cond (eqb h.result 4) shut (cond (within (port_at card p) amount) set (keeps card 16))) (keeps card 16)).number ≡ 0
          → (port_at card p).asking ≡ true
      go true e n = (each ((port_at card p).asking ∷ eqb (port_at card p).transaction h.transaction ∷ []) e).0
      go false e n = absurd (omega arith)

-- ---- a 147 in reply
pub record Transfers (t : Tables) (m reply : List ℕ) : Type 0 where
  pub kind : kind_in m ≡ 146
  pub port : port_in t reply ≡ port_in t m

module _ (t : Tables) (card : Card) (l : Ledger) (a : Agree t card l) (taken : TablesTaken t) (m : List ℕ) where
  -- it names the port on which the 146 was carried out
  transfer_port : (p : ℕ) → p < t.ports → (o : Outcome) → Reallocation t.ids t.channels card (header_in m) p o → port_in t o.reply ≡ Some p
  unfolding transfer_fails transfer_gives
  transfer_port p port o (fails code) = port_back t (header_in m) 147 4 code p (port_at card p).delegation taken port
  transfer_port p port o (gives amount) = port_back t (header_in m) 147 3 0 p amount taken port

  came_147 : (o : Outcome) → Came t.ids t.channels card m o → kind_in o.reply ≡ 147 → Transfers t m o.reply
  unfolding kind_in controlled
  came_147 o (kept n z) e = absurd (omega (arith, kind-none))
  came_147 o (notice k r) e = absurd (omega (arith, kind-none))
  came_147 o (refused code n) e = absurd (omega (arith, kind-refusal (header_in m) code (enclosed_of (header_in m).kind (drop 16 m) code)))
  came_147 o (ordered p k s) e =
      absurd (omega (arith, (commands_tell t.channels (header_in m) (id_at t.ids p) p card 1 (commands_in (drop 16 m))).generic))
  came_147 o (reduced p k s) e =
      record {
        kind = k;
        port = transfer_port p (port_one t card l a m s) _ (reallocation t.ids t.channels card (header_in m) p (request_in (first_of 0x0016 (items_of (drop 16 m)))))
            ∙ sym (names_port t card l a m s);
      }
  came_147 o (queried reply q k) e = absurd (omega arith)
  came_147 o (answered p k r s) e =
      let none = transferred-silent card (header_in m) p (allocation_in (first_of 0x0015 (items_of (drop 16 m)))) in
      absurd (omega (arith, sym (ap kind_in none) ∙ e, kind-none))

  pub reply_147 : (space : ℕ) → kind_in (outcome_of t card (message m space)).reply ≡ 147 → Transfers t m (outcome_of t card (message m space)).reply
  unfolding outcome_of
  reply_147 space = came_147 (received_of t.ids t.channels card m space) (came t.ids t.channels card m space)

-- ---- a 147 that comes in
pub at_eq : {q p : ℕ} → Some q ≡ Some p → q ≡ p
at_eq e = cc

module _ (t : Tables) (card : Card) (ports : card.head.port_count ≡ t.ports) (p : ℕ) (none : p < 64 → (port_at card p).asking ≡ false) where
  came-none : (m : List ℕ) → kind_in m ≡ 147 → port_in t m ≡ Some p → (o : Outcome) → Came t.ids t.channels card m o → o.number ≡ 0 → ⊥
  unfolding kind_in port_in
  came-none m kind port o (kept n z) e = z e
  came-none m kind port o (notice k r) e = omega arith
  came-none m kind port o (refused code n) e = n kind
  came-none m kind port o (ordered q k s) e = omega arith
  came-none m kind port o (reduced q k s) e = omega arith
  came-none m kind port o (queried reply q k) e = omega arith
  came-none m kind port o (answered q k r s) e =
      let found : port_of t.ids card.head.port_count (id_in (drop 16 m)) ≡ Some p = ap (λ (n : ℕ). port_of t.ids n (id_in (drop 16 m))) ports ∙ port in
      let same : q ≡ p = at_eq (sym s.found ∙ found) in
      let asks = transferred_open card (header_in m) q (allocation_in (first_of 0x0015 (items_of (drop 16 m)))) e in
      false≢true
      (sym (none (port_below t.ids card.head.port_count (id_in (drop 16 m)) found).1) ∙ ap (λ (i : ℕ). (port_at card i).asking) (sym same) ∙ asks)

  pub takes_none : TakesNone t card p
  unfolding outcome_of
  takes_none m space kind port e = came-none m kind port (received_of t.ids t.channels card m space) (came t.ids t.channels card m space) e
