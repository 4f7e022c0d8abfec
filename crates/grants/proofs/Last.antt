-- A 147 that is taken has the number of the last 146 that the card wrote for its port.
--     call_open      a request that is open after a call was open before, with the same number, or the call wrote it
--     calls_last     the same after any list of calls
--     Opened, taken_open     a 147 that is taken answers the open request of the port that it names
-- Assumes nothing.
use Rattle.std.specs.Prelude.{Some}
use Prim.Native.Nat.{ℕ, ◌<◌}
use mathlib.Core.Path.{◌≡◌, refl, sym, ap, subst, ◌∙◌}
use mathlib.Core.Bool.{Bool, true, false, cond, false≢true}
use mathlib.Core.List.{List, [], ◌∷◌, ◌++◌}
use native.Mathlib.Omega.{arith}
use lib.ListN.{get_or, drop}
use lib.Seq.{get_or-set_other}
use lib.Dec.{eqb, ltb}
use borrow.Author.Tests.{eqb-true, ltb-true}
use Rattle.octets.proofs.Tests.{each}
use Rattle.header.specs.declared.Header.{Header}
use Rattle.header.specs.Header.{header_in}
use Rattle.items.specs.Items.{items_of, first_of}
use Rattle.fields.specs.Fields.{allocation_in}
use Rattle.writers.specs.Tlvs.{target_of, command_of, request_of}
use Rattle.replies.specs.Replies.{begin_header, amount_reply}
use Rattle.begun.specs.Begun.{admission_of, reallocation_of}
use Rattle.flows.specs.declared.Flow.{Flow}
use Rattle.flow_octets.specs.FlowOctets.{flow_tlv}
use Rattle.circuits.specs.Circuits.{id_at, port_of}
use Rattle.ports.specs.declared.Port.{Port}
use Rattle.ports.specs.Ports.{fresh_port, brought_up, taken_down, closed, delegated, asked, answers, within}
use Rattle.card.specs.Cards.{Card, is_port, port_at, with_port}
use Rattle.card.specs.Outcome.{Outcome, keeps, becomes}
use Rattle.joins.specs.Joins.{grey_of}
use Rattle.joins.specs.Asks.{asked_of}
use Rattle.checks.specs.Table.{id_in}
use Rattle.control.specs.Control.{controlled}
use Rattle.transfers.specs.Transfers.{transfer_gives, transferred}
use Rattle.messages.specs.Messages.{received_of}
use Rattle.demand3.specs.Calls.{Tables, Call, ours, outcome_of, card_after, seen, history}
use Rattle.demand3.specs.Calls.Call.{message}
use Rattle.demand3.specs.Reads.{kind_in, port_in}
use Rattle.demand3.specs.Ledger.{Ledger, entered}
use Rattle.demand3.proofs.Agree.{Agree, TablesTaken, same_or_not}
use Rattle.demand3.proofs.Steps.{port_set}
use Rattle.demand3.proofs.Replies.{kind-back, kind-amount, target_port}
use Rattle.demand3.proofs.Views.{Came, kept, notice, refused, ordered, reduced, queried, answered, came}
use Rattle.demand3.proofs.Transfers.{at_eq}
use Rattle.demand3.proofs.Ways.{NotBegun, other_type, Way, stays, replies, rises, falls, sets, closes, reduces, asks, keeps_ports, commanded, grey}
use Rattle.demand3.proofs.Each.{call_way, call_step}
use Rattle.demand3.proofs.Counter.{InRange, call_range}
use Rattle.grants.specs.Grants.{written_from, transaction_in, IsRequest, NoRequest, LastRequest}
use Rattle.grants.proofs.Numbers.{silent, number-back, commands_silent, commands-kept}

-- ---- one call
-- port p's request, with number n: open before a call that wrote w, which is no request for the port; or w is it
data Opens (t : Tables) (p : ℕ) (card : Card) (w : List ℕ) (n : ℕ) : Type 0 where
  open_before : (port_at card p).asking ≡ true → (port_at card p).transaction ≡ n → (IsRequest t p w → ⊥) → Opens t p card w n
  opened-here : IsRequest t p w → transaction_in w ≡ n → Opens t p card w n

module _ (t : Tables) (taken : TablesTaken t) (p : ℕ) (below : p < 64) (card : Card) (l : Ledger) (a : Agree t card l) (range : InRange card) where
  -- port p's record is z after a call that wrote w
  abbrev After : List ℕ → Port → Type 0
  After w z = z.asking ≡ true → Opens t p card w z.transaction

  module _ (w : List ℕ) (n : NotBegun w) where
    was : After w (port_at card p)
    was e = open_before e refl (λ r. n.1 r.0)

    shut : (y : Port) → y.asking ≡ false → After w y
    shut y e z = absurd (false≢true (sym e ∙ z))

    either : (b : Bool) (y z : Port) → After w y → After w z → After w (cond b y z)
    either true y z f g = f
    either false y z f g = g

    abbrev down : Port → Port
    down y = record { up = false; asking = false; delegation = y.delegation; required = 0; preferred = 0; transaction = 0 }

    fallen : (y : Port) → After w y → After w (taken_down y)
    unfolding taken_down
    fallen y r = either y.up (down y) y (shut (down y) refl) r

    -- a record changed, of port p or of another
    changed : (q : ℕ) (change : Port → Port) → After w (change (port_at card p)) → After w (port_at (with_port card q (change (port_at card q))) p)
    changed q change f =
        same_or_not q p
        (λ e. subst (λ (i : ℕ). After w (port_at (with_port card i (change (port_at card i))) p)) (sym e)
        (subst (After w) (sym (port_set t card l a p below (change (port_at card p)))) f))
        (λ d. subst (After w) (sym (get_or-set_other card.ports q p (change (port_at card q)) fresh_port (λ e. d (sym e)))) was)

  -- the host asks for port q
  module _ (q required preferred : ℕ) (one : q < t.ports) where
    abbrev number : ℕ
    number = card.head.counter.number

    abbrev request : List ℕ
    request = reallocation_of number (id_at t.ids q) required preferred

    names : port_in t request ≡ Some q
    unfolding reallocation_of
    names = target_port t (begin_header 146 number) q (request_of required preferred) taken one

    kind_is : kind_in request ≡ 146
    unfolding reallocation_of
    kind_is = kind-back (begin_header 146 number) (target_of (id_at t.ids q) ++ request_of required preferred)

    number_is : transaction_in request ≡ number
    unfolding reallocation_of
    number_is = number-back 146 number (target_of (id_at t.ids q) ++ request_of required preferred) range.1

    asked_open : After request (port_at (with_port card q (asked (port_at card q) required preferred number)) p)
    asked_open =
        same_or_not q p
        (λ e. subst (λ (i : ℕ). After request (port_at (with_port card i (asked (port_at card i) required preferred number)) p)) (sym e)
        (subst (After request) (sym (port_set t card l a p below (asked (port_at card p) required preferred number)))
        (λ z. opened-here (kind_is, names ∙ ap Some e) number_is)))
        (λ d. subst (After request) (sym (get_or-set_other card.ports q p (asked (port_at card q) required preferred number) fresh_port (λ e. d (sym e))))
        (λ z. open_before z refl (λ r. d (at_eq (sym names ∙ r.1)))))

  has_one : (q : ℕ) → is_port card.head.port_count q ≡ true → q < t.ports
  unfolding is_port
  has_one q h = omega (arith, a.ports, ltb-true q card.head.port_count (each (ltb q 64 ∷ ltb q card.head.port_count ∷ []) h).1.0)

  grey_open : (q : ℕ) (f : Flow) → After (admission_of card.head.counter.number (id_at t.ids q) f) (port_at card p)
  unfolding admission_of
  grey_open q f z =
      let kind = kind-back (begin_header 145 card.head.counter.number) (target_of (id_at t.ids q) ++ command_of 1 0 (flow_tlv f)) in
      open_before z refl (λ r. omega (arith, r.0, kind))

  way_open : (x : Call) (o : Outcome) → Way t card x o → After o.reply (port_at o.card p)
  unfolding grey_of asked_of transfer_gives
  way_open x o (stays k) = was [] silent
  way_open x o (replies reply w) = was reply w
  way_open x o (rises q) = changed [] silent q brought_up (was [] silent)
  way_open x o (falls q) = changed [] silent q taken_down (fallen [] silent (port_at card p) (was [] silent))
  way_open x o (sets q amount) = changed [] silent q (λ y. delegated y amount) (shut [] silent (delegated (port_at card p) amount) refl)
  way_open x o (closes q) = changed [] silent q closed (shut [] silent (closed (port_at card p)) refl)
  way_open x o (reduces h q amount) =
      let w : List ℕ = amount_reply h 147 3 0 (id_at t.ids q) amount in
      let n : NotBegun w = other_type w (λ e. omega arith) (λ e. omega arith) (kind-amount h 147 3 0 (id_at t.ids q) amount) in
      changed w n q (λ y. delegated y amount) (shut w n (delegated (port_at card p) amount) refl)
  way_open x o (asks q required preferred space is has up) = asked_open q required preferred (has_one q has)
  way_open x o (keeps_ports card' e n) = subst (λ (ps : List Port). After [] (get_or ps p fresh_port)) (sym e) (was [] silent)
  way_open x o (commanded h q w) =
      subst (λ (ps : List Port). After (controlled t.ids t.channels card h q w).reply (get_or ps p fresh_port))
      (sym (commands-kept (λ c. c.ports) (λ c pool. refl) t card h q w)) (was _ (commands_silent t card h q w))
  way_open x o (grey q f space e) = grey_open q f

  call_open : (x : Call) → After (outcome_of t card x).reply (port_at (outcome_of t card x).card p)
  call_open x = way_open x (outcome_of t card x) (call_way t card x)

-- ---- lists of calls
-- port p's request, with number n: open on the card before some calls that wrote ws, with none since; or the last of ws
pub data Since (t : Tables) (p : ℕ) (card : Card) (n : ℕ) (ws : List (List ℕ)) : Type 0 where
  open_since : (port_at card p).asking ≡ true → (port_at card p).transaction ≡ n → NoRequest t p ws → Since t p card n ws
  last_in : LastRequest t p n ws → Since t p card n ws

module _ (t : Tables) (taken : TablesTaken t) (p : ℕ) (below : p < 64) where
  earlier : (n : ℕ) (w : List ℕ) (ws : List (List ℕ)) → LastRequest t p n ws → LastRequest t p n (w ∷ ws)
  earlier n w ws k =
      record {
        before = w ∷ k.before;
        request = k.request;
        after = k.after;
        among = ap (λ (vs : List (List ℕ)). w ∷ vs) k.among;
        is_request = k.is_request;
        number = k.number;
        none_after = k.none_after;
      }

  since_open : (card : Card) (w : List ℕ) (n : ℕ) (ws : List (List ℕ)) → Opens t p card w n → NoRequest t p ws → Since t p card n (w ∷ ws)
  unfolding NoRequest
  since_open card w n ws (open_before e k d) none = open_since e k (d, none)
  since_open card w n ws (opened-here r k) none =
      last_in (record { before = []; request = w; after = ws; among = refl; is_request = r; number = k; none_after = none })

  module _ (card : Card) (l : Ledger) (a : Agree t card l) (range : InRange card) (x : Call) (n : ℕ) (ws : List (List ℕ)) where
    since_call : Since t p (outcome_of t card x).card n ws → Since t p card n ((outcome_of t card x).reply ∷ ws)
    since_call (open_since e k none) =
        since_open card _ n ws (subst (Opens t p card (outcome_of t card x).reply) k (call_open t taken p below card l a range x e)) none
    since_call (last_in k) = last_in (earlier n _ ws k)

  pub calls_last : (xs : List Call) (card : Card) (l : Ledger) → Agree t card l → InRange card
      → (port_at (card_after ours t card xs) p).asking ≡ true → Since t p card (port_at (card_after ours t card xs) p).transaction (written_from t card xs)
  unfolding card_after history NoRequest
  calls_last [] card l a range e = open_since e refl tt
  calls_last (x ∷ xs) card l a range e =
      let next : Card = (outcome_of t card x).card in
      since_call card l a range x (port_at (card_after ours t next xs) p).transaction (written_from t next xs)
      (calls_last xs next (entered t l (seen ours t card x)) (call_step t taken card l a x) (call_range t card x range) e)

-- ---- a 147 that is taken
pub record Opened (t : Tables) (card : Card) (m : List ℕ) : Type 0 where
  pub p : ℕ
  pub port : port_in t m ≡ Some p
  pub below : p < 64
  pub is_open : (port_at card p).asking ≡ true
  pub number : (port_at card p).transaction ≡ transaction_in m

module _ (t : Tables) (card : Card) (ports : card.head.port_count ≡ t.ports) (m : List ℕ) (kind : kind_in m ≡ 147) where
  transferred-answers : (h : Header) (q amount : ℕ) → (transferred card h q amount).number ≡ 0
      → ((port_at card q).asking ≡ true) × ((port_at card q).transaction ≡ h.transaction)
  unfolding transferred answers
  transferred-answers h q amount = go (answers (port_at card q) h.transaction) refl
    where
      go : (b : Bool) → answers (port_at card q) h.transaction ≡ b
          → (cond b (cond (eqb h.result 4) (becomes (with_port card q (closed (port_at card q)))) (cond (within (port_at card q) amount) (becomes (with_port card q (delegated (port_at card q) amount))) (keeps card 16))) (keeps card 16)).number ≡ 0
          → ((port_at card q).asking ≡ true) × ((port_at card q).transaction ≡ h.transaction)
      go true e n =
          let s = each ((port_at card q).asking ∷ eqb (port_at card q).transaction h.transaction ∷ []) e in
          (s.0, eqb-true (port_at card q).transaction h.transaction s.1.0)
      go false e n = absurd (omega arith)

  came_open : (o : Outcome) → Came t.ids t.channels card m o → o.number ≡ 0 → Opened t card m
  unfolding kind_in port_in transaction_in
  came_open o (kept n z) e = absurd (z e)
  came_open o (notice k r) e = absurd (omega arith)
  came_open o (refused code n) e = absurd (n kind)
  came_open o (ordered q k s) e = absurd (omega arith)
  came_open o (reduced q k s) e = absurd (omega arith)
  came_open o (queried reply q k) e = absurd (omega arith)
  came_open o (answered q k r s) e =
      let open_at = transferred-answers (header_in m) q (allocation_in (first_of 0x0015 (items_of (drop 16 m)))) e in
      record {
        p = q;
        port = ap (λ (n : ℕ). port_of t.ids n (id_in (drop 16 m))) (sym ports) ∙ s.found;
        below = s.small;
        is_open = open_at.0;
        number = open_at.1;
      }

  pub taken_open : (space : ℕ) → (outcome_of t card (message m space)).number ≡ 0 → Opened t card m
  unfolding outcome_of
  taken_open space = came_open (received_of t.ids t.channels card m space) (came t.ids t.channels card m space)
