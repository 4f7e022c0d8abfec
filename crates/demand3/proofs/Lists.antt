-- On a card that agrees with a ledger, the list of a port's flows that a host reads is its line's.
--     rows-here, rows-flows     the rows of a port's flows, and that every sum over them is the line's
--     lists_times     each flow of the line stands in it once, and no other
--     lists_count     it has as many flows as the line
--     lists_order     in order
--     lists_reply     and a Multicast Flow Query (149) is answered with it
-- Assumes nothing.
use Prim.Native.Nat.{ℕ, ◌+◌, ◌≤◌, ◌<◌}
use mathlib.Core.Path.{◌≡◌, refl, sym, ap, ap₂, subst, ◌∙◌}
use mathlib.Core.Bool.{Bool, true, false, cond, ◌||◌}
use mathlib.Core.List.{List, [], ◌∷◌, ◌++◌, map, flat_map}
use native.Mathlib.Omega.{arith}
use lib.ListN.{length}
use lib.Seq.{take_all}
use Rattle.flows.specs.declared.Flow.{Flow}
use Rattle.flows.specs.Flows.{same_flow}
use Rattle.flows.proofs.Same.{same-flow_eq, same-flow_refl}
use Rattle.flows.proofs.Orders.{before-total}
use Rattle.flow_octets.specs.FlowOctets.{flow_tlv}
use Rattle.header.specs.declared.Header.{Header}
use Rattle.header.specs.Header.{message_of}
use Rattle.writers.specs.Tlvs.{target_of}
use Rattle.replies.specs.Replies.{reply_header}
use Rattle.channels.specs.Channels.{channel_at}
use Rattle.circuits.specs.Circuits.{id_at}
use Rattle.sums.specs.Sums.{sum_by}
use Rattle.sums.proofs.Sums.{test_most}
use Rattle.pool.specs.Pool.{rows_of}
use Rattle.pool.proofs.Lists.{rows-sum, rows-length}
use Rattle.card.specs.Cards.{Card}
use Rattle.listing.specs.Listing.{row_before, in_order, Ordered, rows_in_order, flows_at}
use Rattle.listing.specs.Listing.Ordered.{more}
use Rattle.listing.proofs.Ordering.{listed_by}
use Rattle.queries.specs.Queries.{flow_tlvs, flows_reply, flow_query}
use Rattle.demand3.specs.Calls.{Tables}
use Rattle.demand3.specs.Ledger.{Held, Ledger, holds}
use Rattle.demand3.specs.Claim.{Once, times_in, InOrder}
use Rattle.demand3.proofs.Rows.{flow_sum, AllListed, row-flow, length-sum}
use Rattle.demand3.proofs.Agree.{Agree, TablesTaken}
use Rattle.demand3.proofs.Figures.{count_is, below, has_port_lem}

-- ---- the flows of some rows
module _ (channels : List ℕ) where
  abbrev flows_of : List ℕ → List Flow
  flows_of ks = map (channel_at channels) ks

  -- 1 where row k is the flow's
  abbrev is_flow : Flow → ℕ → ℕ
  is_flow f k = cond (same_flow (channel_at channels k) f) 1 0

  flows-length : (ks : List ℕ) → length (flows_of ks) ≡ sum_by (λ k. 1) ks
  unfolding sum_by
  flows-length [] = refl
  flows-length (k ∷ ks) = omega (arith, flows-length ks)

  flows_times : (f : Flow) (ks : List ℕ) → times_in f (flows_of ks) ≡ sum_by (is_flow f) ks
  unfolding times_in sum_by
  flows_times f [] = refl
  flows_times f (k ∷ ks) = ap (λ (n : ℕ). is_flow f k + n) (flows_times f ks)

  flows-tlvs : (ks : List ℕ) → flow_tlvs channels ks ≡ flat_map flow_tlv (flows_of ks)
  unfolding flow_tlvs flat_map
  flows-tlvs [] = refl
  flows-tlvs (k ∷ ks) = ap (λ (s : List ℕ). flow_tlv (channel_at channels k) ++ s) (flows-tlvs ks)

  -- rows in order, none of whose flows stands twice
  flows_order : (ks : List ℕ) → ((f : Flow) → sum_by (is_flow f) ks ≤ 1) → Ordered (row_before channels) ks → InOrder (flows_of ks)
  unfolding InOrder sum_by
  flows_order [] few o = tt
  flows_order (k ∷ []) few o = tt
  flows_order (k ∷ j ∷ js) few (more _ _ _ h o) =
      (before-total (channel_at channels j) (channel_at channels k) apart h, flows_order (j ∷ js) (λ f. omega (arith, few f)) o)
    where
      apart : channel_at channels j ≡ channel_at channels k → ⊥
      apart e =
          let f : Flow = channel_at channels k in
          let here : is_flow f k ≡ 1 = ap (λ (b : Bool). cond b 1 0) (same-flow_refl f) in
          let next : is_flow f j ≡ 1 = ap (λ (g : Flow). cond (same_flow g f) 1 0) e ∙ here in
          omega (arith, few f)

-- a flow among those held, by their rows
module _ (t : Tables) (f : Flow) where
  held_times : (hs : List Held) → AllListed t hs → Once hs → flow_sum t (λ k c. is_flow t.channels f k) hs ≡ cond (holds f hs) 1 0
  unfolding flow_sum holds AllListed Once sum_by
  held_times [] a o = refl
  held_times (h ∷ hs) a o =
      ap (λ (g : Flow). cond (same_flow g f) 1 0 + flow_sum t (λ k c. is_flow t.channels f k) hs) (row-flow t h.flow a.0)
      ∙ go (held_times hs a.1 o.1) (same_flow h.flow f) refl
    where
      go : flow_sum t (λ k c. is_flow t.channels f k) hs ≡ cond (holds f hs) 1 0 → (b : Bool) → same_flow h.flow f ≡ b
          → cond b 1 0 + flow_sum t (λ k c. is_flow t.channels f k) hs ≡ cond (b || holds f hs) 1 0
      go ih true s =
          let gone : holds f hs ≡ false = ap (λ (g : Flow). holds g hs) (sym (same-flow_eq h.flow f s)) ∙ o.0 in
          omega (arith, ih, ap (λ (b : Bool). cond {A = ℕ} b 1 0) gone)
      go ih false s = omega (arith, ih)

-- ---- what a host reads
module _ (t : Tables) (card : Card) (l : Ledger) (a : Agree t card l) (taken : TablesTaken t) (p : ℕ) (port : p < t.ports) where
  abbrev rows : List ℕ
  rows = flows_at t.channels card p

  pub rows-here : rows ≡ rows_in_order t.channels card.pool p
  unfolding flows_at
  rows-here = ap (λ (b : Bool). cond b (rows_in_order t.channels card.pool p) []) (has_port_lem t card l a taken p port)

  -- nothing is cut
  rows_are : rows ≡ in_order (row_before t.channels) (rows_of card.pool p)
  unfolding rows_in_order
  rows_are =
      let h = below t card l a taken p port in
      rows-here
      ∙ ap (in_order (row_before t.channels))
      (take_all 16 (rows_of card.pool p) (omega (arith, rows-length card.pool p, count_is t card l a p h, (a.at p h).few)))

  -- every sum over them is the line's
  pub rows-flows : (w : ℕ → ℕ) → sum_by w rows ≡ flow_sum t (λ k c. w k) (l p).flows
  rows-flows w =
      ap (sum_by w) rows_are
      ∙ (listed_by t.channels (rows_of card.pool p)).same w
      ∙ rows-sum card.pool p w
      ∙ (a.at p (below t card l a taken p port)).flows (λ k c. w k)

  rows_times : (f : Flow) → sum_by (is_flow t.channels f) rows ≡ cond (holds f (l p).flows) 1 0
  rows_times f =
      let b = a.at p (below t card l a taken p port) in
      rows-flows (is_flow t.channels f) ∙ held_times t f (l p).flows b.rows b.once

  pub lists_times : (f : Flow) → times_in f (flows_of t.channels rows) ≡ cond (holds f (l p).flows) 1 0
  lists_times f = flows_times t.channels f rows ∙ rows_times f

  pub lists_count : length (flows_of t.channels rows) ≡ length (l p).flows
  lists_count = flows-length t.channels rows ∙ rows-flows (λ k. 1) ∙ length-sum t (l p).flows

  pub lists_order : InOrder (flows_of t.channels rows)
  lists_order =
      flows_order t.channels rows (λ f. omega (arith, rows_times f, test_most (holds f (l p).flows)))
      (subst (Ordered (row_before t.channels)) (sym rows_are) (listed_by t.channels (rows_of card.pool p)).ordered)

  pub lists_reply : (h : Header) → h.kind ≡ 149
      → (flow_query t.ids t.channels card h p).reply
      ≡ message_of (reply_header h 149 3 0) (target_of (id_at t.ids p) ++ flat_map flow_tlv (flows_of t.channels rows))
  unfolding flow_query flows_reply
  lists_reply h e =
      ap₂ (λ (n : ℕ) (s : List ℕ). message_of (reply_header h n 3 0) (target_of (id_at t.ids p) ++ s)) e
      (ap (flow_tlvs t.channels) (sym rows-here) ∙ flows-tlvs t.channels rows)
