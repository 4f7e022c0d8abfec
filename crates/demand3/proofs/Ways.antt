-- What a call comes to on any card: the ends that there are (`Way`), and those of each call (`up_way`, ..). Assumes
-- nothing.
use Rattle.std.specs.Prelude.{Option, Some, None}
use Prim.Native.Nat.{ℕ}
use mathlib.Core.Path.{◌≡◌, refl, sym, ◌∙◌}
use mathlib.Core.Bool.{Bool, true, false, cond}
use mathlib.Core.List.{List}
use native.Mathlib.Omega.{arith}
use lib.ListN.{drop}
use lib.Dec.{eqb, leb, ltb}
use Rattle.header.specs.declared.Header.{Header}
use Rattle.header.specs.Header.{header_in}
use Rattle.flows.specs.declared.Flow.{Flow}
use Rattle.flows.specs.Flows.{good_flow}
use Rattle.channels.specs.Channels.{channel_of}
use Rattle.lists.specs.declared.Colour.{Colour}
use Rattle.lists.specs.declared.Colour.TheVariants.{Black, Grey, White}
use Rattle.lists.specs.Lists.{list_decision}
use Rattle.ports.specs.Ports.{brought_up, taken_down, closed, delegated, may_ask, answers, within}
use Rattle.pool.specs.Pool.{is_active, has_flow, committed_of, ended_all}
use Rattle.card.specs.Cards.{Card, has_port, port_at, with_port, with_pool}
use Rattle.card.specs.Outcome.{Outcome, keeps, becomes, writes}
use Rattle.card.specs.Calls.{port_up_of, port_down_of, set_delegation_of, leave_flow, leave_of}
use Rattle.joins.specs.Joins.{admit_number, white_of, grey_of, by_list, join_row, join_of}
use Rattle.joins.specs.Asks.{asked_of, ask_of}
use Rattle.circuits.specs.Circuits.{id_at}
use Rattle.checks.specs.Table.{enclosed_of}
use Rattle.control.specs.Control.{controlled}
use Rattle.transfers.specs.Transfers.{transfer_fails, transfer_gives, transferred}
use Rattle.messages.specs.Messages.{received_of}
use Rattle.demand3.specs.Calls.{Tables, Call, outcome_of}
use Rattle.demand3.specs.Calls.Call.{port_up, port_down, set_delegation, join, leave, ask, message}
use Rattle.demand3.specs.Reads.{kind_in}
use Rattle.demand3.proofs.Replies.{kind-refusal, kind-amount}
use Rattle.demand3.proofs.Views.{Other, Came, kept, notice, refused, ordered, reduced, queried, answered, came}
use Rattle.demand3.proofs.Transfers.{Reallocation, fails, gives, reallocation}

-- neither Admission Control (145) nor Bandwidth Reallocation Request (146): the card did not begin it
abbrev pub NotBegun : List ℕ → Type 0
NotBegun w = Other (kind_in w) 145 × Other (kind_in w) 146

pub other_type : (w : List ℕ) {kind : ℕ} → Other kind 145 → Other kind 146 → kind_in w ≡ kind → NotBegun w
other_type w a b e = (λ k. a (sym e ∙ k), λ k. b (sym e ∙ k))

module _ (t : Tables) (card : Card) (x : Call) where
  pub data Way : Outcome → Type 0 where
    -- the card is kept: nothing is written, or a reply
    stays : (n : ℕ) → Way (keeps card n)
    replies : (reply : List ℕ) → NotBegun reply → Way (writes card reply)
    -- one port's record changes
    rises : (p : ℕ) → Way (becomes (with_port card p (brought_up (port_at card p))))
    falls : (p : ℕ) → Way (becomes (with_pool (with_port card p (taken_down (port_at card p))) (ended_all card.pool p)))
    sets : (p amount : ℕ) → Way (becomes (with_port card p (delegated (port_at card p) amount)))
    closes : (p : ℕ) → Way (becomes (with_port card p (closed (port_at card p))))
    reduces : (h : Header) (p amount : ℕ) → Way (transfer_gives t.ids card h p amount)
    asks : (p required preferred space : ℕ) → x ≡ ask p required preferred space → has_port card p ≡ true → (port_at card p).up ≡ true
        → Way (asked_of t.ids card p required preferred)
    -- no port's record changes: flows begin or end, by the host or by commands
    keeps_ports : (card' : Card) → card'.ports ≡ card.ports → card'.head.counter ≡ card.head.counter → Way (becomes card')
    commanded : (h : Header) (p : ℕ) (s : List ℕ) → Way (controlled t.ids t.channels card h p s)
    -- a transaction number is used
    grey : (p : ℕ) (f : Flow) (space : ℕ) → x ≡ join p f space → Way (grey_of t.ids card p f)

  by : (b : Bool) (v w : Outcome) → (b ≡ true → Way v) → Way w → Way (cond b v w)
  by true v w f g = f refl
  by false v w f g = g

  flow_way : (p : ℕ) (f : Flow) → Way (leave_flow t.channels card p f)
  unfolding leave_flow
  flow_way p f = by (has_flow t.channels card.pool p f) _ _ (λ e. keeps_ports _ refl refl) (stays 10)

  list_way : (p : ℕ) (f : Flow) (space : ℕ) → x ≡ join p f space → (k : ℕ) (d : Option Colour) → Way (by_list t.ids t.channels card p f k d)
  unfolding by_list white_of
  list_way p f space e k (Some White) = by (eqb (admit_number t.channels card card.head.white_cac p k) 0) _ _ (λ z. keeps_ports _ refl refl) (stays _)
  list_way p f space e k (Some Grey) = grey p f space e
  list_way p f space e k (Some Black) = stays 3
  list_way p f space e k None = stays 3

  row-way : (p : ℕ) (f : Flow) (space : ℕ) → x ≡ join p f space → (r : Option ℕ) → Way (join_row t.ids t.channels t.entries card p f r)
  unfolding join_row
  row-way p f space e None = stays 9
  row-way p f space e (Some k) =
      by (is_active card.pool p k) _ _ (λ z. stays 1) (list_way p f space e k (list_decision t.entries card.head.entry_count f))

  reduced_way : (h : Header) (p : ℕ) (o : Outcome) → Reallocation t.ids t.channels card h p o → Way o
  unfolding transfer_fails
  reduced_way h p o (fails code) = replies _ (other_type _ (λ e. omega arith) (λ e. omega arith) (kind-amount h 147 4 code (id_at t.ids p) (port_at card p).delegation))
  reduced_way h p o (gives amount) = reduces h p amount

  transferred_way : (h : Header) (p amount : ℕ) → Way (transferred card h p amount)
  unfolding transferred
  transferred_way h p amount =
      by (answers (port_at card p) h.transaction) _ _
      (λ e. by (eqb h.result 4) _ _ (λ f. closes p)
      (by (within (port_at card p) amount) _ _ (λ g. sets p amount) (stays 16)))
      (stays 16)

  came_way : (m : List ℕ) (o : Outcome) → Came t.ids t.channels card m o → Way o
  came_way m o (kept n z) = stays n
  came_way m o (notice k r) = stays 0
  came_way m o (refused code n) = replies _ (other_type _ (λ e. omega arith) (λ e. omega arith) (kind-refusal (header_in m) code (enclosed_of (header_in m).kind (drop 16 m) code)))
  came_way m o (ordered p k s) = commanded (header_in m) p (drop 16 m)
  came_way m o (reduced p k s) = reduced_way (header_in m) p _ (reallocation t.ids t.channels card (header_in m) p _)
  came_way m o (queried reply q e) = replies reply (other_type reply (λ k. omega arith) (λ k. omega arith) e)
  came_way m o (answered p k a s) = transferred_way (header_in m) p _

  -- ---- the calls
  module _ (p : ℕ) where
    pub up_way : Way (outcome_of t card (port_up p))
    unfolding outcome_of port_up_of
    up_way = by (has_port card p) _ _ (λ h. rises p) (stays 7)

    pub down_way : Way (outcome_of t card (port_down p))
    unfolding outcome_of port_down_of
    down_way = by (has_port card p) _ _ (λ h. by (port_at card p).up _ _ (λ u. falls p) (stays 0)) (stays 7)

    pub delegation_way : (amount : ℕ) → Way (outcome_of t card (set_delegation p amount))
    unfolding outcome_of set_delegation_of
    delegation_way amount =
        by (has_port card p) _ _ (λ h. by (leb (committed_of t.channels card.pool p) amount) _ _ (λ c. sets p amount) (stays 11)) (stays 7)

    pub join-way : (f : Flow) (space : ℕ) → x ≡ join p f space → Way (outcome_of t card (join p f space))
    unfolding outcome_of join_of
    join-way f space e =
        by (ltb space 4608) _ _ (λ r. stays 13)
        (by (has_port card p) _ _
        (λ h. by (port_at card p).up _ _
        (λ u. by (good_flow f) _ _ (λ g. row-way p f space e (channel_of t.channels card.head.channel_count f)) (stays 8))
        (stays 6))
        (stays 7))

    pub leave_way : (f : Flow) → Way (outcome_of t card (leave p f))
    unfolding outcome_of leave_of
    leave_way f =
        by (has_port card p) _ _
        (λ h. by (port_at card p).up _ _
        (λ u. by (good_flow f) _ _ (λ g. flow_way p f) (stays 8))
        (stays 6))
        (stays 7)

    pub ask-way : (required preferred space : ℕ) → x ≡ ask p required preferred space → Way (outcome_of t card (ask p required preferred space))
    unfolding outcome_of ask_of
    ask-way required preferred space e =
        by (ltb space 4608) _ _ (λ r. stays 13)
        (by (has_port card p) _ _
        (λ h. by (port_at card p).up _ _
        (λ u. by (may_ask (port_at card p) required preferred) _ _ (λ m. asks p required preferred space e h u) (stays 12))
        (stays 6))
        (stays 7))

  pub message_way : (m : List ℕ) (space : ℕ) → Way (outcome_of t card (message m space))
  unfolding outcome_of
  message_way m space = came_way m (received_of t.ids t.channels card m space) (came t.ids t.channels card m space)
