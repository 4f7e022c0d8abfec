-- Which calls are taken, number 0.
--     Known, up_known, ..       a call that is taken is about a port of the card
--     ups_exactly               port up is taken on every port
--     sets_exactly              set delegation exactly where the amount is not under what is committed
-- Assumes nothing.
use Rattle.std.specs.Prelude.{Some}
use Prim.Native.Nat.{ℕ, ◌≤◌, ◌<◌}
use mathlib.Core.Path.{◌≡◌, refl, ap, subst}
use mathlib.Core.Logic.{◌↔◌}
use mathlib.Core.Bool.{Bool, true, false, cond}
use mathlib.Core.List.{List, [], ◌∷◌}
use native.Mathlib.Omega.{arith}
use lib.ListN.{drop}
use lib.Dec.{leb, ltb}
use borrow.Author.Tests.{leb-true, le-leb, ltb-true}
use Rattle.octets.proofs.Tests.{each}
use Rattle.flows.specs.declared.Flow.{Flow}
use Rattle.checks.specs.Table.{id_in}
use Rattle.ports.specs.Ports.{delegated}
use Rattle.pool.specs.Pool.{committed_of}
use Rattle.card.specs.Cards.{Card, is_port, has_port, port_at, with_port}
use Rattle.card.specs.Outcome.{Outcome, becomes, keeps}
use Rattle.card.specs.Calls.{port_up_of, port_down_of, set_delegation_of, leave_of}
use Rattle.joins.specs.Joins.{join_of}
use Rattle.joins.specs.Asks.{ask_of}
use Rattle.demand3.specs.Calls.{Tables, Call, outcome_of}
use Rattle.demand3.specs.Calls.Call.{port_up, port_down, set_delegation, join, leave, ask}
use Rattle.demand3.specs.Reads.{port_in}
use Rattle.demand3.specs.Ledger.{Ledger}
use Rattle.demand3.specs.Claim.{charges}
use Rattle.demand3.proofs.Agree.{Agree, TablesTaken}
use Rattle.demand3.proofs.Figures.{below, has_port_lem, committed_is}
use Rattle.demand3.proofs.Views.{port_below}

-- ---- a call that is taken is about a port

-- past a test that refuses
past : (card : Card) (b : Bool) (o : Outcome) (n : ℕ) → (cond b o (keeps card n)).number ≡ 0 → (n ≡ 0 → ⊥) → b ≡ true
past card true o n z r = refl
past card false o n z r = absurd (r z)

-- past the test of the reply buffer
past_buffer : (card : Card) (b : Bool) (o : Outcome) → (cond b (keeps card 13) o).number ≡ 0 → o.number ≡ 0
past_buffer card true o z = absurd (omega arith)
past_buffer card false o z = z

-- the call x is taken where p is a port alone
abbrev pub Known : Tables → Card → Call → ℕ → Type 0
Known t card x p = (outcome_of t card x).number ≡ 0 → p < t.ports

module _ (t : Tables) (card : Card) (ports : card.head.port_count ≡ t.ports) where
  at_port : (p : ℕ) (o : Outcome) → (cond (has_port card p) o (keeps card 7)).number ≡ 0 → p < t.ports
  unfolding is_port
  at_port p o z =
      let h = each (ltb p 64 ∷ ltb p card.head.port_count ∷ []) (past card (has_port card p) o 7 z (λ e. omega arith)) in
      omega (arith, ltb-true p card.head.port_count h.1.0, ports)

  module _ (p : ℕ) where
    pub up_known : Known t card (port_up p) p
    unfolding outcome_of port_up_of
    up_known z = at_port p _ z

    pub down_known : Known t card (port_down p) p
    unfolding outcome_of port_down_of
    down_known z = at_port p _ z

    pub delegation_known : (amount : ℕ) → Known t card (set_delegation p amount) p
    unfolding outcome_of set_delegation_of
    delegation_known amount z = at_port p _ z

    pub join_known : (f : Flow) (space : ℕ) → Known t card (join p f space) p
    unfolding outcome_of join_of
    join_known f space z = at_port p _ (past_buffer card (ltb space 4608) _ z)

    pub leave_known : (f : Flow) → Known t card (leave p f) p
    unfolding outcome_of leave_of
    leave_known f z = at_port p _ z

    pub ask_known : (required preferred space : ℕ) → Known t card (ask p required preferred space) p
    unfolding outcome_of ask_of
    ask_known required preferred space z = at_port p _ (past_buffer card (ltb space 4608) _ z)

-- a message's Target names no number but a port's
pub named_known : (t : Tables) (m : List ℕ) (p : ℕ) → port_in t m ≡ Some p → p < t.ports
unfolding port_in
named_known t m p e = (port_below t.ids t.ports (id_in (drop 16 m)) e).0

-- ---- port up and set delegation
module _ (t : Tables) (card : Card) (l : Ledger) (a : Agree t card l) (taken : TablesTaken t) (p : ℕ) where
  pub ups_exactly : ((outcome_of t card (port_up p)).number ≡ 0) ↔ (p < t.ports)
  unfolding outcome_of port_up_of
  ups_exactly = (up_known t card a.ports p, λ port. rw (has_port_lem t card l a taken p port))

  module _ (port : p < t.ports) where
    pub sets_exactly : (amount : ℕ) → ((outcome_of t card (set_delegation p amount)).number ≡ 0) ↔ (charges t (l p) ≤ amount)
    unfolding outcome_of set_delegation_of
    sets_exactly amount =
        let is = committed_is t card l a p (below t card l a taken p port) in
        rw (has_port_lem t card l a taken p port) (
          go (leb (committed_of t.channels card.pool p) amount) refl,
          λ c. rw (le-leb (committed_of t.channels card.pool p) amount (omega (arith, is))),
        )
      where
        go : (b : Bool) → leb (committed_of t.channels card.pool p) amount ≡ b
            → (cond b (becomes (with_port card p (delegated (port_at card p) amount))) (keeps card 11)).number ≡ 0 → charges t (l p) ≤ amount
        go true e n =
            let k = leb-true (committed_of t.channels card.pool p) amount e in
            omega (arith, committed_is t card l a p (below t card l a taken p port))
        go false e n = absurd (omega arith)
