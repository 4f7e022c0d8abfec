-- Agreement goes on where a card's pool or one port's record changes.
--     counter_step     the transaction counter alone changes
--     pool_step        the flows of port p change, and those of no other port
--     port_set         a record that is written is read back
--     port_step        the record of port p changes, its flows are kept
-- Assumes nothing.
use Prim.Native.Nat.{ℕ, ◌≤◌, ◌<◌}
use mathlib.Core.Path.{◌≡◌, refl, sym, ap, subst, ◌∙◌}
use mathlib.Core.Bool.{Bool, true, false}
use mathlib.Core.List.{List, []}
use native.Mathlib.Omega.{arith}
use lib.ListN.{length, get_or, length-set}
use lib.Seq.{get_or-set_same, get_or-set_other}
use Rattle.ports.specs.declared.Port.{Port}
use Rattle.ports.specs.declared.Counter.{Counter}
use Rattle.ports.specs.Ports.{fresh_port}
use Rattle.pool.specs.declared.Pool.{Pool}
use Rattle.pool.specs.Pool.{pool_sum, extras_of}
use Rattle.pool.proofs.Whole.{Whole}
use Rattle.pool.proofs.Law.{Owned}
use Rattle.card.specs.Cards.{Card, port_at, with_port, with_pool, with_counter}
use Rattle.demand3.specs.Calls.{Tables}
use Rattle.demand3.specs.Ledger.{Held, Line, Ledger, write, with_flows}
use Rattle.demand3.specs.Claim.{charges, Once}
use Rattle.demand3.proofs.Rows.{flow_sum, AllListed}
use Rattle.demand3.proofs.Agree.{PortAgrees, Agree, written}

-- what a change of the pool owes, where hs are to be the flows of port p, whose line is x
pub record PoolStep (t : Tables) (old new : Pool) (p : ℕ) (x : Line) (hs : List Held) : Type 0 where
  pub whole : Whole new
  pub owned : Owned new.owner
  pub extras : extras_of new ≤ 256
  pub others : (q : ℕ) → q < 64 → (q ≡ p → ⊥) → (w : ℕ → Bool → ℕ) → pool_sum new q w ≡ pool_sum old q w
  pub flows : (w : ℕ → Bool → ℕ) → pool_sum new p w ≡ flow_sum t w hs
  pub rows : AllListed t hs
  pub once : Once hs
  pub few : length hs ≤ 16
  pub bounded : charges t (with_flows x hs) ≤ x.delegation
  pub idle : x.is_up ≡ false → hs ≡ []

-- the line of a port whose flows are kept
abbrev pub line_of : Bool → ℕ → List Held → Line
line_of u d hs = record { is_up = u; delegation = d; flows = hs }

-- what a change of the record of a port with line x owes
pub record PortStep (t : Tables) (y : Port) (x : Line) (u : Bool) (d : ℕ) : Type 0 where
  pub is_up : y.up ≡ u
  pub delegation : y.delegation ≡ d
  pub bounded : charges t x ≤ d
  pub idle : u ≡ false → x.flows ≡ []
  pub asks-more : y.asking ≡ true → y.delegation < y.required

-- an open request asks for more than there is
abbrev AsksMore : Port → Type 0
AsksMore y = y.asking ≡ true → y.delegation < y.required

-- a port agrees also on a card where its record and its sums are the same
carried : (t : Tables) (old new : Card) (x : Line) (q : ℕ) → port_at old q ≡ port_at new q
    → ((w : ℕ → Bool → ℕ) → pool_sum new.pool q w ≡ pool_sum old.pool q w) → PortAgrees t old x q → PortAgrees t new x q
carried t old new x q same sums b =
    record {
      is_up = ap (λ (y : Port). y.up) (sym same) ∙ b.is_up;
      delegation = ap (λ (y : Port). y.delegation) (sym same) ∙ b.delegation;
      flows = λ w. sums w ∙ b.flows w;
      rows = b.rows;
      once = b.once;
      few = b.few;
      bounded = b.bounded;
      idle = b.idle;
      asks-more = subst AsksMore same b.asks-more;
    }

-- what a card keeps of its start
pub record Given : Type 0 where
  ports : ℕ
  channels : ℕ
  entries : ℕ
  white : Bool
  add : Bool

abbrev pub given_of : Card → Given
given_of card =
    record {
      ports = card.head.port_count;
      channels = card.head.channel_count;
      entries = card.head.entry_count;
      white = card.head.white_cac;
      add = card.head.add_cac;
    }

module _ (t : Tables) (card : Card) (l : Ledger) (a : Agree t card l) where
  -- what demand 3 does not speak of changes: the counter, the layout, the words
  pub parts-kept-step : (card' : Card) → card'.ports ≡ card.ports → card'.pool ≡ card.pool → given_of card' ≡ given_of card → Agree t card' l
  parts-kept-step card' ports pool s =
      record {
        ports = ap (λ (g : Given). g.ports) s ∙ a.ports;
        channels = ap (λ (g : Given). g.channels) s ∙ a.channels;
        entries = ap (λ (g : Given). g.entries) s ∙ a.entries;
        white = ap (λ (g : Given). g.white) s ∙ a.white;
        add = ap (λ (g : Given). g.add) s ∙ a.add;
        records = ap length ports ∙ a.records;
        whole = subst Whole (sym pool) a.whole;
        owned = subst (λ (x : Pool). Owned x.owner) (sym pool) a.owned;
        extras = subst (λ (x : Pool). extras_of x ≤ 256) (sym pool) a.extras;
        at = λ q h. carried t card card' (l q) q (ap (λ (xs : List Port). get_or xs q fresh_port) (sym ports)) (λ w. ap (λ (x : Pool). pool_sum x q w) pool) (a.at q h);
      }

  pub counter_step : (c : Counter) → Agree t (with_counter card c) l
  counter_step c = parts-kept-step (with_counter card c) refl refl refl

  module _ (p : ℕ) (port : p < 64) where
    module _ (pool : Pool) (hs : List Held) where
      pub pool_step : PoolStep t card.pool pool p (l p) hs → Agree t (with_pool card pool) (write l p (with_flows (l p) hs))
      pool_step s =
          record {
            ports = a.ports;
            channels = a.channels;
            entries = a.entries;
            white = a.white;
            add = a.add;
            records = a.records;
            whole = s.whole;
            owned = s.owned;
            extras = s.extras;
            at = written l p (with_flows (l p) hs) (λ q x. PortAgrees t (with_pool card pool) x q) own
                (λ q h n. carried t card (with_pool card pool) (l q) q refl (s.others q h n) (a.at q h));
          }
        where
          own : PortAgrees t (with_pool card pool) (with_flows (l p) hs) p
          own =
              let b = a.at p port in
              record {
                is_up = b.is_up;
                delegation = b.delegation;
                flows = s.flows;
                rows = s.rows;
                once = s.once;
                few = s.few;
                bounded = s.bounded;
                idle = s.idle;
                asks-more = b.asks-more;
              }

    pub port_set : (y : Port) → port_at (with_port card p y) p ≡ y
    port_set y = get_or-set_same card.ports p y fresh_port (omega (arith, a.records))

    module _ (y : Port) (u : Bool) (d : ℕ) where
      pub port_step : PortStep t y (l p) u d → Agree t (with_port card p y) (write l p (line_of u d (l p).flows))
      unfolding charges
      port_step s =
          record {
            ports = a.ports;
            channels = a.channels;
            entries = a.entries;
            white = a.white;
            add = a.add;
            records = length-set card.ports p y ∙ a.records;
            whole = a.whole;
            owned = a.owned;
            extras = a.extras;
            at = written l p (line_of u d (l p).flows) (λ q x. PortAgrees t (with_port card p y) x q) own
                (λ q h n. carried t card (with_port card p y) (l q) q (sym (get_or-set_other card.ports p q y fresh_port n)) (λ w. refl) (a.at q h));
          }
        where
          own : PortAgrees t (with_port card p y) (line_of u d (l p).flows) p
          own =
              let b = a.at p port in
              record {
                is_up = ap (λ (z : Port). z.up) (port_set y) ∙ s.is_up;
                delegation = ap (λ (z : Port). z.delegation) (port_set y) ∙ s.delegation;
                flows = b.flows;
                rows = b.rows;
                once = b.once;
                few = b.few;
                bounded = s.bounded;
                idle = s.idle;
                asks-more = subst AsksMore (sym (port_set y)) s.asks-more;
              }
