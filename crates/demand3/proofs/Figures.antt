-- On a card that agrees with a ledger, the figures of its ports are the ledger's.
--     active_is, has_is, count_is, extras_is, committed_is      the figures that calls decide by
--     has_port_lem                                          the ports are those of start
--     reads_up, reads-delegation, reads-active, reads-committed      what a host reads
--     reads_once, reads-listed, reads_bounded           no flow twice, none that is not listed; committed within the delegation
-- Assumes nothing.
use Rattle.std.specs.Prelude.{Option, Some, None}
use Prim.Native.Nat.{ℕ, ◌-◌, ◌≤◌, ◌<◌}
use mathlib.Core.Path.{◌≡◌, refl, sym, ap, ◌∙◌}
use mathlib.Core.Bool.{Bool, true, false, cond, false≢true}
use mathlib.Core.List.{[], ◌∷◌}
use native.Mathlib.Omega.{arith}
use lib.ListN.{length}
use lib.Dec.{eqb, ltb}
use borrow.Author.Tests.{lt-ltb}
use Rattle.octets.proofs.Tests.{every-by}
use Rattle.flows.specs.declared.Flow.{Flow}
use Rattle.channels.specs.Channels.{is_row, channel_of}
use Rattle.sums.proofs.Sums.{sum_to_ext}
use Rattle.pool.specs.Pool.{is_active, has_flow, active_count, extras_of, committed_of}
use Rattle.card.specs.Cards.{Card, is_port, has_port, port_at}
use Rattle.card.specs.Figures.{up_of, delegation_of, committed_at}
use Rattle.listing.specs.Listing.{active_row, active_at}
use Rattle.demand3.specs.Calls.{Tables}
use Rattle.demand3.specs.Ledger.{Ledger, holds}
use Rattle.demand3.specs.Reads.{listed}
use Rattle.demand3.specs.Claim.{charges, all_extras, Once}
use Rattle.demand3.proofs.Rows.{found, sel_weight, row_weight, rate_weight, row_same, row_named, holds-sum, length-sum, charges-sum, unlisted_held, unlisted_at}
use Rattle.demand3.proofs.Agree.{Agree, TablesTaken}

module _ (t : Tables) (card : Card) (l : Ledger) (a : Agree t card l) where
  -- ---- figures that calls decide by
  module _ (p : ℕ) (port : p < 64) where
    pub active_is : (f : Flow) (k : ℕ) → found t f ≡ Some k → is_active card.pool p k ≡ holds f (l p).flows
    active_is f k e = ap (ltb 0) ((a.at p port).flows (row_weight k)) ∙ holds-sum t f (λ j. eqb j k) (row_same t f k e) (l p).flows (a.at p port).rows

    pub has_is : (f : Flow) → has_flow t.channels card.pool p f ≡ holds f (l p).flows
    has_is f =
        ap (ltb 0) ((a.at p port).flows (sel_weight (is_row t.channels f)))
        ∙ holds-sum t f (is_row t.channels f) (row_named t f) (l p).flows (a.at p port).rows

    pub count_is : active_count card.pool p ≡ length (l p).flows
    count_is = (a.at p port).flows (λ k c. 1) ∙ length-sum t (l p).flows

    pub committed_is : committed_of t.channels card.pool p ≡ charges t (l p)
    committed_is = (a.at p port).flows (rate_weight t.channels) ∙ charges-sum t (l p) (a.at p port).rows

    -- the row of a flow, found by the card's own count of channels, tells whether it is active
    pub active-row : (f : Flow) → active_row card.pool p (channel_of t.channels card.head.channel_count f) ≡ holds f (l p).flows
    unfolding active_row
    active-row f = ap (λ (n : ℕ). active_row card.pool p (channel_of t.channels n f)) a.channels ∙ go (found t f) refl
      where
        go : (r : Option ℕ) → found t f ≡ r → active_row card.pool p (found t f) ≡ holds f (l p).flows
        go (Some k) e = ap (active_row card.pool p) e ∙ active_is f k e
        go None e = ap (active_row card.pool p) e ∙ sym (unlisted_held t f (unlisted_at t f e) (l p).flows (a.at p port).rows)

  pub extras_is : extras_of card.pool ≡ all_extras l
  unfolding all_extras
  extras_is = sum_to_ext (λ q. active_count card.pool q - 4) (λ q. length (l q).flows - 4) 64 (λ q h. ap (λ (n : ℕ). n - 4) (count_is q h))

  -- ---- what a host reads
  module _ (taken : TablesTaken t) (p : ℕ) (port : p < t.ports) where
    pub below : p < 64
    below = omega (arith, taken.ports64)

    pub has_port_lem : has_port card p ≡ true
    unfolding is_port
    has_port_lem = every-by (ltb p 64 ∷ ltb p card.head.port_count ∷ []) (lt-ltb p 64 below, (lt-ltb p card.head.port_count (omega (arith, a.ports)), tt))

    pub reads_up : up_of card p ≡ (l p).is_up
    unfolding up_of
    reads_up = ap (λ (b : Bool). cond b (port_at card p).up false) has_port_lem ∙ (a.at p below).is_up

    pub reads-delegation : delegation_of card p ≡ (l p).delegation
    unfolding delegation_of
    reads-delegation = ap (λ (b : Bool). cond b (port_at card p).delegation 0) has_port_lem ∙ (a.at p below).delegation

    pub reads-committed : committed_at t.channels card p ≡ charges t (l p)
    unfolding committed_at
    reads-committed = ap (λ (b : Bool). cond b (committed_of t.channels card.pool p) 0) has_port_lem ∙ committed_is p below

    pub reads-active : (f : Flow) → active_at t.channels card p f ≡ holds f (l p).flows
    unfolding active_at
    reads-active f =
        ap (λ (b : Bool). cond b (active_row card.pool p (channel_of t.channels card.head.channel_count f)) false) has_port_lem ∙ active-row p below f

    pub reads_once : Once (l p).flows
    reads_once = (a.at p below).once

    pub reads-listed : (f : Flow) → holds f (l p).flows ≡ true → listed t f ≡ true
    reads-listed f held = go (listed t f) refl
      where
        go : (b : Bool) → listed t f ≡ b → b ≡ true
        go true e = refl
        go false e = absurd (false≢true (sym (unlisted_held t f e (l p).flows (a.at p below).rows) ∙ held))

    pub reads_bounded : charges t (l p) ≤ (l p).delegation
    reads_bounded = (a.at p below).bounded
