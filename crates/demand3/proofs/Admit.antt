-- Admission on a card that agrees with a ledger, and what flows that begin and end do to both.
--     room_means, fits_means, admit_means      room, the rate that fits, and both: exactly what the ledger says
--     began-step                               a flow that starts begins
--     admits, admits_step                      the same with the card's own switch
--     flow_ends, all_end                       a flow ends; all flows of the port end
--     accounted_step                           accounting alone is set
-- Assumes nothing.
use Rattle.std.specs.Prelude.{Some}
use Prim.Native.Nat.{ℕ, ◌+◌, ◌≤◌, ◌<◌}
use mathlib.Core.Path.{◌≡◌, refl, sym, ap, ap₂, subst, ◌∙◌}
use mathlib.Core.Bool.{Bool, true, false, cond, false≢true}
use mathlib.Core.List.{List, [], ◌∷◌}
use mathlib.Core.Logic.{◌↔◌, ⊎_elim}
use native.Mathlib.Omega.{arith}
use lib.ListN.{length}
use lib.Dec.{eqb, leb}
use borrow.Author.Tests.{leb-true, le-leb}
use Rattle.flows.specs.declared.Flow.{Flow}
use Rattle.channels.specs.Channels.{rate_at, is_row}
use Rattle.sums.specs.Sums.{sum_by}
use Rattle.pool.specs.Pool.{room_for, has_room, free, began, ended, ended_flow, ended_all, accounted}
use Rattle.pool.proofs.Rooms.{room_facts, room_by, room_both}
use Rattle.pool.proofs.Law.{room_is, owned-began, owned_ended, owned_accounted, extras-began, extras-ended}
use Rattle.pool.proofs.Whole.{whole_began, whole_ended, whole_accounted}
use Rattle.pool.proofs.Pools.{pool-began, pool-began_other, pool-ended, pool-ended_other, charges-kept}
use Rattle.card.specs.Cards.{Card, with_pool}
use Rattle.joins.specs.Joins.{fits, admit_number}
use Rattle.demand3.specs.Calls.{Tables}
use Rattle.demand3.specs.Ledger.{Held, Ledger, write, holds, without, with_flows, begins}
use Rattle.demand3.specs.Reads.{rate_of}
use Rattle.demand3.specs.Claim.{charges, all_extras, Once, Room, Starts}
use Rattle.demand3.proofs.Rows.{flow_sum, AllListed, found, listed_at, row_is, row_named, rate_is, without-sum, without_listed, without_once, without_few, without-charges}
use Rattle.demand3.proofs.Agree.{Agree, agree_as, write-back}
use Rattle.demand3.proofs.Figures.{count_is, extras_is, committed_is}
use Rattle.demand3.proofs.Steps.{pool_step}

module _ (t : Tables) (card : Card) (l : Ledger) (a : Agree t card l) (p : ℕ) (port : p < 64) where
  not_free : (q : ℕ) → q < 64 → q ≡ free → ⊥
  not_free q h e = omega arith

  -- ---- room and rate
  room_test : has_room card.pool p ≡ room_for (length (l p).flows) (all_extras l)
  room_test = room_is card.pool.owner a.owned a.extras p port ∙ ap₂ (λ (n e : ℕ). room_for n e) (count_is t card l a p port) (extras_is t card l a)

  pub room_means : (has_room card.pool p ≡ true) ↔ Room (length (l p).flows) (all_extras l)
  room_means = (λ h. room_facts (length (l p).flows) (all_extras l) (sym room_test ∙ h), λ r. room_test ∙ room_by (length (l p).flows) (all_extras l) r)

  -- and a flow more is at most the sixteenth
  room_few : Room (length (l p).flows) (all_extras l) → length (l p).flows < 16
  room_few r =
      ⊎_elim (λ (h : length (l p).flows < 4). omega arith) (λ (h : (length (l p).flows < 16) × (all_extras l < 256)). h.0) r

  module _ (f : Flow) (k : ℕ) (e : found t f ≡ Some k) where
    fits-test : fits t.channels card p k ≡ leb (charges t (l p) + rate_of t f) (l p).delegation
    unfolding fits
    fits-test =
        ap₂ (λ (n d : ℕ). leb (n + rate_at t.channels k) d) (committed_is t card l a p port) (a.at p port).delegation
        ∙ ap (λ (r : ℕ). leb (charges t (l p) + r) (l p).delegation) (sym (rate_is t f e))

    pub fits_means : (fits t.channels card p k ≡ true) ↔ (charges t (l p) + rate_of t f ≤ (l p).delegation)
    fits_means =
        (λ h. leb-true (charges t (l p) + rate_of t f) (l p).delegation (sym fits-test ∙ h), λ h. fits-test ∙ le-leb (charges t (l p) + rate_of t f) (l p).delegation h)

    -- ---- admission
    pub admit_means : (cac : Bool) → (admit_number t.channels card cac p k ≡ 0) ↔ Starts t cac l p f
    unfolding admit_number Starts
    admit_means true = (λ n. there (has_room card.pool p) refl (fits t.channels card p k) refl n, λ s. rw (room_means.1 s.1, fits_means.1 s.0))
      where
        there : (b : Bool) → has_room card.pool p ≡ b → (d : Bool) → fits t.channels card p k ≡ d → cond {A = ℕ} b (cond d 0 4) 5 ≡ 0
            → (charges t (l p) + rate_of t f ≤ (l p).delegation) × Room (length (l p).flows) (all_extras l)
        there true r true s n = (fits_means.0 s, room_means.0 r)
        there true r false s n = absurd (omega arith)
        there false r d s n = absurd (omega arith)
    admit_means false = (λ n. there (has_room card.pool p) refl n, λ s. rw (room_means.1 s))
      where
        there : (b : Bool) → has_room card.pool p ≡ b → cond {A = ℕ} b 0 5 ≡ 0 → Room (length (l p).flows) (all_extras l)
        there true r n = room_means.0 r
        there false r n = absurd (omega arith)

    -- what a flow that starts needs
    starts_room : (cac : Bool) → Starts t cac l p f → has_room card.pool p ≡ true
    unfolding Starts
    starts_room true s = room_means.1 s.1
    starts_room false s = room_means.1 s

    starts_bounded : (cac : Bool) → Starts t cac l p f → charges t (begins (l p) f cac) ≤ (l p).delegation
    unfolding Starts charges sum_by
    starts_bounded true s = omega (arith, s.0)
    starts_bounded false s = omega (arith, (a.at p port).bounded)

    pub began-step : (cac : Bool) (v : ℕ) → (l p).is_up ≡ true → holds f (l p).flows ≡ false → Starts t cac l p f
        → Agree t (with_pool card (began card.pool p k cac v)) (write l p (begins (l p) f cac))
    unfolding flow_sum sum_by AllListed Once
    began-step cac v up idle s =
        let room = starts_room cac s in
        let some = (room_both card.pool.owner p room).1 in
        pool_step t card l a p port (began card.pool p k cac v) (record { flow = f; charged = cac } ∷ (l p).flows)
        (record {
          whole = whole_began card.pool a.whole p k cac v;
          owned = owned-began card.pool a.owned p a.whole port k cac v;
          extras = extras-began card.pool p port a.whole k cac v room a.extras;
          others = λ q h n w. pool-began_other card.pool a.whole some p k cac v (λ j c x. w j c) q (not_free q h) n;
          flows = λ w. omega (arith, pool-began card.pool a.whole some p k cac v (λ j c x. w j c) (not_free p port), (a.at p port).flows w, ap (λ (j : ℕ). w j cac) (row_is t f e));
          rows = (listed_at t f e, (a.at p port).rows);
          once = (idle, (a.at p port).once);
          few = omega (arith, room_few (room_means.0 room));
          bounded = starts_bounded cac s;
          idle = λ d. absurd (false≢true (sym d ∙ up));
        })

    -- with the card's own switch, which is the table's
    module _ {here cac : Bool} (same : here ≡ cac) where
      pub admits : (admit_number t.channels card here p k ≡ 0) ↔ Starts t cac l p f
      admits = subst (λ (c : Bool). (admit_number t.channels card here p k ≡ 0) ↔ Starts t c l p f) same (admit_means here)

      pub admits_step : (v : ℕ) → (l p).is_up ≡ true → holds f (l p).flows ≡ false → admit_number t.channels card here p k ≡ 0
          → Agree t (with_pool card (began card.pool p k here v)) (write l p (begins (l p) f cac))
      admits_step v up idle n =
          subst (λ (c : Bool). Agree t (with_pool card (began card.pool p k here v)) (write l p (begins (l p) f c))) same (began-step here v up idle ((admit_means here).0 n))

  -- ---- flows end
  ended-step : (sel : ℕ → Bool) (hs : List Held) → ((w : ℕ → Bool → ℕ) → flow_sum t (λ j c. cond (sel j) 0 (w j c)) (l p).flows ≡ flow_sum t w hs)
      → AllListed t hs → Once hs → length hs ≤ length (l p).flows → charges t (with_flows (l p) hs) ≤ charges t (l p) → ((l p).is_up ≡ false → hs ≡ [])
      → Agree t (with_pool card (ended card.pool p sel)) (write l p (with_flows (l p) hs))
  ended-step sel hs sums rows once few less idle =
      pool_step t card l a p port (ended card.pool p sel) hs
      (record {
        whole = whole_ended card.pool a.whole p sel;
        owned = owned_ended card.pool a.owned p sel;
        extras = omega (arith, extras-ended card.pool p port sel, a.extras);
        others = λ q h n w. pool-ended_other card.pool p sel (λ j c x. w j c) q (not_free q h) n;
        flows = λ w. pool-ended card.pool p sel (λ j c x. w j c) (not_free p port) ∙ (a.at p port).flows (λ j c. cond (sel j) 0 (w j c)) ∙ sums w;
        rows = rows;
        once = once;
        few = omega (arith, (a.at p port).few);
        bounded = omega (arith, (a.at p port).bounded);
        idle = idle;
      })

  pub flow_ends : (f : Flow) → Agree t (with_pool card (ended_flow t.channels card.pool p f)) (write l p (with_flows (l p) (without f (l p).flows)))
  unfolding without
  flow_ends f =
      ended-step (is_row t.channels f) (without f (l p).flows)
      (λ w. sym (without-sum t f (is_row t.channels f) (row_named t f) w (l p).flows (a.at p port).rows))
      (without_listed t f (l p).flows (a.at p port).rows) (without_once t f (l p).flows (a.at p port).once) (without_few t f (l p).flows)
      (without-charges t f (l p))
      (λ d. ap (without f) ((a.at p port).idle d))

  none_left : (w : ℕ → Bool → ℕ) (hs : List Held) → flow_sum t (λ j c. cond true 0 (w j c)) hs ≡ 0
  unfolding flow_sum sum_by
  none_left w [] = refl
  none_left w (h ∷ hs) = omega (arith, none_left w hs)

  pub all_end : Agree t (with_pool card (ended_all card.pool p)) (write l p (with_flows (l p) []))
  unfolding flow_sum sum_by AllListed Once charges
  all_end = ended-step (λ j. true) [] (λ w. none_left w (l p).flows) tt tt (omega arith) (omega arith) (λ d. refl)

  -- ---- accounting
  pub accounted_step : (k v : ℕ) → Agree t (with_pool card (accounted card.pool p k v)) l
  unfolding accounted
  accounted_step k v =
      agree_as t (write-back l p)
      (pool_step t card l a p port (accounted card.pool p k v) (l p).flows
      (record {
        whole = whole_accounted card.pool a.whole p k v;
        owned = owned_accounted card.pool a.owned p k v;
        extras = a.extras;
        others = λ q h n w. charges-kept card.pool p k v q w;
        flows = λ w. charges-kept card.pool p k v p w ∙ (a.at p port).flows w;
        rows = (a.at p port).rows;
        once = (a.at p port).once;
        few = (a.at p port).few;
        bounded = (a.at p port).bounded;
        idle = (a.at p port).idle;
      }))
