-- On a card that agrees with a ledger, the flows that a Multicast Flow Query lists are good ones: each is a listed
-- channel's. Assumes nothing.
use Prim.Native.Nat.{ℕ, ◌<◌}
use mathlib.Core.Path.{◌≡◌, refl, sym, ap, ◌∙◌}
use mathlib.Core.Bool.{Bool, true, false, cond}
use mathlib.Core.List.{List, [], ◌∷◌}
use native.Mathlib.Omega.{arith}
use Rattle.flows.specs.declared.Flow.{Flow}
use Rattle.flows.specs.Flows.{good_flow}
use Rattle.channels.specs.Channels.{channel_at}
use Rattle.channels.proofs.Channels.{channel-found}
use Rattle.sums.specs.Sums.{sum_by}
use Rattle.card.specs.Cards.{Card}
use Rattle.listing.specs.Listing.{rows_in_order}
use Rattle.replyback.specs.Kinds.{Good}
use Rattle.demand3.specs.Calls.{Tables}
use Rattle.demand3.specs.Ledger.{Held, Ledger}
use Rattle.demand3.proofs.Rows.{row_of, flow_sum, AllListed, listed_by, row-flow}
use Rattle.demand3.proofs.Agree.{Agree, TablesTaken}
use Rattle.demand3.proofs.Figures.{below}
use Rattle.demand3.proofs.Lists.{rows-here, rows-flows}

module _ (t : Tables) (taken : TablesTaken t) where
  -- 1 where a flow is not good
  abbrev bad : Flow → ℕ
  bad f = cond (good_flow f) 0 1

  abbrev bad_row : ℕ → ℕ
  bad_row k = bad (channel_at t.channels k)

  held-good : (hs : List Held) → AllListed t hs → flow_sum t (λ k c. bad_row k) hs ≡ 0
  unfolding flow_sum AllListed sum_by
  held-good [] a = refl
  held-good (h ∷ hs) a = omega (arith, row-flow-good, held-good hs a.1)
    where
      good : good_flow h.flow ≡ true
      good =
          listed_by t h.flow a.0 (λ k e.
          let c = channel-found t.channels t.channel_count h.flow e in
          ap good_flow (sym c.is) ∙ (taken.channel k c.below).good)

      row-flow-good : bad_row (row_of t h.flow) ≡ 0
      row-flow-good = ap bad (row-flow t h.flow a.0) ∙ ap (λ (b : Bool). cond b 0 1) good

  good-by : (b : Bool) → ◌≡◌ {A = ℕ} (cond b 0 1) 0 → b ≡ true
  good-by true e = refl
  good-by false e = absurd (omega arith)

  good-rows : (ks : List ℕ) → sum_by bad_row ks ≡ 0 → Good t.channels ks
  unfolding sum_by
  good-rows [] e = tt
  good-rows (k ∷ ks) e =
      let z : bad_row k ≡ 0 = omega arith in
      (good-by (good_flow (channel_at t.channels k)) z, good-rows ks (omega arith))

  pub rows-good : (card : Card) (l : Ledger) → Agree t card l → (p : ℕ) → p < card.head.port_count
      → Good t.channels (rows_in_order t.channels card.pool p)
  rows-good card l a p h =
      let port : p < t.ports = omega (arith, a.ports) in
      good-rows (rows_in_order t.channels card.pool p)
      (ap (sum_by bad_row) (sym (rows-here t card l a taken p port))
      ∙ rows-flows t card l a taken p port bad_row
      ∙ held-good (l p).flows (a.at p (below t card l a taken p port)).rows)
