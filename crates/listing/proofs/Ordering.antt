-- What `in_order` is for: the rows that are given, each as often, in the order of their flows.
--     listed_by      the rows of channels, by the order of flows
-- Assumes nothing.
use Prim.Native.Nat.{ℕ, ◌+◌}
use mathlib.Core.Path.{◌≡◌, refl, sym, ap, ◌∙◌}
use mathlib.Core.Bool.{Bool, true, false, cond, false≢true}
use mathlib.Core.List.{List, [], ◌∷◌}
use native.Mathlib.Omega.{arith}
use Rattle.flows.specs.declared.Flow.{Flow}
use Rattle.flows.specs.Flows.{flow_before}
use Rattle.flows.proofs.Orders.{before_trans, before-once, before-total}
use Rattle.channels.specs.Channels.{channel_at}
use Rattle.sums.specs.Sums.{sum_by}
use Rattle.listing.specs.Listing.{row_before, placed, placed_all, in_order, Ordered, Listed}
use Rattle.listing.specs.Listing.Ordered.{none, one, more}

-- ---- the same rows
module _ (before : ℕ → ℕ → Bool) (w : ℕ → ℕ) where
  placed-sum : (k : ℕ) (js : List ℕ) → sum_by w (placed before k js) ≡ w k + sum_by w js
  unfolding placed sum_by
  placed-sum k [] = refl
  placed-sum k (j ∷ js) = go (before k j) (λ i. placed-sum i js)
    where
      go : (b : Bool) → ((i : ℕ) → sum_by w (placed before i js) ≡ w i + sum_by w js)
          → sum_by w (cond b (k ∷ placed before j js) (j ∷ placed before k js)) ≡ w k + (w j + sum_by w js)
      go true ih = omega (arith, ih j)
      go false ih = omega (arith, ih k)

  all_sum : (done ks : List ℕ) → sum_by w (placed_all before done ks) ≡ sum_by w done + sum_by w ks
  unfolding placed_all sum_by
  all_sum done [] = omega arith
  all_sum done (k ∷ ks) = omega (arith, all_sum (placed before k done) ks, placed-sum k done)

-- ---- in order
module _
    (before : ℕ → ℕ → Bool)
    (once : (k j : ℕ) → before k j ≡ true → before j k ≡ false)
    (trans : (k j i : ℕ) → before j k ≡ false → before i j ≡ false → before i k ≡ false)
  where
    -- what does not go after the first may take its place
    first_for : (k j : ℕ) (js : List ℕ) → before j k ≡ false → Ordered before (j ∷ js) → Ordered before (k ∷ js)
    first_for k j [] h o = one k
    first_for k j (i ∷ is) h (more _ _ _ g o) = more k i is (trans k j i h g) o

    -- placed after a row that it does not go before
    after-ordered : (j k : ℕ) (js : List ℕ) → before k j ≡ false → Ordered before (j ∷ js) → Ordered before (j ∷ placed before k js)
    unfolding placed
    after-ordered j k [] h o = more j k [] h (one k)
    after-ordered j k (i ∷ is) h (more _ _ _ g o) = go (before k i) refl (λ a b. after-ordered a b is)
      where
        go : (b : Bool) → before k i ≡ b → ((a b : ℕ) → before b a ≡ false → Ordered before (a ∷ is) → Ordered before (a ∷ placed before b is))
            → Ordered before (j ∷ cond b (k ∷ placed before i is) (i ∷ placed before k is))
        go true t ih = more j k (placed before i is) h (ih k i (once k i t) (first_for k i is (once k i t) o))
        go false t ih = more j i (placed before k is) g (ih i k t o)

    placed_ordered : (k : ℕ) (js : List ℕ) → Ordered before js → Ordered before (placed before k js)
    unfolding placed
    placed_ordered k [] o = one k
    placed_ordered k (j ∷ js) o = go (before k j) refl
      where
        go : (b : Bool) → before k j ≡ b → Ordered before (cond b (k ∷ placed before j js) (j ∷ placed before k js))
        go true t = after-ordered k j js (once k j t) (first_for k j js (once k j t) o)
        go false t = after-ordered j k js t o

    all_ordered : (done ks : List ℕ) → Ordered before done → Ordered before (placed_all before done ks)
    unfolding placed_all
    all_ordered done [] o = o
    all_ordered done (k ∷ ks) o = all_ordered (placed before k done) ks (placed_ordered k done o)

-- of three flows: where b does not go before a, nor c before b, c does not go before a
later_trans : (a b c : Flow) → flow_before b a ≡ false → flow_before c b ≡ false → flow_before c a ≡ false
later_trans a b c h g = go (flow_before c a) refl (flow_before a b) refl
  where
    go : (s : Bool) → flow_before c a ≡ s → (t : Bool) → flow_before a b ≡ t → s ≡ false
    go false e t f = refl
    go true e true f = absurd (false≢true (sym g ∙ before_trans c a b e f))
    go true e false f =
        absurd (false≢true (sym h ∙ before-total a b (λ (z : a ≡ b). false≢true (sym g ∙ ap (flow_before c) (sym z) ∙ e)) f))

pub listed_by : (channels ks : List ℕ) → Listed channels ks
unfolding in_order sum_by
listed_by channels ks = record {
  same = λ w. omega (arith, all_sum (row_before channels) w [] ks);
  ordered =
      all_ordered (row_before channels) (λ k j. before-once (channel_at channels k) (channel_at channels j))
      (λ k j i. later_trans (channel_at channels k) (channel_at channels j) (channel_at channels i)) [] ks none;
}
