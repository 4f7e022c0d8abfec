-- One turn of each loop over the records, its beginning and its end.
--     sum-start, sum-mine, sum_other, sum-none, sum_skip, sum_end      a sum over a port's records
--     sum-at                                       a record's part is at most the sum
--     counts_start, counts_mine, counts_other, counts_end     the count of each port, in one pass
-- Assumes nothing.
use Prim.Native.Nat.{ℕ, ◌+◌, ◌≤◌, ◌<◌}
use mathlib.Core.Path.{◌≡◌, refl, sym, ap, ◌∙◌}
use mathlib.Core.Bool.{Bool, true, false, cond}
use mathlib.Core.List.{List}
use native.Mathlib.Omega.{arith}
use lib.ListN.{get_or, set, replicate}
use borrow.Author.Tests.{eq-eqb, ne_eqb}
use Rattle.rows.proofs.Nexts.{kept-over}
use Rattle.sums.specs.Sums.{sum_to, map_to}
use Rattle.sums.proofs.Sums.{sum_to-zero, sum_to-suc, sum_to-at, sum_to_mono, sum_to_const, test_most}
use Rattle.sums.proofs.Maps.{map_to-get_or, map_to_ext, map_to_const, map_to-set}
use Rattle.pool.specs.Pool.{is_of, Next, sum_over, count_in}

-- where a walk over port p's records stands: at one of them, or at the end
abbrev pub Stands : List ℕ → ℕ → ℕ → Type 0
Stands owner p i = (i ≤ 512) × (i < 512 → get_or owner i 0 ≡ p)

-- the sum over port p's records before record i
abbrev pub sum_before : List ℕ → ℕ → (ℕ → ℕ) → ℕ → ℕ
sum_before owner p f i = sum_to i (λ j. cond (is_of owner p j) (f j) 0)

module _ (owner : List ℕ) (p : ℕ) (f : ℕ → ℕ) where
  pub sum-start : 0 ≡ sum_before owner p f 0
  sum-start = sym (sum_to-zero (λ j. cond (is_of owner p j) (f j) 0))

  module _ (i : ℕ) where
    sum_more : sum_before owner p f (i + 1) ≡ cond (is_of owner p i) (f i) 0 + sum_before owner p f i
    sum_more = sum_to-suc i (λ j. cond (is_of owner p j) (f j) 0)

    pub sum-mine : {n : ℕ} (x : ℕ) → n ≡ sum_before owner p f i → get_or owner i 0 ≡ p → f i ≡ x → n + x ≡ sum_before owner p f (i + 1)
    sum-mine x e t h = omega (arith, simp (eq-eqb (get_or owner i 0) p t) at sum_more)

    pub sum_other : {n : ℕ} → n ≡ sum_before owner p f i → (get_or owner i 0 ≡ p → ⊥) → n ≡ sum_before owner p f (i + 1)
    sum_other e t = omega (arith, simp (ne_eqb (get_or owner i 0) p t) at sum_more)

    -- a record that weighs nothing, whoever's it is
    pub sum-none : {n : ℕ} → n ≡ sum_before owner p f i → f i ≡ 0 → n ≡ sum_before owner p f (i + 1)
    sum-none e h = go (is_of owner p i) e sum_more
      where
        go : {n : ℕ} (b : Bool) → n ≡ sum_before owner p f i → sum_before owner p f (i + 1) ≡ cond b (f i) 0 + sum_before owner p f i → n ≡ sum_before owner p f (i + 1)
        go true e m = omega arith
        go false e m = omega arith

    pub sum_end : {n : ℕ} → n ≡ sum_before owner p f i → i ≤ 512 → 512 ≤ i → n ≡ sum_over owner p f
    unfolding sum_over
    sum_end e l m = let z : i ≡ 512 = omega arith in e ∙ ap (sum_before owner p f) z

    -- the part of one of the port's records
    pub sum-at : i < 512 → get_or owner i 0 ≡ p → f i ≤ sum_over owner p f
    unfolding sum_over
    sum-at l t = simp (eq-eqb (get_or owner i 0) p t) at (sum_to-at 512 (λ j. cond (is_of owner p j) (f j) 0) i l)

  -- on to the port's next record
  pub sum_skip : (i : ℕ) {n r : ℕ} → n ≡ sum_before owner p f i → Next owner p i r → n ≡ sum_before owner p f r
  sum_skip i {n} {r} e x = e ∙ kept-over (sum_before owner p f) i r x.reached (λ j l m. sum_other j refl (x.others j l m))

-- ---- the count of each port
abbrev pub ones : ℕ → ℕ
ones i = 1

abbrev pub counts_before : List ℕ → ℕ → List ℕ
counts_before owner i = map_to 64 (λ p. sum_before owner p ones i)

-- records before i, at most
pub count_most : (owner : List ℕ) (p i : ℕ) → sum_before owner p ones i ≤ i
count_most owner p i =
    omega (arith, sum_to_mono (λ j. cond (is_of owner p j) 1 0) ones i (λ j l. test_most (is_of owner p j)), sum_to_const i 1)

module _ (owner : List ℕ) where
  pub counts_start : replicate 64 0 ≡ counts_before owner 0
  counts_start = map_to_const 64 0 ∙ map_to_ext 64 (λ p. 0) (λ p. sum_before owner p ones 0) (λ p l. sum-start owner p ones)

  module _ (i : ℕ) {counts : List ℕ} (inv : counts ≡ counts_before owner i) where
    pub counts_at : (p : ℕ) → p < 64 → get_or counts p 0 ≡ sum_before owner p ones i
    counts_at p l = ap (λ (c : List ℕ). get_or c p 0) inv ∙ map_to-get_or 64 (λ q. sum_before owner q ones i) p 0 l

    -- record i is port p's, and another's
    pub counts_mine : (p : ℕ) → p ≡ get_or owner i 0 → p < 64 → set counts p (get_or counts p 0 + 1) ≡ counts_before owner (i + 1)
    counts_mine p e l =
        ap (λ (c : List ℕ). set c p (get_or counts p 0 + 1)) inv
        ∙ map_to-set 64 (λ q. sum_before owner q ones i) (λ q. sum_before owner q ones (i + 1)) p (get_or counts p 0 + 1)
        (λ q m n. sum_other owner q ones i refl (λ z. n (sym z ∙ sym e)))
        (sum-mine owner p ones i 1 (counts_at p l) (sym e) refl)

    pub counts_other : (p : ℕ) → p ≡ get_or owner i 0 → 64 ≤ p → counts ≡ counts_before owner (i + 1)
    counts_other p e l =
        inv ∙ map_to_ext 64 (λ q. sum_before owner q ones i) (λ q. sum_before owner q ones (i + 1)) (λ q m. sum_other owner q ones i refl (λ z. omega arith))

    pub counts_end : i ≤ 512 → 512 ≤ i → counts ≡ map_to 64 (count_in owner)
    counts_end l m = inv ∙ map_to_ext 64 (λ q. sum_before owner q ones i) (count_in owner) (λ q h. sum_end owner q ones i refl l m)

  pub count_of_each : {counts : List ℕ} → counts ≡ map_to 64 (count_in owner) → (p : ℕ) → p < 64 → get_or counts p 0 ≡ count_in owner p
  count_of_each e p l = ap (λ (c : List ℕ). get_or c p 0) e ∙ map_to-get_or 64 (count_in owner) p 0 l

  -- a port has no more flows than there are records
  pub count_all : (p : ℕ) → count_in owner p ≤ 512
  unfolding sum_over
  count_all p = count_most owner p 512
