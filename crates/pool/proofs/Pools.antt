-- What each writer does to every figure of every port. A figure is a sum over the port's records with a weight w of channel, charge and
-- accounting (`record_sum`); count, committed amount and membership are instances, by computation (`count_is`, `committed_is`, `holds_is`).
--     sum_ext, sum_mono, sum-add           sums over one port's records
--     free-at, free-first                  the record that `free_of` gives is free, and no free record stands before it
--     free_is                              and it is the first that a search from record 0 on comes to
--     pool-filled, pool-filled_other       in whichever free record a flow begins, port p has one flow more, of that channel, charge and
--                                          accounting, and the other ports what they had
--     pool-began, pool-began_other         so in the record that the program takes
--     pool-ended, pool-ended_other         port p has its flows but the selected ones; the other ports what they had
--     serves_again                         a record whose flow ended is free
--     pool-accounted, pool-accounted_other, charges-kept      accounting alone is set, and only of that flow
--     pool-fresh                           no port has a flow
-- Assumes nothing.
use Rattle.std.specs.Prelude.{Option, Some, None}
use Prim.Native.Nat.{ℕ, ◌+◌, ◌≤◌, ◌<◌}
use mathlib.Core.Path.{◌≡◌, refl, sym, ap, ◌∙◌}
use mathlib.Core.Bool.{Bool, true, false, cond, ◌&&◌, false≢true}
use mathlib.Core.List.{List}
use native.Mathlib.Omega.{arith}
use lib.ListN.{get_or, get_or-replicate}
use lib.Dec.{eqb, ltb}
use lib.Seq.{get_or-set_same, get_or-set_other}
use borrow.Author.Tests.{eqb-true, eqb-false, eq-eqb, ne_eqb, ltb-true, ltb-false}
use Rattle.channels.specs.Channels.{rate_at}
use Rattle.rows.specs.Rows.{first_row}
use Rattle.rows.proofs.Rows.{FoundAt, found_at, found_none}
use Rattle.sums.proofs.Sums.{sum_to_ext, sum_to_mono, sum_to-add, sum_to_change, sum_to-none}
use Rattle.sums.proofs.Maps.{map_to-get_or}
use Rattle.pool.specs.Pool.{is_of, Next, sum_over, record_sum, pool_sum, active_count, committed_of, holds_of, free, or_size, free_in, free_of, fresh_pool, filled, began, is_one, ended, accounted}
use Rattle.pool.specs.declared.Pool.{Pool}
use Rattle.pool.proofs.Whole.{Whole}

-- ---- figures as sums
module _ (pool : Pool) (p : ℕ) where
  pub count_is : active_count pool p ≡ pool_sum pool p (λ k c. 1)
  count_is = refl

  pub committed_is : (table : List ℕ) → committed_of table pool p ≡ pool_sum pool p (λ k c. cond c (rate_at table k) 0)
  committed_is table = refl

  pub holds_is : (k : ℕ) → holds_of pool p k ≡ pool_sum pool p (λ j c. cond (eqb j k) 1 0)
  holds_is k = refl

-- ---- sums over one port's records
module _ (owner : List ℕ) (p : ℕ) (f g : ℕ → ℕ) where
  pub sum_mono : ((i : ℕ) → f i ≤ g i) → sum_over owner p f ≤ sum_over owner p g
  unfolding sum_over
  sum_mono h = sum_to_mono (λ i. cond (is_of owner p i) (f i) 0) (λ i. cond (is_of owner p i) (g i) 0) 512 (λ i l. one (is_of owner p i) (h i))
    where
      one : {x y : ℕ} (b : Bool) → x ≤ y → cond b x 0 ≤ cond b y 0
      one true h = h
      one false h = omega arith

  pub sum-add : sum_over owner p (λ i. f i + g i) ≡ sum_over owner p f + sum_over owner p g
  unfolding sum_over
  sum-add =
      sum_to_ext (λ i. cond (is_of owner p i) (f i + g i) 0) (λ i. cond (is_of owner p i) (f i) 0 + cond (is_of owner p i) (g i) 0) 512 (λ i l. one (is_of owner p i) (f i) (g i))
      ∙ sum_to-add (λ i. cond (is_of owner p i) (f i) 0) (λ i. cond (is_of owner p i) (g i) 0) 512
    where
      one : (b : Bool) (x y : ℕ) → cond b (x + y) 0 ≡ cond b x 0 + cond b y 0
      one true x y = refl
      one false x y = refl

  pub sum_ext : ((i : ℕ) → f i ≡ g i) → sum_over owner p f ≡ sum_over owner p g
  unfolding sum_over
  sum_ext h = sum_to_ext (λ i. cond (is_of owner p i) (f i) 0) (λ i. cond (is_of owner p i) (g i) 0) 512 (λ i l. ap (λ (x : ℕ). cond (is_of owner p i) x 0) (h i))

-- ---- the free record
module _ (owner : List ℕ) where
  free-by : {C : Type 0} → ((i : ℕ) → free_in owner ≡ i → FoundAt 512 (is_of owner free) i → C)
      → (free_in owner ≡ 512 → ((j : ℕ) → j < 512 → is_of owner free j ≡ false) → C) → C
  unfolding free_in
  free-by {C} f g = go (first_row 512 (is_of owner free)) refl
    where
      go : (r : Option ℕ) → first_row 512 (is_of owner free) ≡ r → C
      go (Some i) e = f i (ap or_size e) (found_at (is_of owner free) 512 e)
      go None e = g (ap or_size e) (found_none (is_of owner free) 512 e)

  pub free-at : free_in owner < 512 → get_or owner (free_in owner) 0 ≡ free
  free-at h =
      free-by
      (λ i e f. ap (λ (n : ℕ). get_or owner n 0) e ∙ eqb-true (get_or owner i 0) free f.passes)
      (λ e f. absurd (omega arith))

  pub free-first : (j : ℕ) → j < 512 → get_or owner j 0 ≡ free → free_in owner ≤ j
  free-first j l t = go (ltb j (free_in owner)) refl
    where
      free_j : is_of owner free j ≡ true
      free_j = eq-eqb (get_or owner j 0) free t

      go : (b : Bool) → ltb j (free_in owner) ≡ b → free_in owner ≤ j
      go false e = ltb-false j (free_in owner) e
      go true e =
          let m = ltb-true j (free_in owner) e in
          free-by
          (λ i s f. absurd (false≢true (sym (f.first j (omega arith)) ∙ free_j)))
          (λ s f. absurd (false≢true (sym (f j l) ∙ free_j)))

  free_most : free_in owner ≤ 512
  free_most = free-by (λ i e f. omega (arith, f.below)) (λ e f. omega arith)

  pub free_is : {r : ℕ} → Next owner free 0 r → r ≡ free_in owner
  free_is {r} x = omega (arith, low (ltb (free_in owner) r) refl, high (ltb r 512) refl)
    where
      low : (b : Bool) → ltb (free_in owner) r ≡ b → r ≤ free_in owner
      low false e = ltb-false (free_in owner) r e
      low true e =
          let l = ltb-true (free_in owner) r e in
          absurd (x.others (free_in owner) (omega arith) l (free-at (omega (arith, x.most))))

      high : (b : Bool) → ltb r 512 ≡ b → free_in owner ≤ r
      high true e = let l = ltb-true r 512 e in free-first r l (x.has l)
      high false e = omega (arith, ltb-false r 512 e, free_most)

-- ---- a record of another port weighs nothing
module _ (owner : List ℕ) (q i : ℕ) (x : ℕ) where
  of_port : get_or owner i 0 ≡ q → cond (is_of owner q i) x 0 ≡ x
  of_port h = simp (eq-eqb (get_or owner i 0) q h)

  of_other : (get_or owner i 0 ≡ q → ⊥) → cond (is_of owner q i) x 0 ≡ 0
  of_other h = simp (ne_eqb (get_or owner i 0) q h)

-- what record i weighs, and what at port q
abbrev weight : Pool → (ℕ → Bool → ℕ → ℕ) → ℕ → ℕ
weight pool w i = w (get_or pool.channel i 0) (get_or pool.charged i false) (get_or pool.accounting i 0)

abbrev part : Pool → ℕ → (ℕ → Bool → ℕ → ℕ) → ℕ → ℕ
part pool q w i = cond (is_of pool.owner q i) (weight pool w i) 0

-- ---- a flow begins, in any free record
module _ (pool : Pool) (whole : Whole pool) (i : ℕ) (below : i < 512) (unused : get_or pool.owner i 0 ≡ free) (p k : ℕ) (c : Bool) (a : ℕ) (w : ℕ → Bool → ℕ → ℕ) where
  abbrev after : Pool
  after = filled pool i p k c a

  -- every other record is as it was
  kept : (q j : ℕ) → (j ≡ i → ⊥) → part pool q w j ≡ part after q w j
  kept q j n =
      simp (get_or-set_other pool.owner i j p 0 n, get_or-set_other pool.channel i j k 0 n, get_or-set_other pool.charged i j c false n, get_or-set_other pool.accounting i j a 0 n)

  changed : (q : ℕ) → (q ≡ free → ⊥) → record_sum after q w ≡ record_sum pool q w + part after q w i
  unfolding sum_over
  changed q n =
      let none : part pool q w i ≡ 0 = of_other pool.owner q i (weight pool w i) (λ e. n (sym e ∙ unused)) in
      omega (arith, sum_to_change (part pool q w) (part after q w) 512 i below (λ j l m. kept q j m))

  owner-after : get_or after.owner i 0 ≡ p
  owner-after = get_or-set_same pool.owner i p 0 (omega (arith, whole.owner))

  weight-after : weight after w i ≡ w k c a
  weight-after =
      let hk = get_or-set_same pool.channel i k 0 (omega (arith, whole.channel)) in
      let hc = get_or-set_same pool.charged i c false (omega (arith, whole.charged)) in
      let ha = get_or-set_same pool.accounting i a 0 (omega (arith, whole.accounting)) in
      simp (hk, hc, ha)

  pub pool-filled : (p ≡ free → ⊥) → record_sum after p w ≡ record_sum pool p w + w k c a
  pool-filled n = omega (arith, changed p n, of_port after.owner p i (weight after w i) owner-after, weight-after)

  pub pool-filled_other : (q : ℕ) → (q ≡ free → ⊥) → (q ≡ p → ⊥) → record_sum after q w ≡ record_sum pool q w
  pool-filled_other q n m = omega (arith, changed q n, of_other after.owner q i (weight after w i) (λ e. m (sym e ∙ owner-after)))

-- the program's choice is one of them
module _ (pool : Pool) (whole : Whole pool) (room : free_of pool < 512) (p k : ℕ) (c : Bool) (a : ℕ) (w : ℕ → Bool → ℕ → ℕ) where
  pub pool-began : (p ≡ free → ⊥) → record_sum (began pool p k c a) p w ≡ record_sum pool p w + w k c a
  unfolding began
  pool-began = pool-filled pool whole (free_of pool) room (free-at pool.owner room) p k c a w

  pub pool-began_other : (q : ℕ) → (q ≡ free → ⊥) → (q ≡ p → ⊥) → record_sum (began pool p k c a) q w ≡ record_sum pool q w
  unfolding began
  pool-began_other = pool-filled_other pool whole (free_of pool) room (free-at pool.owner room) p k c a w

-- ---- flows end: a record with owner o, of weight x, is freed where it is port p's and selected
module _ (p q : ℕ) (n : q ≡ free → ⊥) (o x : ℕ) where
  free-nothing : cond (eqb free q) x 0 ≡ 0
  free-nothing = simp (ne_eqb free q (λ e. n (sym e)))

  freed_mine : q ≡ p → (s : Bool) → cond (eqb (cond (eqb o p && s) free o) q) x 0 ≡ cond (eqb o q) (cond s 0 x) 0
  freed_mine m s = go (eqb o p) refl s
    where
      go : (b : Bool) → eqb o p ≡ b → (s : Bool) → cond (eqb (cond (b && s) free o) q) x 0 ≡ cond (eqb o q) (cond s 0 x) 0
      go true e true = free-nothing ∙ sym (simp (eq-eqb o q (eqb-true o p e ∙ sym m)))
      go true e false = refl
      go false e true = simp (ne_eqb o q (λ z. eqb-false o p e (z ∙ m)))
      go false e false = refl

  freed_other : (q ≡ p → ⊥) → (s : Bool) → cond (eqb (cond (eqb o p && s) free o) q) x 0 ≡ cond (eqb o q) x 0
  freed_other m s = go (eqb o p) refl s
    where
      go : (b : Bool) → eqb o p ≡ b → (s : Bool) → cond (eqb (cond (b && s) free o) q) x 0 ≡ cond (eqb o q) x 0
      go true e true = free-nothing ∙ sym (simp (ne_eqb o q (λ z. m (sym z ∙ eqb-true o p e))))
      go true e false = refl
      go false e s = refl

module _ (pool : Pool) (p : ℕ) (sel : ℕ → Bool) where
  pub owner-ended : (i : ℕ) → i < 512 → get_or (ended pool p sel).owner i 0 ≡ cond (is_one pool p sel i) free (get_or pool.owner i 0)
  unfolding ended
  owner-ended i l = map_to-get_or 512 (λ j. cond (is_one pool p sel j) free (get_or pool.owner j 0)) i 0 l

  pub serves_again : (i : ℕ) → i < 512 → is_one pool p sel i ≡ true → free_of (ended pool p sel) ≤ i
  serves_again i l t = free-first (ended pool p sel).owner i l (owner-ended i l ∙ simp t)

  module _ (w : ℕ → Bool → ℕ → ℕ) where
    part-ended : (q i : ℕ) → i < 512 → part (ended pool p sel) q w i ≡ cond (eqb (cond (is_one pool p sel i) free (get_or pool.owner i 0)) q) (weight pool w i) 0
    unfolding ended
    part-ended q i l = ap (λ (o : ℕ). cond (eqb o q) (weight pool w i) 0) (owner-ended i l)

    pub pool-ended : (p ≡ free → ⊥) → record_sum (ended pool p sel) p w ≡ record_sum pool p (λ k c a. cond (sel k) 0 (w k c a))
    unfolding sum_over
    pool-ended n =
        sum_to_ext (part (ended pool p sel) p w) (part pool p (λ k c a. cond (sel k) 0 (w k c a))) 512
        (λ i l. part-ended p i l ∙ freed_mine p p n (get_or pool.owner i 0) (weight pool w i) refl (sel (get_or pool.channel i 0)))

    pub pool-ended_other : (q : ℕ) → (q ≡ free → ⊥) → (q ≡ p → ⊥) → record_sum (ended pool p sel) q w ≡ record_sum pool q w
    unfolding sum_over
    pool-ended_other q n m =
        sum_to_ext (part (ended pool p sel) q w) (part pool q w) 512
        (λ i l. part-ended q i l ∙ freed_other p q n (get_or pool.owner i 0) (weight pool w i) m (sel (get_or pool.channel i 0)))

-- ---- accounting
module _ (pool : Pool) (p k v : ℕ) where
  -- whatever does not ask for the accounting is kept, of every port
  pub charges-kept : (q : ℕ) (w : ℕ → Bool → ℕ) → pool_sum (accounted pool p k v) q w ≡ pool_sum pool q w
  unfolding accounted
  charges-kept q w = refl

  module _ (w : ℕ → Bool → ℕ → ℕ) where
    part-accounted : (q i : ℕ) → i < 512
        → part (accounted pool p k v) q w i ≡ cond (is_of pool.owner q i) (w (get_or pool.channel i 0) (get_or pool.charged i false) (cond (is_one pool p (λ j. eqb j k) i) v (get_or pool.accounting i 0))) 0
    unfolding accounted
    part-accounted q i l =
        ap (λ (a : ℕ). cond (is_of pool.owner q i) (w (get_or pool.channel i 0) (get_or pool.charged i false) a) 0)
        (map_to-get_or 512 (λ j. cond (is_one pool p (λ h. eqb h k) j) v (get_or pool.accounting j 0)) i 0 l)

    pub pool-accounted : record_sum (accounted pool p k v) p w ≡ record_sum pool p (λ j c a. w j c (cond (eqb j k) v a))
    unfolding sum_over
    pool-accounted =
        sum_to_ext (part (accounted pool p k v) p w) (part pool p (λ j c a. w j c (cond (eqb j k) v a))) 512
        (λ i l. part-accounted p i l ∙ mine (is_of pool.owner p i) (get_or pool.channel i 0) (get_or pool.charged i false) (get_or pool.accounting i 0))
      where
        mine : (b : Bool) (j : ℕ) (c : Bool) (a : ℕ) → cond b (w j c (cond (b && eqb j k) v a)) 0 ≡ cond b (w j c (cond (eqb j k) v a)) 0
        mine true j c a = refl
        mine false j c a = refl

    pub pool-accounted_other : (q : ℕ) → (q ≡ p → ⊥) → record_sum (accounted pool p k v) q w ≡ record_sum pool q w
    unfolding sum_over
    pool-accounted_other q m =
        sum_to_ext (part (accounted pool p k v) q w) (part pool q w) 512
        (λ i l. part-accounted q i l ∙ other (get_or pool.owner i 0) (eqb (get_or pool.channel i 0) k) (get_or pool.channel i 0) (get_or pool.charged i false) (get_or pool.accounting i 0))
      where
        other : (o : ℕ) (s : Bool) (j : ℕ) (c : Bool) (a : ℕ) → cond (eqb o q) (w j c (cond (eqb o p && s) v a)) 0 ≡ cond (eqb o q) (w j c a) 0
        other o s j c a = go (eqb o q) refl
          where
            go : (b : Bool) → eqb o q ≡ b → cond b (w j c (cond (eqb o p && s) v a)) 0 ≡ cond b (w j c a) 0
            go true e = simp (ne_eqb o p (λ z. m (sym (eqb-true o q e) ∙ z)))
            go false e = refl

-- ---- at start
pub pool-fresh : (q : ℕ) (w : ℕ → Bool → ℕ → ℕ) → (q ≡ free → ⊥) → record_sum fresh_pool q w ≡ 0
unfolding sum_over fresh_pool
pool-fresh q w n =
    sum_to-none 512 (part fresh_pool q w)
    (λ i l. of_other fresh_pool.owner q i (weight fresh_pool w i) (λ e. n (sym e ∙ get_or-replicate 512 i free 0 l)))
