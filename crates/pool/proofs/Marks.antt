-- A loop that writes v over the elements of a map that pass a test: its beginning, one turn, its end. Assumes nothing.
use Prim.Native.Nat.{ℕ, ◌+◌, ◌≤◌, ◌<◌}
use mathlib.Core.Path.{◌≡◌, refl}
use mathlib.Core.Bool.{Bool, true, false, cond, ◌&&◌}
use mathlib.Core.List.{List}
use native.Mathlib.Omega.{arith}
use lib.ListN.{length, get_or, set}
use borrow.Author.Tests.{eq-eqb, ne_eqb}
use Rattle.rows.proofs.Nexts.{kept-over}
use Rattle.sums.specs.Sums.{map_to}
use Rattle.sums.proofs.Maps.{sweep, sweep-start, sweep_read, sweep-set, sweep_keep, sweep_end}
use Rattle.pool.specs.Pool.{is_of, Next, is_one}
use Rattle.pool.specs.declared.Pool.{Pool}

module _ (l : List ℕ) (v : ℕ) (test : ℕ → Bool) where
  -- the element at i afterwards
  abbrev pub mark : ℕ → ℕ
  mark i = cond (test i) v (get_or l i 0)

  -- the map when the elements before i are done
  abbrev pub marked : ℕ → List ℕ
  marked i = sweep 512 (λ j. get_or l j 0) mark i

  pub mark-start : length l ≡ 512 → l ≡ marked 0
  mark-start h = sweep-start 512 l 0 mark h

  module _ (i : ℕ) where
    -- what is not done yet is as it was
    pub mark_read : (j : ℕ) → i ≤ j → j < 512 → get_or (marked i) j 0 ≡ get_or l j 0
    mark_read j m h = sweep_read 512 (λ k. get_or l k 0) mark i 0 j m h

    pub mark_on : i < 512 → test i ≡ true → set (marked i) i v ≡ marked (i + 1)
    mark_on h t = sweep-set 512 (λ j. get_or l j 0) mark i v h (simp t)

    pub mark-off : i < 512 → test i ≡ false → marked i ≡ marked (i + 1)
    mark-off h t = sweep_keep 512 (λ j. get_or l j 0) mark i 0 h (simp t)

    pub mark_end : 512 ≤ i → marked i ≡ map_to 512 mark
    mark_end h = sweep_end 512 (λ j. get_or l j 0) mark i h

-- ---- which records are written
module _ (pool : Pool) (p : ℕ) (sel : ℕ → Bool) (i : ℕ) where
  pub is_one_lem : get_or pool.owner i 0 ≡ p → sel (get_or pool.channel i 0) ≡ true → is_one pool p sel i ≡ true
  is_one_lem o s = simp (eq-eqb (get_or pool.owner i 0) p o, s)

  pub not_port : (get_or pool.owner i 0 ≡ p → ⊥) → is_one pool p sel i ≡ false
  not_port o = simp (ne_eqb (get_or pool.owner i 0) p o)

  pub not_selected : sel (get_or pool.channel i 0) ≡ false → is_one pool p sel i ≡ false
  not_selected s = go (is_of pool.owner p i) (sel (get_or pool.channel i 0)) s
    where
      go : (a b : Bool) → b ≡ false → (a && b) ≡ false
      go true b e = e
      go false b e = refl

-- on to the port's next record
pub mark_skip : (pool : Pool) (p : ℕ) (sel : ℕ → Bool) (l : List ℕ) (v i : ℕ) {r : ℕ} → Next pool.owner p i r → marked l v (is_one pool p sel) i ≡ marked l v (is_one pool p sel) r
mark_skip pool p sel l v i {r} x =
    kept-over (marked l v (is_one pool p sel)) i r x.reached
    (λ j a b. mark-off l v (is_one pool p sel) j (omega (arith, x.most)) (not_port pool p sel j (x.others j a b)))
