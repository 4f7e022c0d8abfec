-- The pool law: "the pool cannot run out while the room rule holds" (64 x 4 + 256 = 512). Of pools in which every record is a port's or free.
--     owned_fresh, owned-began, owned_ended, owned_accounted      every pool that calls reach is one of these
--     extras-fresh, extras-began, extras-ended                    and has at most 256 extras
--     counts_most, counts_full      the counts of all ports: at most 512, and 512 where no record is free
--     counts_extras, counts_four    at most 4 a port and the extras, and fewer where a port has under 4
--     room_free                     where there is room there is a free record; `room_is`: so the rule alone decides
-- Assumes nothing.
use Prim.Native.Nat.{ℕ, ◌+◌, ◌-◌, ◌≤◌, ◌<◌}
use mathlib.Core.Path.{◌≡◌, refl, sym, ap, ◌∙◌}
use mathlib.Core.Bool.{Bool, true, false, cond}
use mathlib.Core.List.{List}
use mathlib.Core.Logic.{◌⊎◌, inl, inr, ⊎_elim}
use native.Mathlib.Omega.{arith}
use lib.ListN.{get_or, set, get_or-replicate}
use lib.Dec.{eqb, ltb}
use lib.Seq.{get_or-set_same, get_or-set_other}
use borrow.Author.Tests.{eqb-true, eqb-false, lt-ltb, ltb-true, ltb-false}
use Rattle.sums.specs.Sums.{sum_to}
use Rattle.sums.proofs.Sums.{sum_to_ext, sum_to_mono, sum_to-add, sum_to_const, sum_to-none, sum_to_strict, sum_to_change, sum_to_swap, test_most, one_hot}
use Rattle.pool.specs.Pool.{is_of, sum_over, free, count_in, active_count, extras_in, extras_of, room_for, free_in, free_of, room_in, has_room, fresh_pool, began, is_one, ended, accounted}
use Rattle.pool.specs.declared.Pool.{Pool}
use Rattle.octets.proofs.Tests.{same_by}
use Rattle.pool.proofs.Rooms.{room_facts, room_both, room_of}
use Rattle.pool.proofs.Whole.{Whole}
use Rattle.pool.proofs.Pools.{sum_mono, free-first, owner-ended, pool-began, pool-began_other, pool-ended, pool-ended_other, pool-fresh}

-- ---- every record is a port's or free
abbrev pub Owned : List ℕ → Type 0
Owned owner = (i : ℕ) → i < 512 → (get_or owner i 0 < 64) ⊎ (get_or owner i 0 ≡ free)

pub owned_fresh : Owned fresh_pool.owner
unfolding fresh_pool
owned_fresh i l = inr (get_or-replicate 512 i free 0 l)

module _ (pool : Pool) (owned : Owned pool.owner) (p : ℕ) where
  pub owned-began : Whole pool → p < 64 → (k : ℕ) (c : Bool) (a : ℕ) → Owned (began pool p k c a).owner
  unfolding began
  owned-began whole h k c a i l = go (eqb i (free_of pool)) refl
    where
      go : (b : Bool) → eqb i (free_of pool) ≡ b → (get_or (set pool.owner (free_of pool) p) i 0 < 64) ⊎ (get_or (set pool.owner (free_of pool) p) i 0 ≡ free)
      go true e =
          let s : i ≡ free_of pool = eqb-true i (free_of pool) e in
          let t : get_or (set pool.owner (free_of pool) p) (free_of pool) 0 ≡ p = get_or-set_same pool.owner (free_of pool) p 0 (omega (arith, whole.owner)) in
          inl (omega (arith, ap (λ (n : ℕ). get_or (set pool.owner (free_of pool) p) n 0) s))
      go false e = rw (get_or-set_other pool.owner (free_of pool) i p 0 (eqb-false i (free_of pool) e)) (owned i l)

  pub owned_ended : (sel : ℕ → Bool) → Owned (ended pool p sel).owner
  owned_ended sel i l = go (is_one pool p sel i) (owner-ended pool p sel i l)
    where
      go : (b : Bool) → get_or (ended pool p sel).owner i 0 ≡ cond b free (get_or pool.owner i 0) → (get_or (ended pool p sel).owner i 0 < 64) ⊎ (get_or (ended pool p sel).owner i 0 ≡ free)
      go true e = inr e
      go false e = rw e (owned i l)

  pub owned_accounted : (k v : ℕ) → Owned (accounted pool p k v).owner
  unfolding accounted
  owned_accounted k v = owned

-- ---- the counts of all ports
abbrev in_use : List ℕ → ℕ → ℕ
in_use owner i = cond (ltb (get_or owner i 0) 64) 1 0

module _ (owner : List ℕ) where
  -- each record is counted at its port
  counts : sum_to 64 (count_in owner) ≡ sum_to 512 (in_use owner)
  unfolding sum_over
  counts =
      sum_to_swap 64 512 (λ p i. cond (is_of owner p i) 1 0)
      ∙ sum_to_ext (λ i. sum_to 64 (λ p. cond (is_of owner p i) 1 0)) (in_use owner) 512 (λ i l. one_hot 64 (get_or owner i 0))

  pub counts_most : sum_to 64 (count_in owner) ≤ 512
  counts_most = omega (arith, counts, sum_to_mono (in_use owner) (λ i. 1) 512 (λ i l. test_most (ltb (get_or owner i 0) 64)), sum_to_const 512 1)

  pub counts_full : Owned owner → 512 ≤ free_in owner → sum_to 64 (count_in owner) ≡ 512
  counts_full owned full = omega (arith, counts, sum_to_ext (in_use owner) (λ i. 1) 512 one, sum_to_const 512 1)
    where
      one : (i : ℕ) → i < 512 → in_use owner i ≡ 1
      one i l =
          ⊎_elim (λ (s : get_or owner i 0 < 64). simp (lt-ltb (get_or owner i 0) 64 s)) (λ (s : get_or owner i 0 ≡ free). absurd (omega (arith, free-first owner i l s))) (owned i l)

  -- four of each port, and the extras
  fours : sum_to 64 (λ p. 4 + (count_in owner p - 4)) ≡ 256 + extras_in owner
  fours = omega (arith, sum_to-add (λ p. 4) (λ p. count_in owner p - 4) 64, sum_to_const 64 4)

  pub counts_extras : sum_to 64 (count_in owner) ≤ 256 + extras_in owner
  counts_extras = omega (arith, fours, sum_to_mono (count_in owner) (λ p. 4 + (count_in owner p - 4)) 64 (λ p l. omega arith))

  pub counts_four : (p : ℕ) → p < 64 → count_in owner p < 4 → sum_to 64 (count_in owner) < 256 + extras_in owner
  counts_four p l h = omega (arith, fours, sum_to_strict (count_in owner) (λ q. 4 + (count_in owner q - 4)) 64 p l (λ q m. omega arith) (omega arith))

  -- ---- where there is room there is a free record
  module _ (owned : Owned owner) (extras : extras_in owner ≤ 256) (p : ℕ) (port : p < 64) where
    pub room_free : room_for (count_in owner p) (extras_in owner) ≡ true → free_in owner < 512
    room_free r = go (ltb (free_in owner) 512) refl
      where
        fewer : sum_to 64 (count_in owner) < 512
        fewer =
            ⊎_elim
            (λ (l : count_in owner p < 4). omega (arith, counts_four p port l))
            (λ (l : (count_in owner p < 16) × (extras_in owner < 256)). omega (arith, counts_extras, l.1))
            (room_facts (count_in owner p) (extras_in owner) r)

        go : (b : Bool) → ltb (free_in owner) 512 ≡ b → free_in owner < 512
        go true e = ltb-true (free_in owner) 512 e
        go false e = absurd (omega (arith, fewer, counts_full owned (ltb-false (free_in owner) 512 e)))

    pub room_is : room_in owner p ≡ room_for (count_in owner p) (extras_in owner)
    room_is = same_by (room_in owner p) (room_for (count_in owner p) (extras_in owner)) (λ e. (room_both owner p e).0) (λ e. room_of owner p e (room_free e))

-- ---- extras
pub extras-fresh : extras_of fresh_pool ≡ 0
extras-fresh = sum_to-none 64 (λ q. active_count fresh_pool q - 4) (λ q l. omega (arith, pool-fresh q (λ k c a. 1) (λ z. omega arith)))

module _ (pool : Pool) (p : ℕ) (port : p < 64) where
  module _ (whole : Whole pool) (k : ℕ) (c : Bool) (a : ℕ) where
    pub extras-began : has_room pool p ≡ true → extras_of pool ≤ 256 → extras_of (began pool p k c a) ≤ 256
    extras-began r h =
        let room = room_both pool.owner p r in
        let mine : active_count (began pool p k c a) p ≡ active_count pool p + 1 = pool-began pool whole room.1 p k c a (λ j b x. 1) (λ z. omega arith) in
        let all =
        sum_to_change (λ q. active_count pool q - 4) (λ q. active_count (began pool p k c a) q - 4) 64 p port
        (λ q l m. ap (λ (n : ℕ). n - 4) (sym (pool-began_other pool whole room.1 p k c a (λ j b x. 1) q (λ z. omega arith) m)))
        in
        ⊎_elim
        (λ (l : active_count pool p < 4). omega arith)
        (λ (l : (active_count pool p < 16) × (extras_of pool < 256)). omega (arith, l.1))
        (room_facts (active_count pool p) (extras_of pool) room.0)

  pub extras-ended : (sel : ℕ → Bool) → extras_of (ended pool p sel) ≤ extras_of pool
  extras-ended sel = sum_to_mono (λ q. active_count (ended pool p sel) q - 4) (λ q. active_count pool q - 4) 64 (λ q l. at q l (eqb q p) refl)
    where
      fewer : (b : Bool) → cond b 0 1 ≤ 1
      fewer true = omega arith
      fewer false = omega arith

      at : (q : ℕ) → q < 64 → (b : Bool) → eqb q p ≡ b → active_count (ended pool p sel) q - 4 ≤ active_count pool q - 4
      at q l true e =
          let s : q ≡ p = eqb-true q p e in
          let less = sum_mono pool.owner p (λ i. cond (sel (get_or pool.channel i 0)) 0 1) (λ i. 1) (λ i. fewer (sel (get_or pool.channel i 0))) in
          omega (arith, pool-ended pool p sel (λ k c a. 1) (λ z. omega arith), less, ap (active_count (ended pool p sel)) s, ap (active_count pool) s)
      at q l false e = omega (arith, pool-ended_other pool p sel (λ k c a. 1) q (λ z. omega arith) (eqb-false q p e))
