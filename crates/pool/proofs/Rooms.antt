-- The rule of room.
--     room_none, room_four, room_full, room_more     case by case, as `has_room` goes through it
--     room_facts, room_by       the rule as inequalities
--     room_both, room_of        room is the rule and a free record
-- Assumes nothing.
use Prim.Native.Nat.{ℕ, ◌≤◌, ◌<◌}
use mathlib.Core.Path.{◌≡◌, refl, sym, ap, ◌∙◌}
use mathlib.Core.Bool.{Bool, true, false, ◌&&◌, ◌||◌, false≢true}
use mathlib.Core.List.{List}
use mathlib.Core.Logic.{◌⊎◌, inl, inr, ⊎_elim}
use native.Mathlib.Omega.{arith}
use lib.Dec.{ltb}
use borrow.Author.Tests.{lt-ltb, le-ltb, ltb-true}
use Rattle.pool.specs.Pool.{count_in, extras_in, room_for, free_in, room_in}

module _ (owner : List ℕ) (p : ℕ) {i : ℕ} (e : i ≡ free_in owner) where
  and-false : (b : Bool) → false ≡ (b && false)
  and-false true = refl
  and-false false = refl

  and-true : (b : Bool) → b ≡ (b && true)
  and-true true = refl
  and-true false = refl

  -- no record is free
  pub room_none : 512 ≤ i → false ≡ room_in owner p
  unfolding room_in
  room_none h = and-false (room_for (count_in owner p) (extras_in owner)) ∙ ap (λ (b : Bool). room_for (count_in owner p) (extras_in owner) && b) (sym (le-ltb (free_in owner) 512 (omega arith)))

  module _ (h : i < 512) {n : ℕ} (count : n ≡ count_in owner p) where
    rule : room_for n (extras_in owner) ≡ room_in owner p
    unfolding room_in
    rule =
        ap (λ (m : ℕ). room_for m (extras_in owner)) count ∙ and-true (room_for (count_in owner p) (extras_in owner))
        ∙ ap (λ (b : Bool). room_for (count_in owner p) (extras_in owner) && b) (sym (lt-ltb (free_in owner) 512 (omega arith)))

    pub room_four : n < 4 → true ≡ room_in owner p
    room_four l = simp (lt-ltb n 4 l) at rule

    pub room_full : 16 ≤ n → false ≡ room_in owner p
    room_full l = simp (le-ltb n 4 (omega arith), le-ltb n 16 l) at rule

    pub room_more : {x : ℕ} → 4 ≤ n → n < 16 → x ≡ extras_in owner → ltb x 256 ≡ room_in owner p
    room_more {x} l m s = ap (λ (y : ℕ). ltb y 256) s ∙ (simp (le-ltb n 4 l, lt-ltb n 16 m) at rule)

-- ---- as inequalities
pub room_facts : (n e : ℕ) → room_for n e ≡ true → (n < 4) ⊎ ((n < 16) × (e < 256))
room_facts n e r = go (ltb n 4) refl (ltb n 16) refl (ltb e 256) refl r
  where
    go : (a : Bool) → ltb n 4 ≡ a → (b : Bool) → ltb n 16 ≡ b → (c : Bool) → ltb e 256 ≡ c → (a || (b && c)) ≡ true → (n < 4) ⊎ ((n < 16) × (e < 256))
    go true s b t c u h = inl (ltb-true n 4 s)
    go false s true t true u h = inr (ltb-true n 16 t, ltb-true e 256 u)
    go false s true t false u h = absurd (false≢true h)
    go false s false t c u h = absurd (false≢true h)

pub room_by : (n e : ℕ) → (n < 4) ⊎ ((n < 16) × (e < 256)) → room_for n e ≡ true
room_by n e f =
    ⊎_elim (λ (l : n < 4). simp (lt-ltb n 4 l)) (λ (l : (n < 16) × (e < 256)). four (ltb n 4) (lt-ltb n 16 l.0) (lt-ltb e 256 l.1)) f
  where
    four : (a : Bool) {b c : Bool} → b ≡ true → c ≡ true → (a || (b && c)) ≡ true
    four true s t = refl
    four false s t = simp (s, t)

module _ (owner : List ℕ) (p : ℕ) where
  pub room_both : room_in owner p ≡ true → (room_for (count_in owner p) (extras_in owner) ≡ true) × (free_in owner < 512)
  unfolding room_in
  room_both r = go (room_for (count_in owner p) (extras_in owner)) refl (ltb (free_in owner) 512) refl r
    where
      go : (a : Bool) → room_for (count_in owner p) (extras_in owner) ≡ a → (b : Bool) → ltb (free_in owner) 512 ≡ b → (a && b) ≡ true → (room_for (count_in owner p) (extras_in owner) ≡ true) × (free_in owner < 512)
      go true s true t h = (s, ltb-true (free_in owner) 512 t)
      go true s false t h = absurd (false≢true h)
      go false s b t h = absurd (false≢true h)

  pub room_of : room_for (count_in owner p) (extras_in owner) ≡ true → free_in owner < 512 → room_in owner p ≡ true
  unfolding room_in
  room_of r l = simp (r, lt-ltb (free_in owner) 512 l)
