-- Laws of the list of f at the numbers below a bound.
--     map_to-length, map_to-get_or, map_to_ext      its length, its elements, equal elements
--     map_to_of, map_to_const                    a list is the list of its elements; one element everywhere
--     map_to-set                                one element written
--     sweep-*                                  a loop that has written the elements before i
-- Assumes nothing.
use Prim.Native.Nat.{ℕ, zero, suc, ◌+◌, ◌≤◌, ◌<◌}
use mathlib.Core.Path.{◌≡◌, refl, sym, ap, ap₂, ◌∙◌}
use mathlib.Core.Bool.{Bool, true, false, cond}
use mathlib.Core.List.{List, [], ◌∷◌}
use native.Mathlib.Omega.{arith}
use lib.ListN.{length, get_or, set, replicate}
use lib.Dec.{ltb}
use lib.Seq.{set-get_or}
use borrow.Author.Tests.{lt-ltb, le-ltb, ltb-true, ltb-false}
use Rattle.sums.specs.Sums.{map_to}

module _ {ℓ} {A : Type ℓ} where
  pub map_to-length : (n : ℕ) (f : ℕ → A) → length (map_to n f) ≡ n
  unfolding map_to
  map_to-length zero f = refl
  map_to-length (suc n) f = ap suc (map_to-length n (λ i. f (suc i)))

  pub map_to-get_or : (n : ℕ) (f : ℕ → A) (i : ℕ) (d : A) → i < n → get_or (map_to n f) i d ≡ f i
  unfolding map_to
  map_to-get_or zero f i d h = absurd (omega arith)
  map_to-get_or (suc n) f zero d h = refl
  map_to-get_or (suc n) f (suc i) d h = map_to-get_or n (λ j. f (suc j)) i d (omega arith)

  pub map_to_ext : (n : ℕ) (f g : ℕ → A) → ((i : ℕ) → i < n → f i ≡ g i) → map_to n f ≡ map_to n g
  unfolding map_to
  map_to_ext zero f g e = refl
  map_to_ext (suc n) f g e = ap₂ ◌∷◌ (e 0 (omega arith)) (map_to_ext n (λ i. f (suc i)) (λ i. g (suc i)) (λ i l. e (suc i) (omega arith)))

  pub map_to_of : (n : ℕ) (l : List A) (d : A) → length l ≡ n → l ≡ map_to n (λ i. get_or l i d)
  unfolding map_to
  map_to_of zero [] d h = refl
  map_to_of zero (x ∷ xs) d h = absurd (omega arith)
  map_to_of (suc n) [] d h = absurd (omega arith)
  map_to_of (suc n) (x ∷ xs) d h = ap (λ (l : List A). x ∷ l) (map_to_of n xs d (omega arith))

  pub map_to_const : (n : ℕ) (a : A) → replicate n a ≡ map_to n (λ i. a)
  unfolding map_to
  map_to_const zero a = refl
  map_to_const (suc n) a = ap (λ (l : List A). a ∷ l) (map_to_const n a)

  -- the element at i written, and no other
  pub map_to-set : (n : ℕ) (f g : ℕ → A) (i : ℕ) (v : A) → ((j : ℕ) → j < n → (j ≡ i → ⊥) → f j ≡ g j) → v ≡ g i → set (map_to n f) i v ≡ map_to n g
  unfolding map_to
  map_to-set zero f g i v e h = refl
  map_to-set (suc n) f g zero v e h = ap₂ ◌∷◌ h (map_to_ext n (λ j. f (suc j)) (λ j. g (suc j)) (λ j l. e (suc j) (omega arith) (λ z. omega arith)))
  map_to-set (suc n) f g (suc i) v e h =
      ap₂ ◌∷◌ (e 0 (omega arith) (λ z. omega arith)) (map_to-set n (λ j. f (suc j)) (λ j. g (suc j)) i v (λ j l m. e (suc j) (omega arith) (λ z. m (omega arith))) h)

  -- ---- the elements before i are g's, the others f's
  abbrev pub sweep : ℕ → (ℕ → A) → (ℕ → A) → ℕ → List A
  sweep n f g i = map_to n (λ j. cond (ltb j i) (g j) (f j))

  module _ (n : ℕ) (f g : ℕ → A) (i : ℕ) where
    passed : i < n → (j : ℕ) → (j ≡ i → ⊥) → cond (ltb j i) (g j) (f j) ≡ cond (ltb j (i + 1)) (g j) (f j)
    passed h j m = ap (λ (b : Bool). cond b (g j) (f j)) (go (ltb j i) refl)
      where
        go : (b : Bool) → ltb j i ≡ b → ltb j i ≡ ltb j (i + 1)
        go true e = let k = ltb-true j i e in e ∙ sym (lt-ltb j (i + 1) (omega arith))
        go false e = let k = ltb-false j i e in e ∙ sym (le-ltb j (i + 1) (omega (arith, m)))

    pub sweep_read : (d : A) (j : ℕ) → i ≤ j → j < n → get_or (sweep n f g i) j d ≡ f j
    sweep_read d j l h = map_to-get_or n (λ k. cond (ltb k i) (g k) (f k)) j d h ∙ simp (le-ltb j i l)

    pub sweep-set : (v : A) → i < n → v ≡ g i → set (sweep n f g i) i v ≡ sweep n f g (i + 1)
    sweep-set v h e =
        map_to-set n (λ j. cond (ltb j i) (g j) (f j)) (λ j. cond (ltb j (i + 1)) (g j) (f j)) i v (λ j l m. passed h j m) (e ∙ simp (lt-ltb i (i + 1) (omega arith)))

    pub sweep_keep : (d : A) → i < n → f i ≡ g i → sweep n f g i ≡ sweep n f g (i + 1)
    sweep_keep d h e = sym (set-get_or (sweep n f g i) i d) ∙ sweep-set (get_or (sweep n f g i) i d) h (sweep_read d i (omega arith) h ∙ e)

    pub sweep_end : n ≤ i → sweep n f g i ≡ map_to n g
    sweep_end h = map_to_ext n (λ j. cond (ltb j i) (g j) (f j)) g (λ j l. simp (lt-ltb j i (omega arith)))

  pub sweep-start : (n : ℕ) (l : List A) (d : A) (g : ℕ → A) → length l ≡ n → l ≡ sweep n (λ j. get_or l j d) g 0
  sweep-start n l d g h =
      map_to_of n l d h ∙ map_to_ext n (λ j. get_or l j d) (λ j. cond (ltb j 0) (g j) (get_or l j d)) (λ j m. simp (le-ltb j 0 (omega arith)))
