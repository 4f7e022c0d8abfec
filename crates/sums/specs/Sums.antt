-- Sums and lists over the numbers below a bound. Assumes nothing: these are definitions.
use Rattle.std.specs.Prelude.{ℕ, zero, suc, ◌+◌, Bool, cond, List, [], ◌∷◌, ◌++◌}

-- f 0 + .. + f (n - 1); shut, so that 64 or 512 terms are never written out
unfoldable pub sum_to : ℕ → (ℕ → ℕ) → ℕ
sum_to zero f = 0
sum_to (suc n) f = f n + sum_to n f

-- the list f 0, .., f (n - 1)
unfoldable pub map_to {ℓ} : {A : Type ℓ} → ℕ → (ℕ → A) → List A
map_to zero f = []
map_to (suc n) f = f 0 ∷ map_to n (λ i. f (suc i))

-- the list of f at those numbers below n that pass the test, in their order
unfoldable pub pick_to {ℓ} : {A : Type ℓ} → ℕ → (ℕ → Bool) → (ℕ → A) → List A
pick_to zero test f = []
pick_to (suc n) test f = cond (test n) (pick_to n test f ++ (f n ∷ [])) (pick_to n test f)

-- the sum of f over a list
unfoldable pub sum_by {ℓ} : {A : Type ℓ} → (A → ℕ) → List A → ℕ
sum_by f [] = 0
sum_by f (x ∷ xs) = f x + sum_by f xs
