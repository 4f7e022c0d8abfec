-- What a good flow has, as facts.
--     good-flow        a flow whose address is good has what is asked of it
--     zeros-drop       of words that are all zero those from a place on are, and zeros_all says which they are
-- Assumes nothing.
use Prim.Native.Nat.{ℕ, zero, suc, ◌≤◌}
use mathlib.Core.Path.{◌≡◌, refl, ap, ap₂}
use mathlib.Core.Logic.{◌⊎◌, inl, inr}
use mathlib.Core.Bool.{Bool, true, false, cond, not, ◌&&◌, ◌||◌}
use mathlib.Core.List.{List, [], ◌∷◌}
use lib.ListN.{length, drop, replicate}
use lib.Dec.{eqb, leb}
use native.Mathlib.Omega.{arith}
use borrow.Author.Tests.{eqb-true, eqb-false, leb-true, not-true}
use Rattle.std.specs.List.{list_all}
use Rattle.octets.specs.Tests.{every}
use Rattle.octets.proofs.Tests.{both, each}
use Rattle.flows.specs.Words.{zeros}
use Rattle.flows.specs.Flows.{known_family, width, in_width, is_group, good_group, good_source, good_flow}
use Rattle.flows.specs.declared.Flow.{Flow}

-- ---- words that are zero
pub zeros-are : (xs : List ℕ) → list_all (λ x. eqb x 0) xs ≡ zeros xs
unfolding zeros
zeros-are [] = refl
zeros-are (x ∷ xs) = ap (λ (t : Bool). eqb x 0 && t) (zeros-are xs)

pub zeros_all : (xs : List ℕ) → zeros xs ≡ true → xs ≡ replicate (length xs) 0
unfolding zeros
zeros_all [] e = refl
zeros_all (x ∷ xs) e = let t = both (eqb x 0) (zeros xs) e in ap₂ ◌∷◌ (eqb-true x 0 t.0) (zeros_all xs t.1)

pub zeros-drop : (n : ℕ) (xs : List ℕ) → zeros xs ≡ true → zeros (drop n xs) ≡ true
unfolding zeros
zeros-drop zero [] e = refl
zeros-drop (suc n) [] e = refl
zeros-drop zero (x ∷ xs) e = e
zeros-drop (suc n) (x ∷ xs) e = zeros-drop n xs (both (eqb x 0) (zeros xs) e).1

-- ---- a good flow
pub record Good (f : Flow) : Type 0 where
  pub family : (f.family ≡ 1) ⊎ (f.family ≡ 2)
  pub group : is_group f.family f.group ≡ true
  pub group_width : in_width f.family f.group ≡ true
  pub mark : f.sourced ≤ 1
  pub none : f.sourced ≡ 0 → zeros f.source ≡ true
  pub some : f.sourced ≡ 1 → (zeros f.source ≡ false) × (is_group f.family f.source ≡ false)
  pub source_width : in_width f.family f.source ≡ true

family_is : (n : ℕ) → known_family n ≡ true → (n ≡ 1) ⊎ (n ≡ 2)
unfolding known_family
family_is n e = go (eqb n 1) refl e
  where
    go : (b : Bool) → eqb n 1 ≡ b → (b || eqb n 2) ≡ true → (n ≡ 1) ⊎ (n ≡ 2)
    go true t e = inl (eqb-true n 1 t)
    go false t e = inr (eqb-true n 2 e)

above : (n : ℕ) → n ≤ 1 → (n ≡ 0 → ⊥) → n ≡ 1
above zero l h = absurd (h refl)
above (suc zero) l h = refl
above (suc (suc n)) l h = absurd (omega arith)

-- a source that is there, and none
abbrev Source : ℕ → ℕ → List ℕ → Type 0
Source family sourced source =
    ((sourced ≡ 0) × (zeros source ≡ true))
    ⊎ ((sourced ≡ 1) × (zeros source ≡ false) × (is_group family source ≡ false) × (in_width family source ≡ true))

source_is : (family sourced : ℕ) (source : List ℕ) → good_source family sourced source ≡ true → Source family sourced source
unfolding good_source
source_is family sourced source e = go (eqb sourced 0) refl e
  where
    go : (b : Bool) → eqb sourced 0 ≡ b
        → cond b (zeros source) (every (leb sourced 1 ∷ in_width family source ∷ not (zeros source) ∷ not (is_group family source) ∷ [])) ≡ true → Source family sourced source
    go true t e = inl (eqb-true sourced 0 t, e)
    go false t e =
        let h = each (leb sourced 1 ∷ in_width family source ∷ not (zeros source) ∷ not (is_group family source) ∷ []) e in
        let l = leb-true sourced 1 h.0 in
        inr (above sourced l (eqb-false sourced 0 t), not-true (zeros source) h.1.1.0, not-true (is_group family source) h.1.1.1.0, h.1.0)

pub good-flow : (f : Flow) → good_flow f ≡ true → Good f
unfolding good_flow good_group in_width
good-flow f e =
    let h = each (known_family f.family ∷ good_group f.family f.group ∷ good_source f.family f.sourced f.source ∷ []) e in
    let g = each (is_group f.family f.group ∷ in_width f.family f.group ∷ []) h.1.0 in
    go (source_is f.family f.sourced f.source h.1.1.0) (family_is f.family h.0) g.0 g.1.0
  where
    go : Source f.family f.sourced f.source → (f.family ≡ 1) ⊎ (f.family ≡ 2) → is_group f.family f.group ≡ true → in_width f.family f.group ≡ true → Good f
    go (inl (m, z)) k g w =
        record { family = k; group = g; group_width = w; mark = omega arith; none = λ _. z; some = λ s. absurd (omega arith); source_width = zeros-drop (width f.family) f.source z }
    go (inr (m, z, n, x)) k g w =
        record { family = k; group = g; group_width = w; mark = omega arith; none = λ s. absurd (omega arith); some = λ _. (z, n); source_width = x }
