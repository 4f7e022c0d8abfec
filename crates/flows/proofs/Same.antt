-- What the tests find the same is equal: lists of numbers, and flows. Assumes nothing.
use Prim.Native.Nat.{ℕ}
use native.Mathlib.Omega.{arith}
use mathlib.Core.Path.{◌≡◌, refl, sym, ap, ap₂, ◌∙◌}
use mathlib.Core.Bool.{Bool, true, false, false≢true, ◌&&◌, and_assoc, and-true}
use mathlib.Core.List.{List, [], ◌∷◌, ◌++◌}
use lib.ListN.{length}
use lib.Dec.{eqb}
use borrow.Author.Tests.{eqb-true, eq-eqb}
use Rattle.std.specs.Prelude.{nat_eq}
use Rattle.std.specs.Cmp.Lexicographic.{pointwise}
use Rattle.octets.specs.Tests.{every}
use Rattle.octets.proofs.Tests.{both, each, every-by, false_by}
use Rattle.flows.specs.Words.{same}
use Rattle.flows.specs.Flows.{same_flow}
use Rattle.flows.specs.Laws.{derived_eq}
use Rattle.flows.specs.declared.Flow.{Flow}

-- what `==` answers at arrays of words
pub same_pointwise : (xs ys : List ℕ) → pointwise nat_eq xs ys ≡ same xs ys
unfolding same
same_pointwise [] [] = refl
same_pointwise [] (y ∷ ys) = refl
same_pointwise (x ∷ xs) [] = refl
same_pointwise (x ∷ xs) (y ∷ ys) = ap (λ (t : Bool). eqb x y && t) (same_pointwise xs ys)

pub same_eq : (xs ys : List ℕ) → same xs ys ≡ true → xs ≡ ys
unfolding same
same_eq [] [] e = refl
same_eq [] (y ∷ ys) e = absurd (false≢true e)
same_eq (x ∷ xs) [] e = absurd (false≢true e)
same_eq (x ∷ xs) (y ∷ ys) e =
    let t = both (eqb x y) (same xs ys) e in ap₂ ◌∷◌ (eqb-true x y t.0) (same_eq xs ys t.1)

pub same_refl : (xs : List ℕ) → same xs xs ≡ true
unfolding same
same_refl [] = refl
same_refl (x ∷ xs) = simp (eq-eqb x x refl) (same_refl xs)

pub same-append : (p q r s : List ℕ) → length p ≡ length q → same (p ++ r) (q ++ s) ≡ (same p q && same r s)
unfolding same
same-append [] [] r s e = refl
same-append [] (y ∷ q) r s e = absurd (omega arith)
same-append (x ∷ p) [] r s e = absurd (omega arith)
same-append (x ∷ p) (y ∷ q) r s e =
    ap (λ (t : Bool). eqb x y && t) (same-append p q r s (omega arith)) ∙ sym (and_assoc (eqb x y) (same p q) (same r s))

-- lists that differ in a number, or in how many there are
pub same-off : (xs ys : List ℕ) → (xs ≡ ys → ⊥) → same xs ys ≡ false
same-off xs ys h = sym (false_by (same xs ys) (λ e. h (same_eq xs ys e)))

abbrev flow : ℕ → ℕ → List ℕ → List ℕ → Flow
flow family sourced group source = record { family = family; sourced = sourced; group = group; source = source }

module _ (a b : Flow) where
  pub flow_eq : a.family ≡ b.family → a.group ≡ b.group → a.sourced ≡ b.sourced → a.source ≡ b.source → a ≡ b
  flow_eq f g s x =
      ap₂ (λ (p q : ℕ). flow p q a.group a.source) f s
      ∙ ap₂ (λ (p q : List ℕ). flow b.family b.sourced p q) g x

  pub same-flow_eq : same_flow a b ≡ true → a ≡ b
  unfolding same_flow
  same-flow_eq e =
      let t = each (eqb a.family b.family ∷ eqb a.sourced b.sourced ∷ same a.group b.group ∷ same a.source b.source ∷ []) e in
      flow_eq (eqb-true _ _ t.0) (same_eq _ _ t.1.1.0) (eqb-true _ _ t.1.0) (same_eq _ _ t.1.1.1.0)

-- what `==` answers at flows
pub same_derived : (a b : Flow) → derived_eq a b ≡ same_flow a b
unfolding same_flow every
same_derived a b = rw (sym (same_pointwise a.group b.group), sym (same_pointwise a.source b.source), and-true) refl

pub same-flow_refl : (a : Flow) → same_flow a a ≡ true
unfolding same_flow
same-flow_refl a = every-by _ (eq-eqb a.family a.family refl, (eq-eqb a.sourced a.sourced refl, (same_refl a.group, (same_refl a.source, tt))))
