-- What is from the first TLV at fault on, and a message of which nothing is missing and nothing at fault.
--     fault_tail           what holds of a list of TLVs and of its tails holds of it
--     fault_named          the first TLV at fault is one that a rule names
--     target_first, rules_few    the rules of every type that is handled begin with the Target's, and are two at most
--     target-stands        none is missing: a Target stands
--     one-circuit          and none is at fault: it has one circuit id
--     no_fault_lem             a Target with one circuit id is no fault, nor are Commands
-- Assumes nothing.
use mathlib.Core.Path.{◌≡◌, refl, sym, ap, ◌∙◌}
use mathlib.Core.Bool.{Bool, true, false, cond, not, ◌&&◌, ◌||◌, false≢true}
use mathlib.Core.List.{List, [], ◌∷◌}
use Prim.Native.Nat.{ℕ, suc, ◌≤◌}
use native.Mathlib.Omega.{arith}
use lib.ListN.{length, get_or}
use lib.Dec.{eqb, ltb}
use borrow.Author.Tests.{ltb-true, eqb-true, eqb-false, eq-eqb, ne_eqb}
use Rattle.items.specs.Items.{Item, of_type, count_of, first_of}
use Rattle.fields.specs.Fields.{circuit_ids, length_ok}
use Rattle.rules.specs.declared.Rule.{Rule}
use Rattle.rules.specs.Rules.{rule, types, rules_among, handled, rules_of}
use Rattle.octets.specs.Tests.{every}
use Rattle.octets.proofs.Tests.{each}
use Rattle.rules.proofs.Types.{tried, tried_any, tried-handled}
use Rattle.rules.specs.Named.{lacks, missing, content_ok, stood, at_fault, from_fault}

-- ---- from the first one at fault on
module _ (rs : List Rule) where
  module _ (C : List Item → Type 0) (tail : (i : Item) (is : List Item) → C (i ∷ is) → C is) where
    tail_by : (b : Bool) (is js : List Item) → C is → C js → C (cond b is js)
    tail_by true is js x y = x
    tail_by false is js x y = y

    pub fault_tail : (before : List ℕ) (is : List Item) → C is → C (from_fault rs before is)
    unfolding from_fault
    fault_tail before [] h = h
    fault_tail before (i ∷ is) h = tail_by (at_fault rs before i) (i ∷ is) _ h (fault_tail (i.kind ∷ before) is (tail i is h))

-- ---- the types that rules name
module _ (C : ℕ → Type 0) where
  -- of the type of each rule, and of the first of some TLVs
  abbrev pub EachRule : List Rule → Type 0
  EachRule [] = Unit {0}
  EachRule (r ∷ rs) = C r.kind × EachRule rs

  abbrev pub OfFirst : List Item → Type 0
  OfFirst [] = Unit {0}
  OfFirst (i ∷ is) = C i.kind

  kind-by : (before : List ℕ) (i : Item) (rs : List Rule) → EachRule rs → at_fault rs before i ≡ true → C i.kind
  unfolding at_fault
  kind-by before i [] h e = absurd (false≢true e)
  kind-by before i (r ∷ rs) h e = go (eqb i.kind r.kind) _ refl e (kind-by before i rs h.1)
    where
      go : (b x : Bool) → eqb i.kind r.kind ≡ b → cond b x (at_fault rs before i) ≡ true → (at_fault rs before i ≡ true → C i.kind) → C i.kind
      go true x k z f = rw (eqb-true i.kind r.kind k) h.0
      go false x k z f = f z

  pub fault_named : (rs : List Rule) → EachRule rs → (before : List ℕ) (is : List Item) → OfFirst (from_fault rs before is)
  unfolding from_fault
  fault_named rs h before [] = tt
  fault_named rs h before (i ∷ is) = go (at_fault rs before i) (from_fault rs (i.kind ∷ before) is) refl (fault_named rs h (i.kind ∷ before) is)
    where
      go : (b : Bool) (js : List Item) → at_fault rs before i ≡ b → OfFirst js → OfFirst (cond b (i ∷ is) js)
      go true js e f = kind-by before i rs h e
      go false js e f = f

-- ---- the Target's rule
pub record TargetFirst (rs : List Rule) : Type 0 where
  pub others : List Rule
  pub begins : rs ≡ rule 0x1000 true true ∷ others

-- the Target's rule stands first, as a test
tests : Rule → List Bool
tests r = eqb r.kind 0x1000 ∷ eqb r.instead 0x1000 ∷ r.needed ∷ r.single ∷ []

begins : List Rule → Bool
begins [] = false
begins (r ∷ rs) = every (tests r)

target-by : (rs : List Rule) → begins rs ≡ true → TargetFirst rs
unfolding begins tests
target-by [] h = absurd (false≢true h)
target-by (r ∷ rs) h =
    let t = each (tests r) h in
    record { others = rs; begins = ap (λ (x : Rule). x ∷ rs) (same (eqb-true r.kind 0x1000 t.0) (eqb-true r.instead 0x1000 t.1.0) t.1.1.0 t.1.1.1.0) }
  where
    same : r.kind ≡ 0x1000 → r.instead ≡ 0x1000 → r.needed ≡ true → r.single ≡ true → r ≡ rule 0x1000 true true
    same a b c d =
        ap (λ (x : ℕ). record { kind = x; instead = r.instead; needed = r.needed; single = r.single }) a
        ∙ ap (λ (x : ℕ). record { kind = 0x1000; instead = x; needed = r.needed; single = r.single }) b
        ∙ ap (λ (x : Bool). record { kind = 0x1000; instead = 0x1000; needed = x; single = r.single }) c
        ∙ ap (λ (x : Bool). record { kind = 0x1000; instead = 0x1000; needed = true; single = x }) d

-- the rules of each begin with the Target's
pub target_first : (kind : ℕ) → handled kind ≡ true → TargetFirst (rules_of kind)
unfolding handled rules_of tried begins tests every
target_first kind h = target-by (rules_among kind types) (tried-handled begins types kind refl h)

-- and are two at most
pub rules_few : (kind : ℕ) → length (rules_of kind) ≤ 2
unfolding rules_of tried
rules_few kind =
    let few = ltb-true (length (rules_among kind types)) 3 (tried_any (λ (rs : List Rule). ltb (length rs) 3) types kind refl refl) in
    omega arith

-- ---- rules that begin with the Target's
module _ (others : List Rule) where
  abbrev rs : List Rule
  rs = rule 0x1000 true true ∷ others

  stands_there : (is : List Item) → missing rs is ≡ [] → count_of 0x1000 is ≡ 0 → ⊥
  unfolding missing lacks
  stands_there is e z = go (eqb (count_of 0x1000 is) 0) (eq-eqb (count_of 0x1000 is) 0 z) (missing others is) e
    where
      go : (b : Bool) → b ≡ true → (ts : List ℕ) → cond (b && b) (0x1000 ∷ ts) ts ≡ [] → ⊥
      go true h ts k = let n : ◌≡◌ {A = ℕ} (suc (length ts)) 0 = ap length k in omega arith
      go false h ts k = false≢true h

  circuit-by : (before : List ℕ) (is : List Item) → from_fault rs before is ≡ [] → (count_of 0x1000 is ≡ 0 → ⊥) → circuit_ids (first_of 0x1000 is) ≡ 1
  unfolding from_fault at_fault count_of first_of of_type content_ok
  circuit-by before [] e n = absurd (n refl)
  circuit-by before (i ∷ is) e n =
      go (eqb i.kind 0x1000) (stood i.kind before) (eqb (circuit_ids i.content) 1) (length_ok i.kind i.content) (at_fault others before i)
      (from_fault rs (i.kind ∷ before) is) refl e n (circuit-by (i.kind ∷ before) is)
    where
      go : (b s x y z : Bool) (js : List Item) → eqb (circuit_ids i.content) 1 ≡ x
          → cond (cond b (s || not (cond b x y)) z) (i ∷ is) js ≡ []
          → (length (cond b (i.content ∷ of_type 0x1000 is) (of_type 0x1000 is)) ≡ 0 → ⊥)
          → (js ≡ [] → (length (of_type 0x1000 is) ≡ 0 → ⊥) → circuit_ids (get_or (of_type 0x1000 is) 0 []) ≡ 1)
          → circuit_ids (get_or (cond b (i.content ∷ of_type 0x1000 is) (of_type 0x1000 is)) 0 []) ≡ 1
      go true true x y z js hx e n f = let k : ◌≡◌ {A = ℕ} (suc (length is)) 0 = ap length e in absurd (omega arith)
      go true false true y z js hx e n f = eqb-true (circuit_ids i.content) 1 hx
      go true false false y z js hx e n f = let k : ◌≡◌ {A = ℕ} (suc (length is)) 0 = ap length e in absurd (omega arith)
      go false s x y true js hx e n f = let k : ◌≡◌ {A = ℕ} (suc (length is)) 0 = ap length e in absurd (omega arith)
      go false s x y false js hx e n f = f e n

  -- rules for others that no TLV offends
  module _ (free : (before : List ℕ) (i : Item) → (i.kind ≡ 0x1000 → ⊥) → at_fault others before i ≡ false) where
    other_on : (before : List ℕ) (i : Item) → (i.kind ≡ 0x1000 → ⊥) → at_fault rs before i ≡ false
    unfolding at_fault
    other_on before i n = rw (ne_eqb i.kind 0x1000 n) (free before i n)

    no_more : (before : List ℕ) (is : List Item) → count_of 0x1000 is ≡ 0 → from_fault rs before is ≡ []
    unfolding from_fault count_of of_type
    no_more before [] e = refl
    no_more before (i ∷ is) e = go (eqb i.kind 0x1000) refl e (no_more (i.kind ∷ before) is)
      where
        go : (b : Bool) → eqb i.kind 0x1000 ≡ b → length (cond b (i.content ∷ of_type 0x1000 is) (of_type 0x1000 is)) ≡ 0
            → (length (of_type 0x1000 is) ≡ 0 → from_fault rs (i.kind ∷ before) is ≡ [])
            → cond (at_fault rs before i) (i ∷ is) (from_fault rs (i.kind ∷ before) is) ≡ []
        go true k e f = absurd (omega arith)
        go false k e f = rw (other_on before i (eqb-false i.kind 0x1000 k)) (f e)

    target_on : (before : List ℕ) (i : Item) → i.kind ≡ 0x1000 → stood 0x1000 before ≡ false → circuit_ids i.content ≡ 1 → at_fault rs before i ≡ false
    unfolding at_fault content_ok
    target_on before i k s c = rw (k, s, eq-eqb (circuit_ids i.content) 1 c)

    pub no_fault_lem : (before : List ℕ) (is : List Item) → stood 0x1000 before ≡ false → count_of 0x1000 is ≡ 1 → circuit_ids (first_of 0x1000 is) ≡ 1 → from_fault rs before is ≡ []
    unfolding from_fault count_of first_of of_type stood
    no_fault_lem before [] s e c = refl
    no_fault_lem before (i ∷ is) s e c = go (eqb i.kind 0x1000) refl e c (no_more (i.kind ∷ before) is) (no_fault_lem (i.kind ∷ before) is)
      where
        go : (b : Bool) → eqb i.kind 0x1000 ≡ b → length (cond b (i.content ∷ of_type 0x1000 is) (of_type 0x1000 is)) ≡ 1
            → circuit_ids (get_or (cond b (i.content ∷ of_type 0x1000 is) (of_type 0x1000 is)) 0 []) ≡ 1
            → (length (of_type 0x1000 is) ≡ 0 → from_fault rs (i.kind ∷ before) is ≡ [])
            → ((eqb i.kind 0x1000 || stood 0x1000 before) ≡ false → length (of_type 0x1000 is) ≡ 1 → circuit_ids (get_or (of_type 0x1000 is) 0 []) ≡ 1
            → from_fault rs (i.kind ∷ before) is ≡ [])
            → cond (at_fault rs before i) (i ∷ is) (from_fault rs (i.kind ∷ before) is) ≡ []
        go true k e c f g = rw (target_on before i (eqb-true i.kind 0x1000 k) s c) (f (omega arith))
        go false k e c f g = rw (other_on before i (eqb-false i.kind 0x1000 k)) (g (rw k s) e c)

-- ---- in a message of a type that is handled
module _ (kind : ℕ) (known : handled kind ≡ true) (is : List Item) (whole : missing (rules_of kind) is ≡ []) where
  pub target-stands : count_of 0x1000 is ≡ 0 → ⊥
  target-stands =
      let t = target_first kind known in
      stands_there t.others is (ap (λ (rs : List Rule). missing rs is) (sym t.begins) ∙ whole)

  pub one-circuit : from_fault (rules_of kind) [] is ≡ [] → circuit_ids (first_of 0x1000 is) ≡ 1
  one-circuit e =
      let t = target_first kind known in
      circuit-by t.others [] is (ap (λ (rs : List Rule). from_fault rs [] is) (sym t.begins) ∙ e) target-stands

-- a Command is never at fault itself
pub commands-free : (before : List ℕ) (i : Item) → (i.kind ≡ 0x1000 → ⊥) → at_fault (rule 0x0011 true false ∷ []) before i ≡ false
unfolding at_fault content_ok length_ok
commands-free before i n = go (eqb i.kind 0x0011) refl
  where
    go : (b : Bool) → eqb i.kind 0x0011 ≡ b → cond b (not (content_ok i.kind i.content)) false ≡ false
    go true e = rw (eqb-true i.kind 0x0011 e)
    go false e = refl
