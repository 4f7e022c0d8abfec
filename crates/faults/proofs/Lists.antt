-- What the first test of a list that fails names.
--     names-none, names-fails, names_on     of no test; of a list whose first test fails; of one whose first test passes
--     Error, err-fails, err_on              the same of a fault whose table is not 0
--     names_stop, names-go                  of two lists, one after the other: what the first names; what the second names
--     Turn, turn_start, turn_stop, turn_on, turn_end     row by row
--     names-many, names-rows                a table that has too many rows, and one that has not
-- Assumes nothing.
use Prim.Native.Nat.{ℕ, suc, ◌+◌, ◌-◌, ◌≤◌, ◌<◌}
use mathlib.Core.Path.{◌≡◌, refl, sym, ap, ◌∙◌, subst}
use mathlib.Core.Bool.{Bool, true, false, cond, ◌&&◌, false≢true}
use mathlib.Core.List.{List, [], ◌∷◌, ◌++◌}
use native.Mathlib.Numerals.{add-one}
use native.Mathlib.Omega.{arith}
use lib.Dec.{eqb, leb}
use borrow.Author.Tests.{le-leb, lt-leb}
use Rattle.faults.specs.declared.Fault.{Fault}
use Rattle.faults.specs.Faults.{Check, check, fault_at, no_fault, first_fault, all_pass, NamesFault, rows_from, table_checks}

pub names-none : {r : Fault} → r ≡ no_fault → NamesFault [] r
unfolding first_fault all_pass
names-none e = record { first = e; whole = ap (λ (x : Fault). eqb x.table 0) e }

module _ (c : Check) (cs : List Check) {r : Fault} where
  pub names-fails : c.passes ≡ false → eqb c.fault.table 0 ≡ false → r ≡ c.fault → NamesFault (c ∷ cs) r
  unfolding first_fault all_pass
  names-fails h z e = record {
    first = e ∙ ap (λ (b : Bool). cond b (first_fault cs) c.fault) (sym h);
    whole = ap (λ (x : Fault). eqb x.table 0) e ∙ z ∙ ap (λ (b : Bool). b && all_pass cs) (sym h);
  }

  pub names_on : c.passes ≡ true → NamesFault cs r → NamesFault (c ∷ cs) r
  unfolding first_fault all_pass
  names_on h n = record {
    first = n.first ∙ ap (λ (b : Bool). cond b (first_fault cs) c.fault) (sym h);
    whole = n.whole ∙ ap (λ (b : Bool). b && all_pass cs) (sym h);
  }

-- of a fault that is an error
abbrev pub Error : List Check → Fault → Type 0
Error cs r = NamesFault cs r × (eqb r.table 0 ≡ false)

module _ (c : Check) (cs : List Check) {r : Fault} where
  pub err-fails : c.passes ≡ false → eqb c.fault.table 0 ≡ false → r ≡ c.fault → Error (c ∷ cs) r
  err-fails h z e = (names-fails c cs h z e, ap (λ (x : Fault). eqb x.table 0) e ∙ z)

  pub err_on : c.passes ≡ true → Error cs r → Error (c ∷ cs) r
  err_on h n = (names_on c cs h n.0, n.1)

-- ---- one list after the other
first_stop : (xs ys : List Check) → all_pass xs ≡ false → (first_fault (xs ++ ys) ≡ first_fault xs) × (all_pass (xs ++ ys) ≡ false)
unfolding first_fault all_pass
first_stop [] ys h = absurd (false≢true (sym h))
first_stop (c ∷ cs) ys h = go c.passes h (λ k. first_stop cs ys k)
  where
    go : (b : Bool) → (b && all_pass cs) ≡ false → (all_pass cs ≡ false → (first_fault (cs ++ ys) ≡ first_fault cs) × (all_pass (cs ++ ys) ≡ false))
        → (cond b (first_fault (cs ++ ys)) c.fault ≡ cond b (first_fault cs) c.fault) × ((b && all_pass (cs ++ ys)) ≡ false)
    go true h ih = ih h
    go false h ih = (refl, refl)

first-go : (xs ys : List Check) → all_pass xs ≡ true → (first_fault (xs ++ ys) ≡ first_fault ys) × (all_pass (xs ++ ys) ≡ all_pass ys)
unfolding first_fault all_pass
first-go [] ys h = (refl, refl)
first-go (c ∷ cs) ys h = go c.passes h (λ k. first-go cs ys k)
  where
    go : (b : Bool) → (b && all_pass cs) ≡ true → (all_pass cs ≡ true → (first_fault (cs ++ ys) ≡ first_fault ys) × (all_pass (cs ++ ys) ≡ all_pass ys))
        → (cond b (first_fault (cs ++ ys)) c.fault ≡ first_fault ys) × ((b && all_pass (cs ++ ys)) ≡ all_pass ys)
    go true h ih = ih h
    go false h ih = absurd (false≢true h)

module _ (xs ys : List Check) {a : Fault} (n : NamesFault xs a) where
  pub names_stop : eqb a.table 0 ≡ false → NamesFault (xs ++ ys) a
  names_stop z =
      let s = first_stop xs ys (sym n.whole ∙ z) in
      record { first = n.first ∙ sym s.0; whole = z ∙ sym s.1 }

  pub names-go : {r : Fault} → eqb a.table 0 ≡ true → NamesFault ys r → NamesFault (xs ++ ys) r
  names-go z m =
      let s = first-go xs ys (sym n.whole ∙ z) in
      record { first = m.first ∙ sym s.0; whole = m.whole ∙ sym s.1 }

-- ---- row by row: what the rows from i on name is what all n name
abbrev pub Turn : (ℕ → List Check) → ℕ → ℕ → Type 0
Turn rows n i = (r : Fault) → NamesFault (rows_from i (n - i) rows) r → NamesFault (rows_from 0 n rows) r

module _ (rows : ℕ → List Check) (n : ℕ) where
  pub turn_start : Turn rows n 0
  turn_start r h = let e : n - 0 ≡ n = omega arith in subst (λ (k : ℕ). NamesFault (rows_from 0 k rows) r) e h

  module _ (i : ℕ) (turn : Turn rows n i) where
    here : (r : Fault) → i < n → NamesFault (rows i ++ rows_from (suc i) (n - (i + 1)) rows) r → NamesFault (rows_from 0 n rows) r
    unfolding rows_from
    here r l h =
        let e : suc (n - (i + 1)) ≡ n - i = omega arith in
        turn r (subst (λ (k : ℕ). NamesFault (rows_from i k rows) r) e h)

    pub turn_stop : {r : Fault} → i < n → NamesFault (rows i) r → eqb r.table 0 ≡ false → NamesFault (rows_from 0 n rows) r
    turn_stop {r} l h z = here r l (names_stop (rows i) (rows_from (suc i) (n - (i + 1)) rows) h z)

    pub turn_on : {a : Fault} → i < n → NamesFault (rows i) a → eqb a.table 0 ≡ true → Turn rows n (i + 1)
    turn_on l h z r m =
        here r l (names-go (rows i) (rows_from (suc i) (n - (i + 1)) rows) h z
        (subst (λ (k : ℕ). NamesFault (rows_from k (n - (i + 1)) rows) r) (add-one i) m))

    pub turn_end : {r : Fault} → n ≤ i → r ≡ no_fault → NamesFault (rows_from 0 n rows) r
    unfolding rows_from
    turn_end {r} l e =
        let z : 0 ≡ n - i = omega arith in turn r (subst (λ (k : ℕ). NamesFault (rows_from i k rows) r) z (names-none e))

-- ---- a table
module _ (table most n : ℕ) (rows : ℕ → List Check) {r : Fault} where
  pub names-many : eqb table 0 ≡ false → most < n → r ≡ fault_at table 0 1 → NamesFault (table_checks table most n rows) r
  unfolding table_checks
  names-many z h e = names-fails (check table 0 1 (leb n most)) (rows_from 0 n rows) (lt-leb n most h) z e

  pub names-rows : n ≤ most → NamesFault (rows_from 0 n rows) r → NamesFault (table_checks table most n rows) r
  unfolding table_checks
  names-rows h m = names_on (check table 0 1 (leb n most)) (rows_from 0 n rows) (le-leb n most h) m
