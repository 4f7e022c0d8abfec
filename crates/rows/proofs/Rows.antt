-- Searching the rows of a table, and testing all of them, for any test.
--     first-start, first-here, first_on, first_end    the beginning of a search, one turn, and its end
--     found_at, found_none, found_is    a row that is found passes and is the first; where nothing is found none passes
--     all_at, all_by, all_off           all rows pass: each does
--     none-at, nothing-none             none passes: each fails, and a search finds nothing
--     alone                             where each row is none of those before it, rows that are the same are one row
--     rows-many, rows-off, rows-by, rows_at     a table of at most so many rows, each of which passes
-- Assumes nothing.
use Rattle.std.specs.Prelude.{is_none, Option, Some, None, is_some}
use Prim.Native.Nat.{ℕ, zero, suc, ◌+◌, ◌-◌, ◌≤◌, ◌<◌}
use mathlib.Core.Path.{◌≡◌, refl, sym, ap, ap₂, ◌∙◌}
use mathlib.Core.Logic.{⊎_elim}
use mathlib.Core.Bool.{Bool, true, false, cond, not, ◌&&◌, false≢true}
use native.Mathlib.Numerals.{add-one}
use native.Mathlib.Nat.{eq-or-lt_of_le, le_of_suc-le-suc}
use native.Mathlib.Omega.{arith}
use mathlib.Core.List.{[], ◌∷◌}
use lib.Dec.{leb, ltb}
use borrow.Author.Tests.{not-true, ltb-true, ltb-false, le-leb, lt-leb, leb-true, leb-false}
use Rattle.octets.specs.Tests.{every}
use Rattle.octets.proofs.Tests.{both, each, every-by, false_by}
use Rattle.rows.specs.Rows.{first_from, first_row, all_of, none_of, rows_ok}

-- ---- a search that has passed the rows before i
module _ (test : ℕ → Bool) (i n : ℕ) {r : Option ℕ} (inv : r ≡ first_from i (n - i) test) where
  pub first-here : i < n → test i ≡ true → Some i ≡ r
  unfolding first_from
  first-here h t = let e : n - i ≡ suc (n - (i + 1)) = omega arith in sym (inv ∙ ap (λ (k : ℕ). first_from i k test) e ∙ simp t)

  pub first_on : i < n → test i ≡ false → r ≡ first_from (i + 1) (n - (i + 1)) test
  unfolding first_from
  first_on h t = let e : n - i ≡ suc (n - (i + 1)) = omega arith in inv ∙ ap (λ (k : ℕ). first_from i k test) e ∙ simp (t, add-one)

  pub first_end : n ≤ i → None ≡ r
  unfolding first_from
  first_end h = let e : n - i ≡ 0 = omega arith in sym (inv ∙ ap (λ (k : ℕ). first_from i k test) e)

-- it begins with none passed, where r rows are to be searched
pub first-start : (test : ℕ → Bool) {r n : ℕ} → r ≡ n → first_row n test ≡ first_from 0 (r - 0) test
unfolding first_row
first-start test {r} e = let z : r ≡ r - 0 = omega arith in ap (λ (k : ℕ). first_from 0 k test) (sym e ∙ z)

-- ---- what is found
which : {C : Type 0} (i j : ℕ) → (i < j → C) → (i ≡ j → C) → (j < i → C) → C
which {C} i j f g h = go (ltb i j) refl
  where
    go : (b : Bool) → ltb i j ≡ b → C
    go true e = f (ltb-true i j e)
    go false e = ⊎_elim (λ (s : j ≡ i). g (sym s)) h (eq-or-lt_of_le (ltb-false i j e))

pub record FoundAt (n : ℕ) (test : ℕ → Bool) (k : ℕ) : Type 0 where
  pub below : k < n
  pub passes : test k ≡ true
  pub first : (j : ℕ) → j < k → test j ≡ false

at_eq : (i k : ℕ) → Some i ≡ Some k → i ≡ k
at_eq i k e = cc

at_none : (k : ℕ) → Some k ≡ None → ⊥
at_none k e = let z : ◌≡◌ {A = ℕ} 0 1 = cc in omega arith

module _ (test : ℕ → Bool) where
  -- of the n rows from i on
  abbrev From : ℕ → ℕ → ℕ → Type 0
  From i n k = (i ≤ k) × (k < i + n) × (test k ≡ true) × ((j : ℕ) → i ≤ j → j < k → test j ≡ false)

  from_at : (i n k : ℕ) → first_from i n test ≡ Some k → From i n k
  unfolding first_from
  from_at i zero k e = absurd (at_none k (sym e))
  from_at i (suc n) k e = go (test i) refl e (λ h. from_at (suc i) n k h)
    where
      go : (b : Bool) → test i ≡ b → cond b (Some i) (first_from (suc i) n test) ≡ Some k → (first_from (suc i) n test ≡ Some k → From (suc i) n k) → From i (suc n) k
      go true t e ih =
          let same : i ≡ k = at_eq i k e in
          (omega arith, omega arith, ap test (sym same) ∙ t, λ j p q. absurd (omega arith))
      go false t e ih =
          let f = ih e in
          (omega arith, omega arith, f.2, λ j p q. ⊎_elim (λ (s : i ≡ j). ap test (sym s) ∙ t) (λ (l : i < j). f.3 j l q) (eq-or-lt_of_le p))

  from_none : (i n : ℕ) → first_from i n test ≡ None → (j : ℕ) → i ≤ j → j < i + n → test j ≡ false
  unfolding first_from
  from_none i zero e j p q = absurd (omega arith)
  from_none i (suc n) e j p q = go (test i) refl e (λ h l. from_none (suc i) n h j l (omega arith))
    where
      go : (b : Bool) → test i ≡ b → cond b (Some i) (first_from (suc i) n test) ≡ None → (first_from (suc i) n test ≡ None → i < j → test j ≡ false) → test j ≡ false
      go true t e ih = absurd (at_none i e)
      go false t e ih = ⊎_elim (λ (s : i ≡ j). ap test (sym s) ∙ t) (λ (l : i < j). ih e l) (eq-or-lt_of_le p)

  module _ (n : ℕ) where
    pub found_at : {k : ℕ} → first_row n test ≡ Some k → FoundAt n test k
    unfolding first_row
    found_at {k} e =
        let f = from_at 0 n k e in record { below = omega (arith, f.1); passes = f.2; first = λ j l. f.3 j (omega arith) l }

    pub found_none : first_row n test ≡ None → (j : ℕ) → j < n → test j ≡ false
    unfolding first_row
    found_none e j l = from_none 0 n e j (omega arith) (omega arith)

    -- a row that passes is found, or one before it
    pub found_some : (k : ℕ) → k < n → test k ≡ true → first_row n test ≡ None → ⊥
    found_some k l t e = false≢true (sym (found_none e k l) ∙ t)

    pub found_is : (k : ℕ) → FoundAt n test k → first_row n test ≡ Some k
    found_is k f = go (first_row n test) refl
      where
        go : (r : Option ℕ) → first_row n test ≡ r → first_row n test ≡ Some k
        go None e = absurd (found_some k f.below f.passes e)
        go (Some j) e =
            let g = found_at e in
            which j k
            (λ l. absurd (false≢true (sym (f.first j l) ∙ g.passes)))
            (λ s. e ∙ ap Some s)
            (λ l. absurd (false≢true (sym (g.first k l) ∙ f.passes)))

-- ---- all rows
pub all_at : (n : ℕ) (test : ℕ → Bool) → all_of n test ≡ true → (k : ℕ) → k < n → test k ≡ true
unfolding all_of
all_at zero test e k l = absurd (omega arith)
all_at (suc n) test e k l =
    let t = both (all_of n test) (test n) e in
    ⊎_elim (λ (s : k ≡ n). ap test s ∙ t.1) (λ (m : k < n). all_at n test t.0 k m) (eq-or-lt_of_le (le_of_suc-le-suc l))

pub all_by : (n : ℕ) (test : ℕ → Bool) → ((k : ℕ) → k < n → test k ≡ true) → all_of n test ≡ true
unfolding all_of
all_by zero test h = refl
all_by (suc n) test h = ap₂ ◌&&◌ (all_by n test (λ k l. h k (omega arith))) (h n (omega arith))

-- a row that fails
pub all_off : (n : ℕ) (test : ℕ → Bool) (i : ℕ) → i < n → test i ≡ false → false ≡ all_of n test
all_off n test i l t = false_by (all_of n test) (λ e. false≢true (sym t ∙ all_at n test e i l))

-- ---- none of the rows
pub none-at : (n : ℕ) (test : ℕ → Bool) → none_of n test ≡ true → (k : ℕ) → k < n → test k ≡ false
unfolding none_of
none-at n test e k l = not-true (test k) (all_at n (λ i. not (test i)) e k l)

-- a search finds nothing where none passes
-- the library's test that nothing is found, by what its contract says
pub none-is : (o : Option ℕ) (r : Bool) → is_some o ≡ not r → r ≡ is_none o
none-is o true e = ap not (sym e)
none-is o false e = ap not (sym e)

pub nothing-none : (n : ℕ) (test : ℕ → Bool) → is_none (first_row n test) ≡ none_of n test
unfolding none_of
nothing-none n test = go (first_row n test) refl
  where
    go : (r : Option ℕ) → first_row n test ≡ r → is_none r ≡ all_of n (λ i. not (test i))
    go None e = sym (all_by n (λ i. not (test i)) (λ k l. ap not (found_none test n e k l)))
    go (Some k) e = let f = found_at test n e in all_off n (λ i. not (test i)) k f.below (ap not f.passes)

-- where each row is none of those before it, rows that are the same are one row
pub alone : {A : Type 0} (row : ℕ → A) (same : A → A → Bool) → ((a : A) → same a a ≡ true) → (n : ℕ)
    → ((i : ℕ) → i < n → none_of i (λ j. same (row j) (row i)) ≡ true) → (i j : ℕ) → i < n → j < n → row i ≡ row j → i ≡ j
alone {A} row same self n h i j li lj e =
    which i j (λ l. absurd (differ i j l lj e)) (λ s. s) (λ l. absurd (differ j i l li (sym e)))
  where
    differ : (i j : ℕ) → i < j → j < n → row i ≡ row j → ⊥
    differ i j l m e = false≢true (sym (none-at j (λ k. same (row k) (row j)) (h j m) i l) ∙ ap (λ (a : A). same a (row j)) e ∙ self (row j))

-- ---- a table: too many rows, a row that fails, the end of the loop; and what a table that passes has
module _ (most n : ℕ) (test : ℕ → Bool) where
  pub rows-many : most < n → false ≡ rows_ok most n test
  unfolding rows_ok every
  rows-many h = simp (lt-leb n most h)

  pub rows-off : (i : ℕ) → i < n → test i ≡ false → false ≡ rows_ok most n test
  unfolding rows_ok
  rows-off i l t =
      false_by (rows_ok most n test) (λ e. false≢true (sym t ∙ all_at n test (each (leb n most ∷ all_of n test ∷ []) e).1.0 i l))

  -- a test of each row that stops at the first that fails
  pub rows-by : (r : Bool) → (r ≡ true → (n ≤ most) × ((i : ℕ) → i < n → true ≡ test i)) → (r ≡ false → n ≤ most → (i : ℕ) × (i < n) × (false ≡ test i))
      → r ≡ rows_ok most n test
  unfolding rows_ok
  rows-by true h f =
      let t = h refl in
      sym (every-by (leb n most ∷ all_of n test ∷ []) (le-leb n most t.0, (all_by n test (λ i l. sym (t.1 i l)), tt)))
  rows-by false h f = go (leb n most) refl
    where
      go : (b : Bool) → leb n most ≡ b → false ≡ rows_ok most n test
      go true e = let w = f refl (leb-true n most e) in rows-off w.0 w.1 (sym w.2)
      go false e = rows-many (leb-false n most e)

  pub rows_at : rows_ok most n test ≡ true → (n ≤ most) × ((i : ℕ) → i < n → test i ≡ true)
  unfolding rows_ok
  rows_at e =
      let t = each (leb n most ∷ all_of n test ∷ []) e in (leb-true n most t.0, λ i l. all_at n test t.1.0 i l)
