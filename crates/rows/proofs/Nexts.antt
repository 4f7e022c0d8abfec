-- From one row to the next that has a given word.
--     kept-over                         what each row of a stretch leaves as it is, the stretch does
--     next-stands, next-same            it has come to a row with the word or to the end; other words that are the same from `from` on
--     first-over                        a search for the first row that passes a test: over a stretch of rows that fail
-- Assumes nothing.
use Rattle.std.specs.Prelude.{Option}
use Prim.Native.Nat.{ℕ, zero, suc, ◌+◌, ◌-◌, ◌≤◌, ◌<◌}
use mathlib.Core.Path.{◌≡◌, refl, sym, ap, ◌∙◌}
use mathlib.Core.Bool.{Bool, false}
use mathlib.Core.Logic.{⊎_elim}
use native.Mathlib.Nat.{eq-or-lt_of_le, le_of_suc-le-suc}
use native.Mathlib.Numerals.{add-one}
use native.Mathlib.Omega.{arith}
use Rattle.rows.specs.Rows.{first_from, NextWith}
use Rattle.rows.proofs.Rows.{first_on}

pub kept-over : {A : Type 0} (g : ℕ → A) (a b : ℕ) → a ≤ b → ((i : ℕ) → a ≤ i → i < b → g i ≡ g (i + 1)) → g a ≡ g b
kept-over g a zero h e = let z : a ≡ 0 = omega arith in ap g z
kept-over g a (suc b) h e =
    ⊎_elim
    (λ (s : a ≡ suc b). ap g s)
    (λ (l : a < suc b). kept-over g a b (le_of_suc-le-suc l) (λ i m n. e i m (omega arith)) ∙ e b (le_of_suc-le-suc l) (omega arith) ∙ ap g (add-one b))
    (eq-or-lt_of_le h)

pub first-over : (test : ℕ → Bool) (i n j : ℕ) {r : Option ℕ} → r ≡ first_from i (n - i) test → i ≤ j → j ≤ n → ((k : ℕ) → i ≤ k → k < j → test k ≡ false) → r ≡ first_from j (n - j) test
first-over test i n j inv h l off =
    inv ∙ kept-over (λ (k : ℕ). first_from k (n - k) test) i j h (λ k a b. first_on test k n refl (omega arith) (off k a b))

-- ---- the next row that has a given word
module _ {word : ℕ → ℕ} {x n from r : ℕ} where
  pub next-stands : NextWith word x n from r → (r ≤ n) × (r < n → word r ≡ x)
  next-stands s = (s.most, s.has)

  pub next-same : {kept : ℕ → ℕ} → ((i : ℕ) → from ≤ i → i < n → kept i ≡ word i) → NextWith kept x n from r → NextWith word x n from r
  next-same e s = record {
    reached = s.reached;
    most = s.most;
    has = λ l. sym (e r s.reached l) ∙ s.has l;
    others = λ i l m z. s.others i l m (e i l (omega (arith, s.most)) ∙ z);
  }
