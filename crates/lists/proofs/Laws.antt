-- What follows from the rule (specs/Laws.antt).
--     laws     the statements
-- Assumes nothing.
use Prim.Native.Nat.{ℕ, zero, suc, ◌≤◌, min}
use mathlib.Core.Path.{◌≡◌, refl, sym, ap, ◌∙◌}
use mathlib.Core.Logic.{inl, inr, ⊎_elim}
use mathlib.Core.Bool.{Bool, true, false, cond, ◌||◌, or-true, false≢true}
use mathlib.Core.List.{List, [], ◌∷◌}
use lib.Dec.{eqb}
use native.Mathlib.Omega.{arith}
use borrow.Author.Tests.{eqb-true, eq-eqb}
use Rattle.octets.specs.Members.{Among}
use Rattle.octets.proofs.Tests.{each, same_by, taken}
use Rattle.flows.specs.declared.Flow.{Flow}
use Rattle.lists.specs.Prefix.{prefix_matches}
use Rattle.lists.specs.Lists.{entry_at, entry_matches, matching, group_length, source_length, longest, of_length, with_longest, most_specific, has, by_priority, decision, list_decision}
use Rattle.lists.specs.Laws.{of_longest_group, group_decision, EachFrom, Laws}
use Rattle.lists.specs.declared.Entry.{Entry}

-- ---- entries as such, wherever they stand
abbrev Within : List Entry → List Entry → Type 0
Within es fs = (e : Entry) → Among e es → Among e fs

rest_within : (e : Entry) (es fs : List Entry) → Within (e ∷ es) fs → Within es fs
unfolding Among
rest_within e es fs w x a = w x (inr a)

module _ (length : Entry → ℕ) where
  among_le : (e : Entry) (es : List Entry) → Among e es → length e ≤ longest length es
  unfolding Among longest
  among_le e [] a = absurd a
  among_le e (x ∷ es) a = ⊎_elim (λ (p : e ≡ x). omega (arith, ap length p)) (λ (b : Among e es). omega (arith, among_le e es b)) a

  longest_under : (m : ℕ) (es : List Entry) → ((e : Entry) → Among e es → length e ≤ m) → longest length es ≤ m
  unfolding Among longest
  longest_under m [] h = omega arith
  longest_under m (e ∷ es) h = omega (arith, h e (inl refl), longest_under m es (λ x a. h x (inr a)))

  longest_le : (es fs : List Entry) → Within es fs → longest length es ≤ longest length fs
  longest_le es fs w = longest_under (longest length fs) es (λ e a. among_le e fs (w e a))

  of_length_in : (e : Entry) (n : ℕ) (es : List Entry) → Among e (of_length length n es) → Among e es × (length e ≡ n)
  unfolding Among of_length
  of_length_in e n [] a = absurd a
  of_length_in e n (x ∷ es) a = go (eqb (length x) n) refl a (λ b. of_length_in e n es b)
    where
      go : (t : Bool) → eqb (length x) n ≡ t → Among e (cond t (x ∷ of_length length n es) (of_length length n es))
          → (Among e (of_length length n es) → Among e es × (length e ≡ n)) → Among e (x ∷ es) × (length e ≡ n)
      go true q a ih = ⊎_elim (λ (p : e ≡ x). (inl p, ap length p ∙ eqb-true (length x) n q)) (λ (b : Among e (of_length length n es)). (inr (ih b).0, (ih b).1)) a
      go false q a ih = (inr (ih a).0, (ih a).1)

  of_length_out : (e : Entry) (n : ℕ) (es : List Entry) → Among e es → length e ≡ n → Among e (of_length length n es)
  unfolding Among of_length
  of_length_out e n [] a l = a
  of_length_out e n (x ∷ es) a l = go (eqb (length x) n) refl a (λ b. of_length_out e n es b l)
    where
      go : (t : Bool) → eqb (length x) n ≡ t → Among e (x ∷ es) → (Among e es → Among e (of_length length n es))
          → Among e (cond t (x ∷ of_length length n es) (of_length length n es))
      go true q a ih = ⊎_elim (λ (p : e ≡ x). inl p) (λ (b : Among e es). inr (ih b)) a
      go false q a ih = ⊎_elim (λ (p : e ≡ x). absurd (false≢true (sym q ∙ eq-eqb (length x) n (sym (ap length p) ∙ l)))) ih a

  longest_within : (es fs : List Entry) → Within es fs → Within fs es → Within (with_longest length es) (with_longest length fs)
  unfolding with_longest
  longest_within es fs w v e a =
      let i = of_length_in e (longest length es) es a in
      let same : longest length es ≡ longest length fs = omega (arith, longest_le es fs w, longest_le fs es v) in
      of_length_out e (longest length fs) fs (w e i.0) (i.1 ∙ same)

has_among : (e : Entry) (list : ℕ) (es : List Entry) → Among e es → e.list ≡ list → has list es ≡ true
unfolding Among has
has_among e list [] a l = absurd a
has_among e list (x ∷ es) a l =
    ⊎_elim (λ (p : e ≡ x). simp (eq-eqb x.list list (sym (ap (λ (y : Entry). y.list) p) ∙ l)))
    (λ (b : Among e es). simp (has_among e list es b l) (or-true (eqb x.list list))) a

has_within : (list : ℕ) (es fs : List Entry) → Within es fs → has list es ≡ true → has list fs ≡ true
unfolding Among has
has_within list [] fs w h = absurd (false≢true h)
has_within list (e ∷ es) fs w h = go (has_within list es fs (rest_within e es fs w)) (eqb e.list list) refl h
  where
    go : (has list es ≡ true → has list fs ≡ true) → (t : Bool) → eqb e.list list ≡ t → (t || has list es) ≡ true → has list fs ≡ true
    go ih true q k = has_among e list fs (w e (inl refl)) (eqb-true e.list list q)
    go ih false q k = ih k

priority_same : (es fs : List Entry) → Within es fs → Within fs es → by_priority es ≡ by_priority fs
unfolding by_priority
priority_same es fs w v =
    let same : (l : ℕ) → has l es ≡ has l fs = λ l. same_by _ _ (has_within l es fs w) (has_within l fs es v) in
    rw (same 2, same 3, same 1)

any_rows : (es fs : List Entry) → Within es fs → Within fs es → decision es ≡ decision fs
unfolding decision most_specific
any_rows es fs w v =
    let gw = longest_within group_length es fs w v in
    let gv = longest_within group_length fs es v w in
    priority_same _ _ (longest_within source_length _ _ gw gv) (longest_within source_length _ _ gv gw)

-- ---- entries of one source length: all of them have the longest
one-length : (t : List ℕ) (n : ℕ) (f : Flow) (s : ℕ) → EachFrom s (of_longest_group t n f) → list_decision t n f ≡ group_decision t n f
unfolding list_decision decision most_specific group_decision of_longest_group with_longest
one-length t n f s h =
    let gs = of_longest_group t n f in
    priority_same _ gs (λ e a. (of_length_in source_length e _ gs a).0)
    (λ e a. of_length_out source_length e _ gs a (omega (arith, h e a, among_le source_length e gs a, longest_under source_length s gs (λ x b. omega (arith, h x b)))))

-- ---- a flow without a source is matched by source length 0 alone
module _ (f : Flow) (z : f.sourced ≡ 0) where
  from_nowhere : (e : Entry) → entry_matches e f ≡ true → source_length e ≡ 0
  unfolding entry_matches
  from_nowhere e m =
      let last = (each (eqb e.family f.family ∷ prefix_matches e.group_length e.group f.group
      ∷ cond (eqb f.sourced 0) (eqb e.source_length 0) (prefix_matches e.source_length e.source f.source) ∷ []) m).1.1.0 in
      eqb-true e.source_length 0 (taken (eqb f.sourced 0) (eqb e.source_length 0) _ (eq-eqb f.sourced 0 z) ∙ last)

  all_matching : (t : List ℕ) (n : ℕ) → EachFrom 0 (matching t f n)
  unfolding matching Among
  all_matching t zero e a = absurd a
  all_matching t (suc n) e a = go (all_matching t n e) (entry_matches (entry_at t n) f) refl a
    where
      go : (Among e (matching t f n) → source_length e ≡ 0) → (b : Bool) → entry_matches (entry_at t n) f ≡ b
          → Among e (cond b (entry_at t n ∷ matching t f n) (matching t f n)) → source_length e ≡ 0
      go rest true m a = ⊎_elim (λ (p : e ≡ entry_at t n). ap source_length p ∙ from_nowhere (entry_at t n) m) rest a
      go rest false m a = rest a

pub laws : Laws
unfolding of_longest_group with_longest list_decision
laws =
    record {
      one-length = one-length;
      unsourced = λ t n f z. one-length t n f 0 (λ e a. all_matching f z t (min n 128) e (of_length_in group_length e _ _ a).0);
      any_rows = λ t t' n n' f w v. any_rows (matching t f (min n 128)) (matching t' f (min n' 128)) w v;
    }
