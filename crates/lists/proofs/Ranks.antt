-- The entry of the highest rank decides as the rule says, and how a loop finds it.
--     cons_above, cons_same, cons_below    those with the longest prefix, with one entry more
--     decision_is                          the decision is that of the highest rank, for any entries
--     turn_other, turn_raise, turn_low     one turn of the search for it
--     above_lt, above_less                 the order that is derived for ranks is that of is_above
-- Assumes nothing.
use Prim.Native.Nat.{ℕ, zero, suc, ◌+◌, ◌≤◌, ◌<◌, max}
use mathlib.Core.Path.{◌≡◌, refl, sym, ap, ap₂, ◌∙◌}
use mathlib.Core.Bool.{Bool, true, false, cond, ◌||◌, or-true, false≢true}
use mathlib.Core.List.{List, [], ◌∷◌}
use lib.Dec.{eqb, leb, ltb}
use native.Mathlib.Omega.{arith}
use native.Mathlib.Numerals.{add-one}
use borrow.Author.Tests.{eqb-true, eqb-false, eq-eqb, ne_eqb, leb-true, leb-false, ltb-true, ltb-false, le-ltb, lt-ltb}
use Rattle.std.specs.Prelude.{Some, None}
use Rattle.std.specs.declared.cmp.Ordering.{Ordering}
use Rattle.std.specs.declared.cmp.Ordering.TheVariants.{Less, Equal, Greater}
use Rattle.std.specs.Ordering.{is_lt, nat_cmp, ordering_then, MatchOrdering, is_some_and, partial_lt}
use Rattle.std.specs.Cmp.{ranks}
use Rattle.octets.proofs.Tests.{false_by}
use Rattle.flows.specs.declared.Flow.{Flow}
use Rattle.lists.specs.Lists.{entry_at, entry_matches, matching, group_length, source_length, longest, of_length, with_longest, most_specific, has, by_priority, decision}
use Rattle.lists.specs.Ranks.{strength_of, rank_of, is_above, highest, decision_of}
use Rattle.lists.specs.declared.Entry.{Entry}
use Rattle.lists.specs.declared.Rank.{Rank}
use Rattle.lists.specs.declared.Colour.TheVariants.{Black, Grey, White}
use Rattle.lists.specs.contracts.RankOrd.TheImpl.{ghosts as ranked}
use Rattle.lists.specs.contracts.RankOrd.TheImpl.Laws.{matches_partial_cmp-law}
use Rattle.lists.specs.contracts.RankPartialOrd.TheImpl.{ghosts as partly}

-- ---- those with the longest prefix, with one entry more
module _ (length : Entry → ℕ) where
  none-longer : (n : ℕ) (es : List Entry) → longest length es < n → of_length length n es ≡ []
  unfolding longest of_length
  none-longer n [] h = refl
  none-longer n (e ∷ es) h = rw (ne_eqb (length e) n (λ k. omega arith)) (none-longer n es (omega arith))

  module _ (e : Entry) (es : List Entry) where
    cons_above : longest length es < length e → with_longest length (e ∷ es) ≡ e ∷ []
    unfolding longest of_length with_longest
    cons_above h =
        let k : max (length e) (longest length es) ≡ length e = omega arith in
        let m : longest length (e ∷ es) ≡ length e = k in
        rw (m, eq-eqb (length e) (length e) refl) (ap (λ (n : ℕ). e ∷ of_length length n es) m ∙ ap (λ (r : List Entry). e ∷ r) (none-longer (length e) es h))

    cons_same : length e ≡ longest length es → with_longest length (e ∷ es) ≡ e ∷ with_longest length es
    unfolding longest of_length with_longest
    cons_same h =
        let k : max (length e) (longest length es) ≡ longest length es = omega arith in
        let m : longest length (e ∷ es) ≡ longest length es = k in
        rw (m, eq-eqb (length e) (longest length es) h) (ap (λ (n : ℕ). e ∷ of_length length n es) m)

    cons_below : length e < longest length es → with_longest length (e ∷ es) ≡ with_longest length es
    unfolding longest of_length with_longest
    cons_below h =
        let k : max (length e) (longest length es) ≡ longest length es = omega arith in
        let m : longest length (e ∷ es) ≡ longest length es = k in
        rw (m, ne_eqb (length e) (longest length es) (λ j. omega arith)) (ap (λ (n : ℕ). of_length length n es) m)

  alone : (e : Entry) → with_longest length (e ∷ []) ≡ e ∷ []
  unfolding longest of_length with_longest
  alone e = let m : max (length e) 0 ≡ length e = omega arith in rw (m, eq-eqb (length e) (length e) refl) refl

-- ---- strengths
-- the highest strength of some entries
unfoldable strongest : List Entry → ℕ
strongest [] = 0
strongest (e ∷ es) = max (strength_of e.list) (strongest es)

strength_lt : (l : ℕ) → strength_of l < 4
unfolding strength_of
strength_lt l = go (eqb l 2) (eqb l 3) (eqb l 1)
  where
    go : (x y z : Bool) → cond x 3 (cond y 2 (cond z 1 0)) < 4
    go true y z = omega arith
    go false true z = omega arith
    go false false true = omega arith
    go false false false = omega arith

black : strength_of 2 ≡ 3
unfolding strength_of
black = refl

grey : strength_of 3 ≡ 2
unfolding strength_of
grey = refl

white : strength_of 1 ≡ 1
unfolding strength_of
white = refl

-- the list of a strength
abbrev list_of : ℕ → ℕ
list_of s = cond (eqb s 3) 2 (cond (eqb s 2) 3 1)

list_of_lem : (l s : ℕ) → 0 < s → strength_of l ≡ s → l ≡ list_of s
unfolding strength_of
list_of_lem l s h e = go (eqb l 2) (eqb l 3) (eqb l 1) refl refl refl e
  where
    go : (x y z : Bool) → eqb l 2 ≡ x → eqb l 3 ≡ y → eqb l 1 ≡ z → cond x 3 (cond y 2 (cond z 1 0)) ≡ s → l ≡ list_of s
    go true y z p q r e = eqb-true l 2 p ∙ ap list_of e
    go false true z p q r e = eqb-true l 3 q ∙ ap list_of e
    go false false true p q r e = eqb-true l 1 r ∙ ap list_of e
    go false false false p q r e = absurd (omega arith)

strongest_lt : (es : List Entry) → strongest es < 4
unfolding strongest
strongest_lt [] = omega arith
strongest_lt (e ∷ es) = omega (arith, strength_lt e.list, strongest_lt es)

-- an entry's list is no stronger than the strongest
has_under : (list : ℕ) (es : List Entry) → has list es ≡ true → strength_of list ≤ strongest es
unfolding has strongest
has_under list [] h = absurd (false≢true h)
has_under list (e ∷ es) h = go (eqb e.list list) refl h (λ k. has_under list es k)
  where
    go : (x : Bool) → eqb e.list list ≡ x → (x || has list es) ≡ true → (has list es ≡ true → strength_of list ≤ strongest es)
        → strength_of list ≤ max (strength_of e.list) (strongest es)
    go true p h ih = let b = ap strength_of (eqb-true e.list list p) in omega arith
    go false p h ih = let k = ih h in omega arith

-- and one is as strong
has-strongest : (s : ℕ) (es : List Entry) → 0 < s → strongest es ≡ s → has (list_of s) es ≡ true
unfolding has strongest
has-strongest s [] p h = absurd (omega arith)
has-strongest s (e ∷ es) p h = go (leb (strongest es) (strength_of e.list)) refl (λ k. has-strongest s es p k)
  where
    go : (t : Bool) → leb (strongest es) (strength_of e.list) ≡ t → (strongest es ≡ s → has (list_of s) es ≡ true)
        → (eqb e.list (list_of s) || has (list_of s) es) ≡ true
    go true t ih =
        let k = leb-true (strongest es) (strength_of e.list) t in
        let b : strength_of e.list ≡ s = omega arith in
        simp (eq-eqb e.list (list_of s) (list_of_lem e.list s p b))
    go false t ih =
        let k = leb-false (strongest es) (strength_of e.list) t in
        simp (ih (omega arith)) (or-true (eqb e.list (list_of s)))

none : (s : ℕ) → s < 4 → eqb s 3 ≡ false → eqb s 2 ≡ false → eqb s 1 ≡ false → s ≡ 0
none zero h p q r = refl
none (suc zero) h p q r = absurd (false≢true (sym r))
none (suc (suc zero)) h p q r = absurd (false≢true (sym q))
none (suc (suc (suc zero))) h p q r = absurd (false≢true (sym p))
none (suc (suc (suc (suc s)))) h p q r = absurd (omega arith)

-- the strongest decides: black goes before grey, grey before white
module _ (es : List Entry) where
  has-not : (l k : ℕ) → strength_of l ≡ k → strongest es < k → has l es ≡ false
  has-not l k e h = sym (false_by (has l es) (λ t. omega (arith, has_under l es t)))

  priority_is : decision_of (strongest es) ≡ by_priority es
  unfolding by_priority decision_of
  priority_is = go (eqb (strongest es) 3) (eqb (strongest es) 2) (eqb (strongest es) 1) refl refl refl
    where
      go : (x y z : Bool) → eqb (strongest es) 3 ≡ x → eqb (strongest es) 2 ≡ y → eqb (strongest es) 1 ≡ z
          → cond x (Some Black) (cond y (Some Grey) (cond z (Some White) None)) ≡ cond (has 2 es) (Some Black) (cond (has 3 es) (Some Grey) (cond (has 1 es) (Some White) None))
      go true y z p q r = simp (has-strongest 3 es (omega arith) (eqb-true (strongest es) 3 p))
      go false true z p q r =
          let e = eqb-true (strongest es) 2 q in
          simp (has-not 2 3 black (omega arith), has-strongest 2 es (omega arith) e)
      go false false true p q r =
          let e = eqb-true (strongest es) 1 r in
          simp (has-not 2 3 black (omega arith), has-not 3 2 grey (omega arith), has-strongest 1 es (omega arith) e)
      go false false false p q r =
          let n = none (strongest es) (strongest_lt es) p q r in
          simp (has-not 2 3 black (omega arith), has-not 3 2 grey (omega arith), has-not 1 1 white (omega arith))

-- ---- the highest rank
-- what it has of the entries
record Tops (es : List Entry) (r : Rank) : Type 0 where
  group : r.group_length ≡ longest group_length es
  source : r.source_length ≡ longest source_length (with_longest group_length es)
  strength : r.strength ≡ strongest (most_specific es)

-- one entry more: those of the longest group prefix are then gs, and of these ms have the longest source prefix
tops-by : (e : Entry) (es gs ms : List Entry) (x : Rank) → with_longest group_length (e ∷ es) ≡ gs → with_longest source_length gs ≡ ms
    → x.group_length ≡ max (group_length e) (longest group_length es) → x.source_length ≡ longest source_length gs → x.strength ≡ strongest ms
    → Tops (e ∷ es) x
unfolding longest most_specific
tops-by e es gs ms x eg em a b c =
    record {
      group = a;
      source = b ∙ ap (longest source_length) (sym eg);
      strength = c ∙ ap strongest (sym em ∙ ap (with_longest source_length) (sym eg));
    }

-- it is compared with the highest so far: by group, by source, by list
module _ (e : Entry) (es : List Entry) (r : Rank) (h : Tops es r) where
  abbrev gs : List Entry
  gs = with_longest group_length es

  abbrev ms : List Entry
  ms = most_specific es

  abbrev higher : Bool → Rank
  higher b = cond b (rank_of e) r

  by_strength : group_length e ≡ r.group_length → source_length e ≡ r.source_length → (b : Bool) → ltb r.strength (strength_of e.list) ≡ b
      → Tops (e ∷ es) (higher b)
  unfolding rank_of longest strongest most_specific
  by_strength p q true t =
      let k = ltb-true r.strength (strength_of e.list) t in
      tops-by e es (e ∷ gs) (e ∷ ms) _ (cons_same group_length e es (p ∙ h.group)) (cons_same source_length e gs (q ∙ h.source))
      (omega (arith, h.group)) (omega (arith, h.source)) (omega (arith, h.strength))
  by_strength p q false t =
      let k = ltb-false r.strength (strength_of e.list) t in
      tops-by e es (e ∷ gs) (e ∷ ms) _ (cons_same group_length e es (p ∙ h.group)) (cons_same source_length e gs (q ∙ h.source))
      (omega (arith, h.group)) (omega (arith, h.source)) (omega (arith, h.strength))

  by-source : group_length e ≡ r.group_length → (source_length e ≡ r.source_length → ⊥) → (b : Bool) → ltb r.source_length (source_length e) ≡ b
      → Tops (e ∷ es) (higher b)
  unfolding rank_of longest strongest most_specific
  by-source p q true t =
      let k = ltb-true r.source_length (source_length e) t in
      tops-by e es (e ∷ gs) (e ∷ []) _ (cons_same group_length e es (p ∙ h.group)) (cons_above source_length e gs (omega (arith, h.source)))
      (omega (arith, h.group)) (omega (arith, h.source)) (omega arith)
  by-source p q false t =
      let k = ltb-false r.source_length (source_length e) t in
      tops-by e es (e ∷ gs) ms _ (cons_same group_length e es (p ∙ h.group)) (cons_below source_length e gs (omega (arith, h.source)))
      (omega (arith, h.group)) (omega (arith, h.source)) h.strength

  by-group : (group_length e ≡ r.group_length → ⊥) → (b : Bool) → ltb r.group_length (group_length e) ≡ b → Tops (e ∷ es) (higher b)
  unfolding rank_of longest strongest most_specific
  by-group p true t =
      let k = ltb-true r.group_length (group_length e) t in
      tops-by e es (e ∷ []) (e ∷ []) _ (cons_above group_length e es (omega (arith, h.group))) (alone source_length e)
      (omega (arith, h.group)) (omega arith) (omega arith)
  by-group p false t =
      let k = ltb-false r.group_length (group_length e) t in
      tops-by e es gs ms _ (cons_below group_length e es (omega (arith, h.group))) refl
      (omega (arith, h.group)) h.source h.strength

  one_more : Tops (e ∷ es) (cond (is_above (rank_of e) r) (rank_of e) r)
  unfolding rank_of is_above
  one_more = go (eqb (group_length e) r.group_length) (eqb (source_length e) r.source_length) refl refl
    where
      go : (x y : Bool) → eqb (group_length e) r.group_length ≡ x → eqb (source_length e) r.source_length ≡ y
          → Tops (e ∷ es) (higher (cond x (cond y (ltb r.strength (strength_of e.list)) (ltb r.source_length (source_length e))) (ltb r.group_length (group_length e))))
      go true true p q = by_strength (eqb-true _ _ p) (eqb-true _ _ q) _ refl
      go true false p q = by-source (eqb-true _ _ p) (eqb-false _ _ q) _ refl
      go false y p q = by-group (eqb-false _ _ p) _ refl

tops : (es : List Entry) → Tops es (highest es)
unfolding highest longest of_length with_longest most_specific strongest
tops [] = record { group = refl; source = refl; strength = refl }
tops (e ∷ es) = one_more e es (highest es) (tops es)

-- THE LAW: the highest rank decides as the sentence says, for any entries
pub decision_is : (es : List Entry) → decision_of (highest es).strength ≡ decision es
unfolding decision
decision_is es = ap decision_of (tops es).strength ∙ priority_is (most_specific es)

-- ---- the order that is derived for ranks
abbrev pub rank_cmp : Rank → Rank → Ordering
rank_cmp = ranked.cmp

then_lt : (x y : ℕ) (o : Ordering) → is_lt (ordering_then (nat_cmp x y) o) ≡ cond (eqb y x) (is_lt o) (ltb x y)
then_lt x y o = go (nat_cmp x y) (ranks x y)
  where
    go : (r : Ordering) → MatchOrdering r (x < y) (x ≡ y) (y < x) → is_lt (ordering_then r o) ≡ cond (eqb y x) (is_lt o) (ltb x y)
    go Less h = simp (ne_eqb y x (λ (e : y ≡ x). omega arith), lt-ltb x y h)
    go Equal h = simp (eq-eqb y x (sym h))
    go Greater h = simp (ne_eqb y x (λ (e : y ≡ x). omega arith), le-ltb x y (omega arith))

cmp_lt : (x y : ℕ) → is_lt (nat_cmp x y) ≡ ltb x y
cmp_lt x y = go (nat_cmp x y) (ranks x y)
  where
    go : (r : Ordering) → MatchOrdering r (x < y) (x ≡ y) (y < x) → is_lt r ≡ ltb x y
    go Less h = sym (lt-ltb x y h)
    go Equal h = sym (le-ltb x y (omega arith))
    go Greater h = sym (le-ltb x y (omega arith))

above_lt : (a b : Rank) → is_lt (rank_cmp b a) ≡ is_above a b
unfolding is_above
above_lt a b =
    then_lt b.group_length a.group_length _
    ∙ ap (λ (t : Bool). cond (eqb a.group_length b.group_length) t (ltb b.group_length a.group_length))
    (then_lt b.source_length a.source_length _
    ∙ ap (λ (t : Bool). cond (eqb a.source_length b.source_length) t (ltb b.source_length a.source_length)) (cmp_lt b.strength a.strength))

-- what `b < a` tests
pub above_less : (a b : Rank) → partial_lt partly.partial_cmp b a ≡ is_above a b
above_less a b = ap (is_some_and is_lt) (matches_partial_cmp-law b a) ∙ above_lt a b

-- ---- a loop that has passed the entries before i
module _ (t : List ℕ) (f : Flow) (i : ℕ) (best : Rank) (inv : best ≡ highest (matching t f i)) where
  pub turn_other : entry_matches (entry_at t i) f ≡ false → best ≡ highest (matching t f (i + 1))
  unfolding matching
  turn_other m = rw (add-one, m) inv

  module _ (m : entry_matches (entry_at t i) f ≡ true) (e : Entry) (r : Rank) (he : e ≡ entry_at t i) (hr : r ≡ rank_of e) where
    turn_match : {b : Bool} → is_above r best ≡ b → cond b r best ≡ highest (matching t f (i + 1))
    unfolding matching highest
    turn_match {b} a =
        let is : r ≡ rank_of (entry_at t i) = hr ∙ ap rank_of he in
        rw (add-one, m) (ap (λ (c : Bool). cond c r best) (sym a) ∙ ap₂ (λ (x y : Rank). cond (is_above x y) x y) is inv)

    pub turn_raise : is_above r best ≡ true → r ≡ highest (matching t f (i + 1))
    turn_raise a = turn_match a

    pub turn_low : is_above r best ≡ false → best ≡ highest (matching t f (i + 1))
    turn_low a = turn_match a
