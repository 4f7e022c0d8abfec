-- A port's records as a list, which memchr's iterator gives, and one turn of a loop over it.
--     records_are, records-mine, records-length      the places of the port's number among the owners
--     records-sum, records-rows, records-first       sums, lists and searches over the port's records
--     turn-mine, turn-later, turn-sum, turn-first    a turn takes the first that is left
--     seen_first, seen_none                          a search from one record on
-- Assumes nothing.
use Rattle.std.proofs.Common.{◌≡◌, ℕ, zero, suc, ◌+◌, ◌-◌, ◌<◌, ◌≤◌, min, Bool, true, false, cond, ◌&&◌, eqb, Option, Some, None, List, [], ◌∷◌, ◌++◌, map, length, take, drop, get_or, All, refl, sym, ap, subst, ◌∙◌, arith}
use Rattle.std.proofs.lemmas.List.{append-nil, map-append, length-take, length-drop, get_or-take, get_or-drop}
use borrow.Author.Tests.{eqb-true, eq-eqb}
use Rattle.memchr.specs.Find.{is_byte, places_from, places_between, places, Passes, Nowhere, NoneBefore}
use Rattle.memchr.proofs.lemmas.PlaceLemmas.{places_from-append, places_between-first, places_between-none}
use Rattle.memchr.proofs.lemmas.CallerLemmas.{All-places}
use Rattle.rows.specs.Rows.{first_from, first_row}
use Rattle.sums.specs.Sums.{pick_to, sum_by}
use Rattle.sums.proofs.Picks.{sum_by_pick, length_pick}
use Rattle.pool.specs.Pool.{is_of, is_held, records_in, sum_over, count_in, rows_in, Next}

-- record i is port p's
abbrev pub Mine : List ℕ → ℕ → ℕ → Type 0
Mine owner p i = (i < 512) × (get_or owner i 0 ≡ p)

-- what a loop over the port's records has left is the port's
pub record Left (owner : List ℕ) (p : ℕ) (rest : List ℕ) : Type 0 where
  pub each : All (Mine owner p) rest

-- the first of a list that passes a test
pub first_of : (ℕ → Bool) → List ℕ → Option ℕ
first_of test [] = None
first_of test (i ∷ is) = cond (test i) (Some i) (first_of test is)

-- what was found first, or else what is found further on
or_on : Option ℕ → Option ℕ → Option ℕ
or_on (Some i) r = Some i
or_on None r = r

found_if : Bool → ℕ → Option ℕ
found_if b i = cond b (Some i) None

or_none : (r : Option ℕ) → or_on r None ≡ r
unfolding or_on
or_none (Some i) = refl
or_none None = refl

first_from-last : (test : ℕ → Bool) (n i : ℕ) → first_from i (suc n) test ≡ or_on (first_from i n test) (found_if (test (i + n)) (i + n))
unfolding first_from or_on found_if
first_from-last test zero i = let e : i ≡ i + 0 = omega arith in ap (λ (j : ℕ). found_if (test j) j) e
first_from-last test (suc n) i = go (test i) (first_from-last test n (suc i))
  where
    go : (b : Bool) → first_from (suc i) (suc n) test ≡ or_on (first_from (suc i) n test) (found_if (test (suc i + n)) (suc i + n))
        → cond b (Some i) (first_from (suc i) (suc n) test) ≡ or_on (cond b (Some i) (first_from (suc i) n test)) (found_if (test (i + suc n)) (i + suc n))
    go true e = refl
    go false e = let s : suc i + n ≡ i + suc n = omega arith in e ∙ ap (λ (j : ℕ). or_on (first_from (suc i) n test) (found_if (test j) j)) s

first_of-last : (test : ℕ → Bool) (is : List ℕ) (j : ℕ) → first_of test (is ++ (j ∷ [])) ≡ or_on (first_of test is) (found_if (test j) j)
unfolding first_of or_on found_if
first_of-last test [] j = refl
first_of-last test (i ∷ is) j = go (test i) (first_of-last test is j)
  where
    go : (b : Bool) → first_of test (is ++ (j ∷ [])) ≡ or_on (first_of test is) (found_if (test j) j)
        → cond b (Some i) (first_of test (is ++ (j ∷ []))) ≡ or_on (cond b (Some i) (first_of test is)) (found_if (test j) j)
    go true e = refl
    go false e = e

module _ (owner : List ℕ) (p : ℕ) where
  abbrev picked : ℕ → List ℕ
  picked n = pick_to n (is_of owner p) (λ i. i)

  pub places_are : (n : ℕ) → places_from (is_byte p) owner 0 n ≡ picked n
  unfolding places_from pick_to
  places_are zero = refl
  places_are (suc n) =
      let one : n + 1 ≡ suc n = omega arith in
      let here : 0 + n ≡ n = omega arith in
      ap (places_from (is_byte p) owner 0) (sym one) ∙ places_from-append (is_byte p) owner 0 n 1
      ∙ ap (λ (k : ℕ). places_from (is_byte p) owner 0 n ++ places_from (is_byte p) owner k 1) here
      ∙ go (is_of owner p n) (places_are n)
    where
      go : (b : Bool) → places_from (is_byte p) owner 0 n ≡ picked n → places_from (is_byte p) owner 0 n ++ cond b (n ∷ []) [] ≡ cond b (picked n ++ (n ∷ [])) (picked n)
      go true e = ap (λ (l : List ℕ). l ++ (n ∷ [])) e
      go false e = append-nil (places_from (is_byte p) owner 0 n) ∙ e

  pub records_are : length owner ≡ 512 → places (is_byte p) owner ≡ records_in owner p
  unfolding records_in
  records_are h =
      let n : length owner - 0 ≡ 512 = omega arith in
      ap (places_from (is_byte p) owner 0) n ∙ places_are 512

  all-mine : length owner ≡ 512 → All (Mine owner p) (records_in owner p)
  all-mine h k d l =
      let e = records_are h in
      let m = All-places (is_byte p) owner k d (omega (arith, ap length e)) in
      let r = subst (λ (is : List ℕ). (get_or is k d < length owner) × (eqb (get_or owner (get_or is k d) 0) p ≡ true)) e m in
      (omega (arith, r.0), eqb-true _ _ r.1)

  pub records-mine : length owner ≡ 512 → {rest : List ℕ} → rest ≡ records_in owner p → Left owner p rest
  records-mine h e = record { each = subst (All (Mine owner p)) (sym e) (all-mine h) }

  pub records-length : length (records_in owner p) ≡ count_in owner p
  unfolding records_in sum_over
  records-length = length_pick (is_of owner p) (λ i. i) 512

  pub records-sum : (f : ℕ → ℕ) → sum_by f (records_in owner p) ≡ sum_over owner p f
  unfolding records_in sum_over
  records-sum f = sum_by_pick (is_of owner p) (λ i. i) f 512

  module _ (channel : List ℕ) where
    picked-map : (n : ℕ) → map (λ i. get_or channel i 0) (picked n) ≡ pick_to n (is_of owner p) (λ i. get_or channel i 0)
    unfolding pick_to
    picked-map zero = refl
    picked-map (suc n) = go (is_of owner p n) (picked-map n)
      where
        go : (b : Bool) → map (λ i. get_or channel i 0) (picked n) ≡ pick_to n (is_of owner p) (λ i. get_or channel i 0)
            → map (λ i. get_or channel i 0) (cond b (picked n ++ (n ∷ [])) (picked n)) ≡ cond b (pick_to n (is_of owner p) (λ i. get_or channel i 0) ++ (get_or channel n 0 ∷ [])) (pick_to n (is_of owner p) (λ i. get_or channel i 0))
        go true e = map-append (λ i. get_or channel i 0) (picked n) (n ∷ []) ∙ ap (λ (l : List ℕ). l ++ (get_or channel n 0 ∷ [])) e
        go false e = e

    pub records-rows : map (λ i. get_or channel i 0) (records_in owner p) ≡ rows_in owner channel p
    unfolding records_in rows_in
    records-rows = picked-map 512

    module _ (k : ℕ) where
      abbrev of_channel : ℕ → Bool
      of_channel i = eqb (get_or channel i 0) k

      picked-first : (n : ℕ) → first_from 0 n (is_held owner channel p k) ≡ first_of of_channel (picked n)
      unfolding pick_to first_of first_from found_if
      picked-first zero = refl
      picked-first (suc n) =
          let e : 0 + n ≡ n = omega arith in
          first_from-last (is_held owner channel p k) n 0
          ∙ ap (λ (j : ℕ). or_on (first_from 0 n (is_held owner channel p k)) (found_if (is_held owner channel p k j) j)) e
          ∙ ap (λ (r : Option ℕ). or_on r (found_if (is_held owner channel p k n) n)) (picked-first n)
          ∙ go (is_of owner p n)
        where
          go : (b : Bool) → or_on (first_of of_channel (picked n)) (found_if (b && of_channel n) n) ≡ first_of of_channel (cond b (picked n ++ (n ∷ [])) (picked n))
          go true = sym (first_of-last of_channel (picked n) n)
          go false = or_none (first_of of_channel (picked n))

      pub records-first : first_row 512 (is_held owner channel p k) ≡ first_of of_channel (records_in owner p)
      unfolding records_in first_row
      records-first = picked-first 512

-- ---- one turn
module _ {rest next : List ℕ} {i : ℕ} (e : rest ≡ i ∷ next) where
  module _ {owner : List ℕ} {p : ℕ} (left : Left owner p rest) where
    pub turn-mine : Mine owner p i
    turn-mine = subst (All (Mine owner p)) e left.each 0 0 (omega arith)

    pub turn-later : Left owner p next
    turn-later = record { each = λ k d l. subst (All (Mine owner p)) e left.each (suc k) d (omega arith) }

  pub turn-sum : (f : ℕ → ℕ) → sum_by f rest ≡ f i + sum_by f next
  unfolding sum_by
  turn-sum f = ap (sum_by f) e

  pub turn-first : (test : ℕ → Bool) → first_of test rest ≡ cond (test i) (Some i) (first_of test next)
  unfolding first_of
  turn-first test = ap (first_of test) e

module _ {rest : List ℕ} (e : rest ≡ []) where
  pub end-sum : (f : ℕ → ℕ) → sum_by f rest ≡ 0
  unfolding sum_by
  end-sum f = ap (sum_by f) e

  pub end-first : (test : ℕ → Bool) → first_of test rest ≡ None
  unfolding first_of
  end-first test = ap (first_of test) e

-- ---- a search from one record on, of the n records from there on, or as many as there are
module _ (owner : List ℕ) (p from n : ℕ) (h : from ≤ 512) (size : length owner ≡ 512) where
  abbrev rest : List ℕ
  rest = take n (drop from owner)

  length-rest : length rest ≡ min n (512 - from)
  length-rest = length-take n (drop from owner) ∙ omega (arith, length-drop from owner)

  at-rest : (i : ℕ) → i < n → get_or rest i 0 ≡ get_or owner (from + i) 0
  at-rest i l = get_or-take n (drop from owner) i 0 l ∙ get_or-drop from owner i 0

  not-before : (i : ℕ) → i ≤ n → Nowhere (Passes (is_byte p) rest) 0 i → (j : ℕ) → from ≤ j → j < from + i → get_or owner j 0 ≡ p → ⊥
  not-before i l none j low high e =
      let at : from + (j - from) ≡ j = omega arith in
      none (j - from) (omega arith) (omega arith) (eq-eqb _ _ (at-rest (j - from) (omega arith) ∙ ap (λ (k : ℕ). get_or owner k 0) at ∙ e))

  pub seen_first : {i : ℕ} → NoneBefore (Passes (is_byte p) rest) 0 (length rest) i → Passes (is_byte p) rest i → Next owner p from (from + i)
  seen_first {i} b t =
      let l : i < min n (512 - from) = omega (arith, b.high, length-rest) in
      record { reached = omega arith; most = omega arith; has = λ m. sym (at-rest i (omega arith)) ∙ eqb-true _ _ t; others = not-before i (omega arith) b.before }

  pub seen_none : Nowhere (Passes (is_byte p) rest) 0 (length rest) → 512 ≤ from + n → Next owner p from 512
  seen_none none all =
      let every : from + (512 - from) ≡ 512 = omega arith in
      let e : length rest ≡ 512 - from = omega (arith, length-rest) in
      record {
        reached = h;
        most = omega arith;
        has = λ m. absurd (omega arith);
        others = λ j l m e'. not-before (512 - from) (omega arith) (subst (Nowhere (Passes (is_byte p) rest) 0) e none) j l (omega arith) e';
      }

-- ---- what is left of a port's records
module _ (owner : List ℕ) (p at : ℕ) {i : ℕ} (n : Next owner p at i) where
  unseen : Nowhere (Passes (is_byte p) owner) at i
  unseen j l m e = n.others j l m (eqb-true _ _ e)

  -- the next record goes first, and those from the one behind it on are left
  pub left_first : i < 512 → places_between (is_byte p) owner at 512 ≡ i ∷ places_between (is_byte p) owner (i + 1) 512
  left_first l =
      places_between-first (is_byte p) owner at 512 i (record { low = n.reached; high = l; before = unseen }) (eq-eqb _ _ (n.has l))

  pub left_none : at ≤ 512 → 512 ≤ i → places_between (is_byte p) owner at 512 ≡ []
  left_none h l = places_between-none (is_byte p) owner at 512 h (λ j low high. unseen j low (omega (arith, n.most)))
