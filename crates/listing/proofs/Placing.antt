-- Placing a row among others, as the loop of `place` does it: the rows before i are written, and the row that is carried is placed
-- among those from i on.
--     placed-length                  one row more
--     place_start, place_takes, place_passes, place_end      the loop's beginning, a turn in which the two rows change places and one in
--                                    which they do not, and its end
-- Assumes nothing.
use Prim.Native.Nat.{ℕ, zero, suc, ◌+◌, ◌≤◌, ◌<◌}
use mathlib.Core.Path.{◌≡◌, refl, sym, ap, ◌∙◌}
use mathlib.Core.Bool.{Bool, true, false, cond}
use mathlib.Core.List.{List, [], ◌∷◌}
use native.Mathlib.Numerals.{add-one}
use native.Mathlib.Omega.{arith}
use lib.ListN.{length, take, drop, set, get_or, length-take, drop_of_length-le}
use lib.Seq.{drop-cons, get_or-take, length-take-le, set-get_or}
use Rattle.octets.specs.Writing.{over}
use Rattle.octets.proofs.Writing.{over_none, over-turn, over_done}
use Rattle.listing.specs.Listing.{placed}

-- what stands after w is kept
over-after : (w l : List ℕ) (i : ℕ) → length w ≤ i → i < length l → get_or (over w l) i 0 ≡ get_or l i 0
unfolding over
over-after [] l i h k = refl
over-after (x ∷ w) [] i h k = absurd (omega arith)
over-after (x ∷ w) (y ∷ l) zero h k = absurd (omega arith)
over-after (x ∷ w) (y ∷ l) (suc i) h k = over-after w l i (omega arith) (omega arith)

-- the element at i, and what is after it
at_of : (w : List ℕ) (i x : ℕ) (t : List ℕ) → i < length w → drop i w ≡ x ∷ t → x ≡ get_or w i 0
at_of w i x t h e = cc (drop-cons w i 0 h)

after_of_lem : (w : List ℕ) (i x : ℕ) (t : List ℕ) → i < length w → drop i w ≡ x ∷ t → drop (i + 1) w ≡ t
after_of_lem w i x t h e = rw add-one (cc (drop-cons w i 0 h))

module _ (before : ℕ → ℕ → Bool) where
  pub placed-length : (k : ℕ) (js : List ℕ) → length (placed before k js) ≡ length js + 1
  unfolding placed
  placed-length k [] = refl
  placed-length k (j ∷ js) = go (before k j) (λ i. placed-length i js)
    where
      go : (b : Bool) → ((i : ℕ) → length (placed before i js) ≡ length js + 1)
          → length (cond b (k ∷ placed before j js) (j ∷ placed before k js)) ≡ length (j ∷ js) + 1
      go true ih = omega (arith, ih j)
      go false ih = omega (arith, ih k)

  pub placed_first : (k j : ℕ) (js : List ℕ) → before k j ≡ true → placed before k (j ∷ js) ≡ k ∷ placed before j js
  unfolding placed
  placed_first k j js t = simp t

  pub placed-later : (k j : ℕ) (js : List ℕ) → before k j ≡ false → placed before k (j ∷ js) ≡ j ∷ placed before k js
  unfolding placed
  placed-later k j js t = simp t

  -- k is placed among the first n rows of old; before i they are written already
  pub record Placing (k n : ℕ) (old : List ℕ) (i carried : ℕ) (rows : List ℕ) : Type 0 where
    pub text : rows ≡ over (take i (placed before k (take n old))) old
    pub rest : drop i (placed before k (take n old)) ≡ placed before carried (drop i (take n old))

  module _ (k n : ℕ) (old : List ℕ) where
    pub place_start : Placing k n old 0 k old
    place_start = record { text = over_none old; rest = refl }

    module _ (room : n < length old) where
      size : length (placed before k (take n old)) ≡ n + 1
      size = omega (arith, placed-length k (take n old), length-take-le n old (omega arith))

      module _ {i carried : ℕ} {rows : List ℕ} (inv : Placing k n old i carried rows) where
        module _ (h : i < n) where
          -- row i is still the old one, and the first of those that are left
          reads : get_or rows i 0 ≡ get_or old i 0
          reads =
              ap (λ (r : List ℕ). get_or r i 0) inv.text
              ∙ over-after (take i (placed before k (take n old))) old i (omega (arith, length-take i (placed before k (take n old)), size)) (omega arith)

          ahead : drop i (take n old) ≡ get_or rows i 0 ∷ drop (i + 1) (take n old)
          ahead =
              drop-cons (take n old) i 0 (omega (arith, length-take-le n old (omega arith)))
              ∙ ap (λ (x : ℕ). x ∷ drop (suc i) (take n old)) (get_or-take n old i 0 h ∙ sym reads)
              ∙ ap (λ (m : ℕ). get_or rows i 0 ∷ drop m (take n old)) (sym (add-one i))

          here : drop i (placed before k (take n old)) ≡ placed before carried (get_or rows i 0 ∷ drop (i + 1) (take n old))
          here = inv.rest ∙ ap (placed before carried) ahead

          turn : {x y y' : ℕ} {rows' : List ℕ} → placed before carried (get_or rows i 0 ∷ drop (i + 1) (take n old)) ≡ x ∷ placed before y (drop (i + 1) (take n old))
              → rows' ≡ set rows i x → y' ≡ y → Placing k n old (i + 1) y' rows'
          turn {x} {y} e er ey =
              let w : List ℕ = placed before k (take n old) in
              let t : List ℕ = placed before y (drop (i + 1) (take n old)) in
              let full = size in
              record {
                text = er ∙ over-turn w old i x inv.text (at_of w i x t (omega arith) (here ∙ e)) (omega arith) (omega arith);
                rest = after_of_lem w i x t (omega arith) (here ∙ e) ∙ ap (λ (z : ℕ). placed before z (drop (i + 1) (take n old))) (sym ey);
              }

          -- the two change places, and the row that was read is carried on
          pub place_takes : {y : ℕ} {rows' : List ℕ} → before carried (get_or rows i 0) ≡ true → rows' ≡ set rows i carried → y ≡ get_or rows i 0
              → Placing k n old (i + 1) y rows'
          place_takes t = turn (placed_first carried (get_or rows i 0) (drop (i + 1) (take n old)) t)

          pub place_passes : {y : ℕ} {rows' : List ℕ} → before carried (get_or rows i 0) ≡ false → rows' ≡ rows → y ≡ carried
              → Placing k n old (i + 1) y rows'
          place_passes t er = turn (placed-later carried (get_or rows i 0) (drop (i + 1) (take n old)) t) (er ∙ sym (set-get_or rows i 0))

        pub place_end : i ≤ n → n ≤ i → set rows n carried ≡ over (placed before k (take n old)) old
        unfolding placed
        place_end l m =
            let z : i ≡ n = omega arith in
            let w : List ℕ = placed before k (take n old) in
            let none : drop n (take n old) ≡ [] = drop_of_length-le (take n old) {i = n} (omega (arith, length-take-le n old (omega arith))) in
            let e : drop n w ≡ carried ∷ [] = ap (λ (j : ℕ). drop j w) (sym z) ∙ inv.rest ∙ ap (λ (j : ℕ). placed before carried (drop j (take n old))) z ∙ ap (placed before carried) none in
            over_done w old (n + 1)
            (over-turn w old n carried (inv.text ∙ ap (λ (j : ℕ). over (take j w) old) z) (at_of w n carried [] (omega (arith, size)) e) (omega (arith, size)) (omega (arith, size)))
            (omega (arith, size))
