-- The loop of `rows_in_order`: after i turns the first i rows stand in order.
--     found_few                       at most 16 rows are found
--     ordered-start, ordered_room, ordered-turn, ordered_end
--     rows-listed                     what is listed of a port is all of its rows in order
-- Assumes nothing.
use Prim.Native.Nat.{ℕ, ◌+◌, ◌≤◌, ◌<◌}
use mathlib.Core.Path.{◌≡◌, refl, sym, ap, ap₂, ◌∙◌}
use mathlib.Core.Bool.{Bool}
use mathlib.Core.List.{List, [], ◌∷◌, ◌++◌}
use native.Mathlib.Numerals.{add-one}
use native.Mathlib.Omega.{arith}
use lib.ListN.{length, take, get_or, replicate, length-take, length-replicate}
use lib.Seq.{take_all, take-suc, length-take-le}
use Rattle.octets.specs.Writing.{over}
use Rattle.octets.proofs.Writing.{over_front, length_over}
use Rattle.pool.specs.declared.Rows.{Rows}
use Rattle.pool.specs.declared.Pool.{Pool}
use Rattle.pool.specs.Pool.{rows_of, as_rows}
use Rattle.listing.specs.Listing.{row_before, placed, placed_all, in_order, rows_in_order}
use Rattle.listing.proofs.Placing.{placed-length}

-- a longer text written over a shorter one
over-over : (v w l : List ℕ) → length w ≤ length v → length v ≤ length l → over v (over w l) ≡ over v l
unfolding over
over-over [] [] l h k = refl
over-over [] (y ∷ w) l h k = absurd (omega arith)
over-over (x ∷ v) [] l h k = refl
over-over (x ∷ v) (y ∷ w) [] h k = absurd (omega arith)
over-over (x ∷ v) (y ∷ w) (z ∷ l) h k = ap (λ (r : List ℕ). x ∷ r) (over-over v w l (omega arith) (omega arith))

-- a listing that was found: its rows are the first 16
module _ (rs : List ℕ) {found : Rows} (e : found ≡ as_rows rs) where
  found_long : length found.rows ≡ 16
  unfolding as_rows
  found_long =
      ap (λ (d : Rows). length d.rows) e ∙ length_over (take 16 rs) (replicate 16 0) (omega (arith, length-take 16 rs, length-replicate {A = ℕ} 16 0)) ∙ length-replicate {A = ℕ} 16 0

  pub found_few : found.count ≤ 16
  unfolding as_rows
  found_few = omega (arith, ap (λ (d : Rows). d.count) e, length-take 16 rs)

  pub found_rows : take found.count found.rows ≡ take 16 rs
  unfolding as_rows
  found_rows = over_front (take 16 rs) (replicate 16 0) found.count (ap (λ (d : Rows). d.rows) e) (ap (λ (d : Rows). d.count) e)

module _ (before : ℕ → ℕ → Bool) where
  all_more : (done ks : List ℕ) (k : ℕ) → placed_all before done (ks ++ (k ∷ [])) ≡ placed before k (placed_all before done ks)
  unfolding placed_all
  all_more done [] k = refl
  all_more done (j ∷ ks) k = all_more (placed before j done) ks k

  all_length : (done ks : List ℕ) → length (placed_all before done ks) ≡ length done + length ks
  unfolding placed_all
  all_length done [] = omega arith
  all_length done (k ∷ ks) = omega (arith, all_length (placed before k done) ks, placed-length before k done)

  in_order_length : (ks : List ℕ) → length (in_order before ks) ≡ length ks
  unfolding in_order
  in_order_length ks = omega (arith, all_length [] ks)

  pub ordered-start : (ks : List ℕ) → as_rows [] ≡ as_rows (in_order before (take 0 ks))
  unfolding in_order placed_all
  ordered-start ks = refl

  -- a row more is placed
  module _ (w : List ℕ) (k : ℕ) {done r : Rows} (e : done ≡ as_rows w) (room : length w < 16)
      (count : r.count ≡ done.count + 1) (rows : r.rows ≡ over (placed before k (take done.count done.rows)) done.rows)
    where
      front : take 16 w ≡ w
      front = take_all 16 w (omega arith)

      count_is : done.count ≡ length w
      unfolding as_rows
      count_is = ap (λ (d : Rows). d.count) e ∙ ap length front

      rows_is : done.rows ≡ over w (replicate 16 0)
      unfolding as_rows
      rows_is = ap (λ (d : Rows). d.rows) e ∙ ap (λ (v : List ℕ). over v (replicate 16 0)) front

      listed_more : r ≡ as_rows (placed before k w)
      unfolding as_rows
      listed_more =
          let size = placed-length before k w in
          let all : take 16 (placed before k w) ≡ placed before k w = take_all 16 (placed before k w) (omega arith) in
          let n : r.count ≡ length (take 16 (placed before k w)) = omega (arith, count, count_is, ap length all) in
          let l : r.rows ≡ over (take 16 (placed before k w)) (replicate 16 0) =
          rows
          ∙ ap (λ (v : List ℕ). over (placed before k v) done.rows) (found_rows w e ∙ front)
          ∙ ap (over (placed before k w)) rows_is
          ∙ over-over (placed before k w) w (replicate 16 0) (omega arith) (omega (arith, length-replicate {A = ℕ} 16 0))
          ∙ ap (λ (v : List ℕ). over v (replicate 16 0)) (sym all) in
          ap₂ (λ (a : ℕ) (b : List ℕ). record { count = a; rows = b }) n l

  -- the first i of some rows stand in order
  module _ (ks : List ℕ) (few : length ks ≤ 16) (i : ℕ) {done : Rows} (inv : done ≡ as_rows (in_order before (take i ks))) where
    module _ (h : i < length ks) where
      length_so : length (in_order before (take i ks)) ≡ i
      length_so = in_order_length (take i ks) ∙ length-take-le i ks (omega arith)

      pub ordered_room : done.count < 16
      unfolding as_rows
      ordered_room = omega (arith, ap (λ (d : Rows). d.count) inv, length_so, length-take 16 (in_order before (take i ks)))

      next : placed before (get_or ks i 0) (in_order before (take i ks)) ≡ in_order before (take (i + 1) ks)
      unfolding in_order
      next =
          sym (all_more [] (take i ks) (get_or ks i 0))
          ∙ ap (placed_all before []) (sym (take-suc ks i 0 h))
          ∙ ap (λ (m : ℕ). placed_all before [] (take m ks)) (sym (add-one i))

      pub ordered-turn : {r : Rows} → r.count ≡ done.count + 1 → r.rows ≡ over (placed before (get_or ks i 0) (take done.count done.rows)) done.rows
          → r ≡ as_rows (in_order before (take (i + 1) ks))
      ordered-turn c t = listed_more (in_order before (take i ks)) (get_or ks i 0) inv (omega (arith, length_so)) c t ∙ ap as_rows next

    pub ordered_end : length ks ≤ i → done ≡ as_rows (in_order before ks)
    ordered_end h = inv ∙ ap (λ (l : List ℕ). as_rows (in_order before l)) (take_all i ks h)

-- nothing of a port's rows in order is cut when they are listed
pub rows-listed : (channels : List ℕ) (pool : Pool) (p : ℕ) {r : Rows} → r ≡ as_rows (rows_in_order channels pool p) → take r.count r.rows ≡ rows_in_order channels pool p
unfolding rows_in_order
rows-listed channels pool p e =
    let ks : List ℕ = take 16 (rows_of pool p) in
    let w : List ℕ = in_order (row_before channels) ks in
    found_rows w e ∙ take_all 16 w (omega (arith, in_order_length (row_before channels) ks, length-take 16 (rows_of pool p)))
