-- The listing of a port's flows.
--     none-wrote, wrote-more     no row, and one row more
--     wrote_end                  the end, at the sixteenth or behind the last
--     rows-sum, rows-length      what is listed is what the port has
-- Assumes nothing.
use Prim.Native.Nat.{ℕ, zero, suc, ◌+◌, ◌<◌}
use mathlib.Core.Path.{◌≡◌, refl, sym, ap, ap₂, ◌∙◌}
use mathlib.Core.List.{List, [], ◌∷◌, ◌++◌}
use native.Mathlib.Omega.{arith}
use lib.ListN.{length, get_or, set, take, replicate, length-append, length-replicate}
use lib.Seq.{take_all}
use Rattle.std.proofs.Common.{map}
use Rattle.std.proofs.lemmas.List.{append-nil, append_assoc, map-append}
use Rattle.std.proofs.Math.Seq.{take-append_seam}
use Rattle.octets.specs.Writing.{over, Wrote}
use Rattle.sums.specs.Sums.{sum_by}
use Rattle.sums.proofs.Picks.{sum_by_pick, length_pick}
use Rattle.pool.specs.Pool.{is_of, sum_over, pool_sum, active_count, rows_in, rows_of, as_rows}
use Rattle.pool.specs.declared.Pool.{Pool}
use Rattle.pool.specs.declared.Rows.{Rows}

abbrev pub zeros : List ℕ
zeros = replicate 16 0

-- one more written after what stands there
over-more : (w l : List ℕ) (v : ℕ) → length w < length l → set (over w l) (length w) v ≡ over (w ++ (v ∷ [])) l
unfolding over
over-more [] [] v h = absurd (omega arith)
over-more [] (y ∷ l) v h = refl
over-more (x ∷ w) [] v h = absurd (omega arith)
over-more (x ∷ w) (y ∷ l) v h = ap (λ (z : List ℕ). x ∷ z) (over-more w l v (omega arith))

pub none-wrote : {r : Rows} → r ≡ as_rows [] → (r.count ≡ 0) × Wrote [] r.count zeros r.rows
unfolding as_rows over
none-wrote e = (ap (λ (x : Rows). x.count) e, record { size = ap (λ (x : Rows). x.count) e; text = ap (λ (x : Rows). x.rows) e })

module _ (f : ℕ → ℕ) (done : List ℕ) (i : ℕ) {rest next : List ℕ} (e : rest ≡ i ∷ next) where
  -- the channel of one more record is written behind the others
  pub wrote-more : {count : ℕ} {rows all : List ℕ} → Wrote (map f done) count zeros rows → map f done ++ map f rest ≡ all → count < 16
      → Wrote (map f (done ++ (i ∷ []))) (count + 1) zeros (set rows count (f i)) × (map f (done ++ (i ∷ [])) ++ map f next ≡ all)
  wrote-more {count} {rows} {all} w owed h =
      let m : map f (done ++ (i ∷ [])) ≡ map f done ++ (f i ∷ []) = map-append f done (i ∷ []) in
      let size : count ≡ length (map f done) = w.size in (
        record {
          size = omega (arith, w.size, ap length m, length-append (map f done) (f i ∷ []));
          text =
              ap (λ (r : List ℕ). set r count (f i)) w.text ∙ ap (λ (n : ℕ). set (over (map f done) zeros) n (f i)) size
              ∙ over-more (map f done) zeros (f i) (omega (arith, w.size, length-replicate {A = ℕ} 16 0)) ∙ ap (λ (z : List ℕ). over z zeros) (sym m);
        },
        ap (λ (l : List ℕ). l ++ map f next) m ∙ append_assoc (map f done) (f i ∷ []) (map f next) ∙ ap (λ (l : List ℕ). map f done ++ map f l) (sym e) ∙ owed,
      )

-- what was written is listed, if it is the beginning of what is owed: where n more would fit, nothing is left
module _ {ks : List ℕ} {r : Rows} (w : Wrote ks r.count zeros r.rows) (all : List ℕ) where
  is_listed : take 16 all ≡ ks → r ≡ as_rows all
  unfolding as_rows
  is_listed e = ap₂ (λ (n : ℕ) (l : List ℕ). record { count = n; rows = l }) (w.size ∙ ap length (sym e)) (w.text ∙ ap (λ (l : List ℕ). over l zeros) (sym e))

  pub wrote_end : (rest : List ℕ) (n : ℕ) → ks ++ rest ≡ all → r.count + n ≡ 16 → (0 < n → rest ≡ []) → r ≡ as_rows all
  wrote_end rest zero e h none =
      let z : 16 ≡ length ks = omega (arith, w.size) in
      is_listed (ap (take 16) (sym e) ∙ ap (λ (n : ℕ). take n (ks ++ rest)) z ∙ take-append_seam ks rest)
  wrote_end rest (suc n) e h none =
      let z : ks ≡ all = sym (append-nil ks) ∙ ap (λ (l : List ℕ). ks ++ l) (sym (none (omega arith))) ∙ e in
      is_listed (ap (take 16) (sym z) ∙ take_all 16 ks (omega (arith, w.size)))

-- ---- what is listed is what the port has: its sum, with any weight of channels, and its length
module _ (pool : Pool) (p : ℕ) where
  pub rows-sum : (g : ℕ → ℕ) → sum_by g (rows_of pool p) ≡ pool_sum pool p (λ k c. g k)
  unfolding rows_in sum_over
  rows-sum g = sum_by_pick (is_of pool.owner p) (λ i. get_or pool.channel i 0) g 512

  pub rows-length : length (rows_of pool p) ≡ active_count pool p
  unfolding rows_in sum_over
  rows-length = length_pick (is_of pool.owner p) (λ i. get_or pool.channel i 0) 512
