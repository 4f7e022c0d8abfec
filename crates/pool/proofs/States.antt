-- What a port's flow has: the flow is active where a record is found (state_active).
-- Assumes nothing.
use Rattle.std.specs.Prelude.{Option, Some, None}
use Prim.Native.Nat.{ℕ, ◌<◌}
use mathlib.Core.Path.{◌≡◌, refl, sym}
use mathlib.Core.Bool.{Bool, true, false, cond, ◌&&◌, false≢true}
use mathlib.Core.List.{List}
use native.Mathlib.Omega.{arith}
use lib.ListN.{get_or}
use lib.Dec.{eqb}
use borrow.Author.Tests.{eqb-true, lt-ltb, le-ltb}
use Rattle.octets.proofs.Tests.{both}
use Rattle.rows.specs.Rows.{first_row}
use Rattle.rows.proofs.Rows.{found_at, found_none}
use Rattle.sums.proofs.Sums.{sum_to-none}
use Rattle.pool.specs.Pool.{is_of, sum_over, is_held, holds_in, active_in, state_at, state_in}
use Rattle.pool.proofs.Turns.{sum-at}

module _ (owner channel : List ℕ) (p k : ℕ) where
  abbrev test : ℕ → Bool
  test = is_held owner channel p k

  -- ---- active where a record is found
  some : (i : ℕ) → i < 512 → test i ≡ true → true ≡ active_in owner channel p k
  some i l t =
      let b = both (is_of owner p i) (eqb (get_or channel i 0) k) t in
      let one : ◌≡◌ {A = ℕ} (cond (eqb (get_or channel i 0) k) 1 0) 1 = simp b.1 in
      sym (lt-ltb 0 (holds_in owner channel p k) (omega (arith, sum-at owner p (λ j. cond (eqb (get_or channel j 0) k) 1 0) i l (eqb-true (get_or owner i 0) p b.0))))

  nothing : ((i : ℕ) → i < 512 → test i ≡ false) → false ≡ active_in owner channel p k
  unfolding sum_over
  nothing none =
      sym (le-ltb 0 (holds_in owner channel p k)
      (omega (
        arith,
        sum_to-none 512 (λ i. cond (is_of owner p i) (cond (eqb (get_or channel i 0) k) 1 0) 0)
            (λ i l. go (is_of owner p i) (eqb (get_or channel i 0) k) (none i l)),
      )))
    where
      go : (a b : Bool) → (a && b) ≡ false → ◌≡◌ {A = ℕ} (cond a (cond b 1 0) 0) 0
      go true true e = absurd (false≢true (sym e))
      go true false e = refl
      go false b e = refl

  pub state_active : (charged : List Bool) (accounting : List ℕ) → (state_in owner channel charged accounting p k).active ≡ active_in owner channel p k
  unfolding state_in
  state_active charged accounting = go (first_row 512 test) refl
    where
      go : (r : Option ℕ) → first_row 512 test ≡ r → (state_at charged accounting r).active ≡ active_in owner channel p k
      go (Some i) e = let f = found_at test 512 e in some i f.below f.passes
      go None e = nothing (found_none test 512 e)
