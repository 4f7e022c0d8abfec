-- Where a holder's TLVs start lies inside its content; and what entering it gives. Assumes nothing.
use mathlib.Core.Path.{◌≡◌, refl, sym, ap, ◌∙◌}
use mathlib.Core.List.{List}
use mathlib.Core.Bool.{Bool, true, false, cond, ◌&&◌}
use Prim.Native.Nat.{ℕ, ◌+◌, ◌≤◌}
use native.Mathlib.Omega.{arith}
use lib.ListN.{length}
use lib.Dec.{leb, eqb}
use borrow.Author.Tests.{leb-true}
use Rattle.octets.specs.Numbers.{be16, padded}
use Rattle.tlv.specs.declared.Inside.{Inside}
use Rattle.tlv.specs.declared.Inside.TheVariants.{Plain, Short, Holds}
use Rattle.tlv.specs.Depth.{status_inside, inside_of, held_ok, inside_ok}

-- the start, if there is one, is at most the length
data Starts (c : List ℕ) : Inside → Type 0 where
  nowhere : Starts c Plain
  too_short : Starts c Short
  from : (k : ℕ) (b : Bool) → k ≤ length c → Starts c (Holds k b)

after : (c : List ℕ) (k : ℕ) (bare b : Bool) → leb k (length c) ≡ b → Starts c (cond b (Holds k bare) Short)
after c k bare true h = from k bare (leb-true _ _ h)
after c k bare false h = too_short

starts_by : (c : List ℕ) {x y : Inside} (b₀ b₁ b₂ b₃ : Bool) → Starts c x → Starts c y
    → Starts c (cond b₀ Plain (cond b₁ (Holds 0 false) (cond b₂ x (cond b₃ y Plain))))
starts_by c true b₁ b₂ b₃ sx sy = nowhere
starts_by c false true b₂ b₃ sx sy = from 0 false (omega arith)
starts_by c false false true b₃ sx sy = sx
starts_by c false false false true sx sy = sy
starts_by c false false false false sx sy = nowhere

starts : (bare : Bool) (t : ℕ) (c : List ℕ) → Starts c (inside_of bare t c)
unfolding inside_of status_inside
starts bare t c =
    starts_by c (bare && eqb (length c) 0) (eqb t 0x1000) (eqb t 0x0011) (eqb t 0x0106)
    (after c 4 false _ refl) (after c (4 + padded (be16 c 2)) true _ refl)

start_in : {c : List ℕ} {x : Inside} {k : ℕ} {b : Bool} → Starts c x → x ≡ Holds k b → k ≤ length c
start_in nowhere e = let z : ◌≡◌ {A = ℕ} 0 1 = cc in absurd (omega arith)
start_in too_short e = let z : ◌≡◌ {A = ℕ} 0 1 = cc in absurd (omega arith)
start_in {k = k} (from i b h) e = let z : i ≡ k = cc in omega arith

-- x is what `inside_of` gave of c
module _ (bare : Bool) (t : ℕ) (c : List ℕ) {x : Inside} (e : x ≡ inside_of bare t c) where
  pub holds_fits : {k : ℕ} {b : Bool} → x ≡ Holds k b → k ≤ length c
  holds_fits h = start_in (starts bare t c) (sym e ∙ h)

  pub enters : (inner : Bool → List ℕ → Bool) {y : Inside} → x ≡ y → held_ok inner c y ≡ inside_ok inner bare t c
  unfolding inside_ok
  enters inner h = ap (held_ok inner c) (sym h ∙ e)
