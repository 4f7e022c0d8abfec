-- What admission answers, in numbers: 0 exactly where it admits.
--     never_0, refused_not, admitted_0
-- Assumes nothing.
use mathlib.Core.Path.{◌≡◌, refl, sym}
use mathlib.Core.Bool.{true, false, false≢true}
use native.Mathlib.Omega.{arith}
use Rattle.std.specs.Prelude.{Result, Ok, Err, is_err, ⊤}
use Rattle.joins.specs.declared.Refusal.{Refusal}
use Rattle.joins.specs.declared.Refusal.TheVariants.{NoRoom, OverDelegation}
use Rattle.joins.specs.Joins.{refusal_number, admission_number}

pub never_0 : (r : Refusal) → refusal_number r ≡ 0 → ⊥
unfolding refusal_number
never_0 NoRoom z = omega arith
never_0 OverDelegation z = omega arith

pub refused_not : (r : Result ⊤ Refusal) → is_err r ≡ true → admission_number r ≡ 0 → ⊥
unfolding admission_number
refused_not (Ok done) e z = absurd (false≢true e)
refused_not (Err refusal) e z = never_0 refusal z

pub admitted_0 : (r : Result ⊤ Refusal) → is_err r ≡ false → admission_number r ≡ 0
unfolding admission_number
admitted_0 (Ok done) e = refl
admitted_0 (Err refusal) e = absurd (false≢true (sym e))
