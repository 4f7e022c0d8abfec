use Prim.Native.Nat.{ℕ, ◌-◌, ◌/◌, ◌^◌}
use mathlib.Core.Path.{◌≡◌, sym, ap, ap₂, ◌∙◌}
use lib.Dec.{eqb}
use native.Mathlib.Nat.{div-one}
use native.Mathlib.Omega.{arith}
use Rattle.lists.proofs.Prefix.{word_shift}
use Rattle.lists.proofs.word_matches.Goals as goal

pub returns-then-length-ge32 : goal.returns-then-length-ge32
returns-then-length-ge32 c =
    let a = c.args in
    let e : 0 ≡ 32 - a.length = omega arith in
    ap₂ eqb (sym (div-one a.a)) (sym (div-one a.b))
    ∙ ap (λ (k : ℕ). eqb (a.a / 2 ^ k) (a.b / 2 ^ k)) e
    ∙ sym (word_shift a.length a.a a.b c.ranges.a.fits c.ranges.b.fits)

pub returns : goal.returns
returns c =
    let a = c.args in
    ap₂ (λ (x y : ℕ). eqb (x / 2 ^ (32 - a.length)) (y / 2 ^ (32 - a.length))) (c.from.ensures) (c.from-2.ensures)
    ∙ sym (word_shift a.length a.a a.b c.ranges.a.fits c.ranges.b.fits)
