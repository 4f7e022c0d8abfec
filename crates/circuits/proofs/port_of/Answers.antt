use Rattle.std.proofs.Common.{rules}
use Rattle.std.specs.Prelude.{None}
use Prim.Native.Nat.{ℕ, min}
use mathlib.Core.Path.{◌≡◌, sym, ap, ◌∙◌}
use mathlib.Core.List.{List}
use native.Mathlib.Omega.{arith}
use borrow.Author.Tests.{lt-ltb, le-ltb}
use Rattle.flows.specs.Words.{same}
use Rattle.rows.specs.Rows.{first_row}
use Rattle.rows.proofs.Rows.{first-start, first-here, first_on, first_end}
use Rattle.circuits.specs.Circuits.{has_id, port_of}
use Rattle.circuits.proofs.Circuits.{id_skip}
use Rattle.circuits.proofs.port_of.Goals as goal

pub returns-then-size-lt1 : goal.returns-then-size-lt1
unfolding port_of
returns-then-size-lt1 c =
    let a = c.args in
    let most : c.min-rows.result ≡ min a.n 64 = search rules in
    c.port_among.ensures ∙ ap (λ (k : ℕ). first_row k (has_id a.ids.now a.id.now)) most

pub loop-p-init : goal.loop-p-init
unfolding port_of
loop-p-init c =
    let a = c.args in
    let most : c.min-rows.result ≡ min a.n 64 = search rules in
    (omega arith, omega arith, omega arith, first-start (has_id a.ids.now a.id.now) most)

-- no row from `from` on has the octet
pub returns-in_err-p : goal.returns-in_err-p
returns-in_err-p c =
    let a = c.args in
    let h = c.loop-p in
    let none = c.in_err-p.ensures in
    let inv = id_skip a.ids.now a.id.now h.k h.invariant.1 h.invariant.2 h.from c.min-rows.result c.min-rows.result h.invariant.3 h.invariant.0 (omega arith) (λ p l m. let e = none p l m in search rules) in
    let e : c.from_residual.result ≡ None = search rules in
    e ∙ first_end (has_id a.ids.now a.id.now) c.min-rows.result c.min-rows.result inv (omega arith)

-- row p has it, after others that have not
pub returns-then-k-lt1 : goal.returns-then-k-lt1
returns-then-k-lt1 c =
    let a = c.args in
    let h = c.loop-p in
    let p : ℕ = c.in_ok-p.p in
    let found = c.in_ok-p.ensures in
    let inv = id_skip a.ids.now a.id.now h.k h.invariant.1 h.invariant.2 h.from c.min-rows.result p h.invariant.3 found.0 (omega (arith, found.1)) (λ q l m. let e = found.3 q l m in search rules) in
    first-here (has_id a.ids.now a.id.now) p c.min-rows.result inv found.1 ((ap (λ (l : List ℕ). same l a.id.now) (sym c.id_at.ensures) ∙ sym c.differing-k.ensures.1) ∙ lt-ltb c.differing-k.result 1 c.if-k-lt1.true)

pub loop-p-preserved : goal.loop-p-preserved
loop-p-preserved c =
    let a = c.args in
    let h = c.loop-p in
    let p : ℕ = c.in_ok-p.p in
    let found = c.in_ok-p.ensures in
    let inv = id_skip a.ids.now a.id.now h.k h.invariant.1 h.invariant.2 h.from c.min-rows.result p h.invariant.3 found.0 (omega (arith, found.1)) (λ q l m. let e = found.3 q l m in search rules) in (
      omega (arith, found.1),
      omega arith,
      omega arith,
      first_on (has_id a.ids.now a.id.now) p c.min-rows.result inv found.1 ((ap (λ (l : List ℕ). same l a.id.now) (sym c.id_at.ensures) ∙ sym c.differing-k.ensures.1) ∙ le-ltb c.differing-k.result 1 c.if-k-lt1.false),
    )
