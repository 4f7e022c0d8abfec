use Prim.Native.Nat.{ℕ}
use mathlib.Core.Path.{refl, sym, ap, ◌∙◌}
use mathlib.Core.List.{List}
use Rattle.flows.specs.Words.{same}
use Rattle.flows.proofs.Same.{same_pointwise}
use Rattle.rows.proofs.Rows.{first-start, first-here, first_on, first_end}
use Rattle.circuits.specs.Circuits.{has_id}
use Rattle.circuits.proofs.port_among.Goals as goal

pub loop-p-init : goal.loop-p-init
loop-p-init c = let a = c.args in first-start (has_id a.ids.now a.id.now) refl

pub returns-then-eq : goal.returns-then-eq
returns-then-eq c =
    let a = c.args in
    let h = c.loop-p in
    first-here (has_id a.ids.now a.id.now) h.p a.rows h.invariant c.loop-p-test.true ((ap (λ (l : List ℕ). same l c.args.id.now) (sym c.id_at.ensures) ∙ (sym (same_pointwise c.id_at.result.now c.args.id.now) ∙ sym c.eq.ensures)) ∙ c.if-eq.true)

pub loop-p-preserved : goal.loop-p-preserved
loop-p-preserved c =
    let a = c.args in
    let h = c.loop-p in
    (first_on (has_id a.ids.now a.id.now) h.p a.rows h.invariant c.loop-p-test.true ((ap (λ (l : List ℕ). same l c.args.id.now) (sym c.id_at.ensures) ∙ (sym (same_pointwise c.id_at.result.now c.args.id.now) ∙ sym c.eq.ensures)) ∙ c.if-eq.false))

pub returns : goal.returns
returns c =
    let a = c.args in
    let h = c.loop-p in
    first_end (has_id a.ids.now a.id.now) h.p a.rows h.invariant c.loop-p-test.false
