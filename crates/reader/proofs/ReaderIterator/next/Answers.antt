use mathlib.Core.Path.{◌≡◌}
use mathlib.Core.List.{[]}
use mathlib.Core.Logic.{inl, inr}
use native.Mathlib.Nat.{add-sub_cancel_left}
use native.Mathlib.Omega.{arith}
use Rattle.items.proofs.Items.{shorter}
use Rattle.reader.specs.Reader.{items_ahead}
use Rattle.reader.proofs.Steps.{step_end, step-broken, step-tlv, step_fits}
use Rattle.std.proofs.Common.{rules}
use Rattle.reader.proofs.ReaderIterator.next.Goals as goal

pub overflow_add-start : goal.overflow_add-start
overflow_add-start c = omega (arith, step_fits _ _ c.step_at-step.ensures c.in-Tlv.is)

pub overflow_add-content : goal.overflow_add-content
overflow_add-content c = omega (arith, step_fits _ _ c.step_at-step.ensures c.in-Tlv.is)

pub slice_bounds-content-end : goal.slice_bounds-content-end
slice_bounds-content-end c = omega (arith, step_fits _ _ c.step_at-step.ensures c.in-Tlv.is)

pub returns-in-End : goal.returns-in-End
returns-in-End c =
    let none : items_ahead c.args.self.now ≡ [] = elim c.in-End.is [ inl h ↦ step_end _ _ c.step_at-step.ensures h | inr h ↦ step-broken _ _ c.step_at-step.ensures h ] in
    record { steps = (none, none); goes = search rules }

pub returns-in-Tlv-clause-steps : goal.returns-in-Tlv-clause-steps
returns-in-Tlv-clause-steps c = rw add-sub_cancel_left (step-tlv _ _ c.step_at-step.ensures c.in-Tlv.is)

pub returns-in-Tlv-clause-goes : goal.returns-in-Tlv-clause-goes
returns-in-Tlv-clause-goes c = record { on = λ f. (tt, tt, shorter (step-tlv _ _ c.step_at-step.ensures c.in-Tlv.is)); keeps = search rules; rests = search rules }
