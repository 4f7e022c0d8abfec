use mathlib.Core.Path.{◌≡◌}
use native.Mathlib.Nat.{add-sub_cancel_left}
use native.Mathlib.Omega.{arith}
use mathlib.Core.List.{[]}
use mathlib.Core.Logic.{inl, inr}
use Rattle.items.specs.Items.{item, items_of}
use lib.ListN.{take, drop}
use Rattle.octets.proofs.Parts.{rest_part}
use Rattle.tlv.proofs.Firsts.{tlv-fits}
use Rattle.items.proofs.Items.{items_end, items-broken, items-tlv, shorter}
use Rattle.std.proofs.Common.{rules}
use Rattle.items.proofs.TlvsIterator.next.Goals as goal

pub overflow_add-content : goal.overflow_add-content
overflow_add-content c = omega (arith, tlv-fits _ c.first_tlv.ensures c.in-Tlv.is)

pub slice_bounds-content-end : goal.slice_bounds-content-end
slice_bounds-content-end c = omega (arith, tlv-fits _ c.first_tlv.ensures c.in-Tlv.is)

pub slice_bounds-self-count : goal.slice_bounds-self-count
slice_bounds-self-count c = omega (arith, tlv-fits _ c.first_tlv.ensures c.in-Tlv.is)

pub slice_bounds-self-start : goal.slice_bounds-self-start
slice_bounds-self-start c = omega (arith, tlv-fits _ c.first_tlv.ensures c.in-Tlv.is)

pub returns-in-End : goal.returns-in-End
returns-in-End c =
    let none : items_of c.args.self.now.rest.now ≡ [] = elim c.in-End.is [ inl h ↦ items_end _ c.first_tlv.ensures h | inr h ↦ items-broken _ c.first_tlv.ensures h ] in
    record { steps = (none, none); goes = search rules }

pub returns-in-Tlv-clause-steps : goal.returns-in-Tlv-clause-steps
returns-in-Tlv-clause-steps c = rw (rest_part, add-sub_cancel_left) (items-tlv _ c.first_tlv.ensures c.in-Tlv.is)

pub returns-in-Tlv-clause-goes : goal.returns-in-Tlv-clause-goes
returns-in-Tlv-clause-goes c =
    let i = item c.in-Tlv.kind (take c.in-Tlv.len (drop 4 c.args.self.now.rest.now)) in
    record { on = λ f. (tt, tt, rw rest_part (shorter {i = i} (items-tlv _ c.first_tlv.ensures c.in-Tlv.is))); keeps = search rules; rests = search rules }
