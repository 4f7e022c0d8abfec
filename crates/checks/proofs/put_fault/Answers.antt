use mathlib.Core.Path.{◌≡◌, refl, sym, ◌∙◌}
use mathlib.Core.Logic.{⊎_elim}
use mathlib.Core.List.{◌∷◌}
use Prim.Native.Nat.{◌+◌, ◌≤◌}
use native.Mathlib.Omega.{arith}
use native.Mathlib.Nat.{add-sub_cancel_left}
use lib.ListN.{length, take, drop}
use Rattle.octets.specs.Numbers.{padded}
use Rattle.octets.proofs.Writing.{over_none}
use Rattle.tlv.proofs.Firsts.{tlv-fits}
use Rattle.items.specs.Items.{item, items_of}
use Rattle.items.proofs.Items.{items_end, items-broken, items-tlv}
use Rattle.checks.specs.Table.{faults, copy_of}
use Rattle.checks.proofs.Named.{fault_short}
use Rattle.checks.proofs.put_fault.Goals as goal

pub overflow_add-e : goal.overflow_add-e
overflow_add-e c =
    let fit : (c.in-Tlv.size ≡ 4 + padded c.in-Tlv.len) × (c.in-Tlv.size ≤ length c.from_fault-t.result.now) = tlv-fits _ c.first_tlv.ensures c.in-Tlv.is in omega (arith, fit)

pub slice_bounds-put_tlv-end : goal.slice_bounds-put_tlv-end
slice_bounds-put_tlv-end c =
    let fit : (c.in-Tlv.size ≡ 4 + padded c.in-Tlv.len) × (c.in-Tlv.size ≤ length c.from_fault-t.result.now) = tlv-fits _ c.first_tlv.ensures c.in-Tlv.is in omega (arith, fit)

pub put_tlv-requires : goal.put_tlv-requires
put_tlv-requires c =
    let first : faults c.args.kind c.args.tlvs.now ≡ item c.in-Tlv.k (take c.in-Tlv.len (drop 4 c.from_fault-t.result.now)) ∷ items_of (drop c.in-Tlv.size c.from_fault-t.result.now) = sym c.from_fault-t.ensures ∙ items-tlv _ c.first_tlv.ensures c.in-Tlv.is in (rw add-sub_cancel_left (omega (arith, fault_short c.args.kind c.args.tlvs.now first, c.requires.1)), rw add-sub_cancel_left (omega (arith, fault_short c.args.kind c.args.tlvs.now first, c.requires)))

pub returns-in-End : goal.returns-in-End
unfolding copy_of
returns-in-End c = rw (sym c.from_fault-t.ensures ∙ ⊎_elim (items_end _ c.first_tlv.ensures) (items-broken _ c.first_tlv.ensures) c.in-End.is) (record { size = refl; text = over_none _ })

pub returns-in-Tlv : goal.returns-in-Tlv
unfolding copy_of
returns-in-Tlv c =
    let first : faults c.args.kind c.args.tlvs.now ≡ item c.in-Tlv.k (take c.in-Tlv.len (drop 4 c.from_fault-t.result.now)) ∷ items_of (drop c.in-Tlv.size c.from_fault-t.result.now) = sym c.from_fault-t.ensures ∙ items-tlv _ c.first_tlv.ensures c.in-Tlv.is in rw first (rw add-sub_cancel_left at c.put_tlv.ensures)
