-- The allowed depth falls from the list to the inside, and the inside comes before the list of the same depth.
use Rattle.std.proofs.Common.{◌∙◌, sym, ap, arith, length-drop}
use native.Mathlib.Nat.{add-sub_cancel_left}
use Rattle.octets.proofs.Parts.{rest_part}
use Rattle.tlv.specs.Depth.{held_ok, list_ok}
use Rattle.tlv.proofs.Firsts.{tlv-fits}
use Rattle.tlv.proofs.Holders.{holds_fits, enters}
use Rattle.tlv.proofs.Depth.{all_end, all_broken, all_tlv, list_pos}
use Rattle.std.proofs.Common.{rules}
use Rattle.tlv.proofs.+check_inside_check_list.Goals as goal

-- ---- one TLV's inside
pub check_inside-slice_bounds-check_list-count : goal.check_inside-slice_bounds-check_list-count
check_inside-slice_bounds-check_list-count t c = holds_fits _ _ _ c.inside_of.ensures c.in-Holds.is

pub check_inside-slice_bounds-check_list-start : goal.check_inside-slice_bounds-check_list-start
check_inside-slice_bounds-check_list-start t c = holds_fits _ _ _ c.inside_of.ensures c.in-Holds.is

pub check_inside-returns-in-Plain : goal.check_inside-returns-in-Plain
unfolding held_ok
check_inside-returns-in-Plain t c = enters _ _ _ c.inside_of.ensures (list_ok _) c.in-Plain.is

pub check_inside-returns-in-Short : goal.check_inside-returns-in-Short
unfolding held_ok
check_inside-returns-in-Short t c = enters _ _ _ c.inside_of.ensures (list_ok _) c.in-Short.is

pub check_inside-returns-in-Holds : goal.check_inside-returns-in-Holds
unfolding held_ok
check_inside-returns-in-Holds t c =
    c.check_list.ensures
    ∙ ap (list_ok c.args.depth _) (rest_part _ c.args.c.now)
    ∙ enters _ _ _ c.inside_of.ensures (list_ok c.args.depth) c.in-Holds.is

-- ---- a list
pub check_list-returns-then-depth-eq0 : goal.check_list-returns-then-depth-eq0
unfolding list_ok
check_list-returns-then-depth-eq0 t c = rw c.if-depth-eq0.true (search rules)

pub check_list-loop-kind-init : goal.check_list-loop-kind-init
check_list-loop-kind-init t c = list_pos _ _ _ c.if-depth-eq0.false

pub check_list-returns-in-End : goal.check_list-returns-in-End
check_list-returns-in-End t c = sym (c.loop-kind.invariant ∙ all_end _ _ c.first_tlv.ensures c.in-End.is)

pub check_list-returns-in-Broken : goal.check_list-returns-in-Broken
check_list-returns-in-Broken t c = sym (c.loop-kind.invariant ∙ all_broken _ _ c.first_tlv.ensures c.in-Broken.is)

pub check_list-overflow_add-e : goal.check_list-overflow_add-e
check_list-overflow_add-e t c = omega (arith, tlv-fits _ c.first_tlv.ensures c.in-Tlv.is)

pub check_list-slice_bounds-check_inside-end : goal.check_list-slice_bounds-check_inside-end
check_list-slice_bounds-check_inside-end t c = omega (arith, tlv-fits _ c.first_tlv.ensures c.in-Tlv.is)

pub check_list-returns-then-not-check_inside : goal.check_list-returns-then-not-check_inside
check_list-returns-then-not-check_inside t c =
    sym (c.loop-kind.invariant
    ∙ all_tlv _ _ c.first_tlv.ensures c.check_inside.result c.in-Tlv.is (rw add-sub_cancel_left at c.check_inside.ensures)
    ∙ rw c.if-not-check_inside.true)

pub check_list-slice_bounds-t-count : goal.check_list-slice_bounds-t-count
check_list-slice_bounds-t-count t c = (tlv-fits _ c.first_tlv.ensures c.in-Tlv.is).1

pub check_list-slice_bounds-t-start : goal.check_list-slice_bounds-t-start
check_list-slice_bounds-t-start t c = (tlv-fits _ c.first_tlv.ensures c.in-Tlv.is).1

pub check_list-loop-kind-smaller : goal.check_list-loop-kind-smaller
check_list-loop-kind-smaller t c =
    rw rest_part (simp length-drop (omega (arith, tlv-fits _ c.first_tlv.ensures c.in-Tlv.is)))

pub check_list-loop-kind-preserved : goal.check_list-loop-kind-preserved
check_list-loop-kind-preserved t c =
    c.loop-kind.invariant
    ∙ all_tlv _ _ c.first_tlv.ensures c.check_inside.result c.in-Tlv.is (rw add-sub_cancel_left at c.check_inside.ensures)
    ∙ rw (c.if-not-check_inside.false, rest_part)
