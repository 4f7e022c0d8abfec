-- twice the depth, and one more for the inside
use Rattle.std.proofs.Common.{◌≡◌, ◌+◌, ◌-◌, length}
use Rattle.tlv.specs.Depth.{inside_ok, all_tlvs, list_ok}
use Rattle.tlv.proofs.+check_inside_check_list.Given as goal

abbrev pub decreases-check_inside : goal.decreases-check_inside
decreases-check_inside l = l.depth + l.depth + 1

abbrev pub decreases-check_list : goal.decreases-check_list
decreases-check_list l = l.depth + l.depth

abbrev pub invariant-check_list-loop-kind : goal.invariant-check_list-loop-kind
invariant-check_list-loop-kind l = list_ok l.depth l.bare l.s ≡ all_tlvs (inside_ok (list_ok (l.depth - 1)) l.bare) l.t

abbrev pub decreases-check_list-loop-kind : goal.decreases-check_list-loop-kind
decreases-check_list-loop-kind l = length l.t
