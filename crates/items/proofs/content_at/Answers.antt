use mathlib.Core.Logic.{inl, inr}
use native.Mathlib.Omega.{arith}
use Prim.Native.Nat.{◌+◌, ◌≤◌}
use native.Mathlib.Nat.{add-sub_cancel_left}
use lib.Seq.{drop-drop}
use lib.ListN.{length}
use Rattle.items.specs.Place.{content_by}
use Rattle.items.proofs.Places.{place_fits, content_is}
use Rattle.items.proofs.content_at.Goals as goal

pub overflow_add-b : goal.overflow_add-b
overflow_add-b c =
    let fit : c.args.at + 4 + c.in-Tlv.len ≤ length c.args.s.now = omega (arith, place_fits c.args.s.now c.args.at c.tlv_at.ensures c.in-Tlv.is) in omega (arith, fit)

pub overflow_add-result : goal.overflow_add-result
overflow_add-result c =
    let fit : c.args.at + 4 + c.in-Tlv.len ≤ length c.args.s.now = omega (arith, place_fits c.args.s.now c.args.at c.tlv_at.ensures c.in-Tlv.is) in omega (arith, fit)

pub slice_bounds-result-end-in-Tlv : goal.slice_bounds-result-end-in-Tlv
slice_bounds-result-end-in-Tlv c =
    let fit : c.args.at + 4 + c.in-Tlv.len ≤ length c.args.s.now = omega (arith, place_fits c.args.s.now c.args.at c.tlv_at.ensures c.in-Tlv.is) in omega (arith, fit)

pub returns-in-End : goal.returns-in-End
unfolding content_by
returns-in-End c = elim c.in-End.is [ inl h ↦ content_is _ _ c.tlv_at.ensures h | inr h ↦ content_is _ _ c.tlv_at.ensures h ]

pub returns-in-Tlv : goal.returns-in-Tlv
unfolding content_by
returns-in-Tlv c = rw (add-sub_cancel_left, ← drop-drop 4 c.args.at c.args.s.now) (content_is _ _ c.tlv_at.ensures c.in-Tlv.is)
