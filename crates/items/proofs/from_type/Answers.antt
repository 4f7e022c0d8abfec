use mathlib.Core.Path.{◌≡◌, sym, ap, ◌∙◌}
use mathlib.Core.List.{[]}
use mathlib.Core.Logic.{inl, inr}
use native.Mathlib.Omega.{arith}
use lib.ListN.{length-drop}
use Rattle.octets.proofs.Parts.{rest_part}
use Rattle.tlv.proofs.Firsts.{tlv-fits}
use Rattle.items.specs.Items.{items_of, from_type}
use Rattle.items.proofs.Items.{items_end, items-broken, items-tlv}
use Rattle.items.proofs.Types.{from_hit, from_miss}
use Rattle.items.proofs.from_type.Goals as goal

pub returns-in-End : goal.returns-in-End
unfolding from_type
returns-in-End c =
    let e : items_of c.loop-k.t.now ≡ [] = elim c.in-End.is [ inl h ↦ items_end _ c.first_tlv.ensures h | inr h ↦ items-broken _ c.first_tlv.ensures h ] in
    e ∙ sym (c.loop-k.invariant ∙ ap (from_type c.args.kind) e)

pub returns-in-Tlv : goal.returns-in-Tlv
returns-in-Tlv c =
    let e = items-tlv _ c.first_tlv.ensures c.in-Tlv.is in
    e ∙ sym (c.loop-k.invariant ∙ ap (from_type c.args.kind) e ∙ from_hit _ _ c.if-k-kind.true)

pub slice_bounds-t-count : goal.slice_bounds-t-count
slice_bounds-t-count c = (tlv-fits _ c.first_tlv.ensures c.in-Tlv.is).1

pub slice_bounds-t-start : goal.slice_bounds-t-start
slice_bounds-t-start c = (tlv-fits _ c.first_tlv.ensures c.in-Tlv.is).1

pub loop-k-smaller : goal.loop-k-smaller
loop-k-smaller c = rw rest_part (simp length-drop (omega (arith, tlv-fits _ c.first_tlv.ensures c.in-Tlv.is)))

pub loop-k-preserved : goal.loop-k-preserved
loop-k-preserved c =
    rw rest_part (c.loop-k.invariant ∙ ap (from_type c.args.kind) (items-tlv _ c.first_tlv.ensures c.in-Tlv.is) ∙ from_miss _ _ c.if-k-kind.false)
