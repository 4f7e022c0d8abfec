use mathlib.Core.Logic.{inl, inr}
use native.Mathlib.Omega.{arith}
use mathlib.Core.Path.{sym, ◌∙◌}
use native.Mathlib.Nat.{add-zero}
use Rattle.items.specs.Place.{size_of}
use Rattle.items.proofs.Places.{place_fits, after_is}
use Rattle.items.proofs.place_after.Goals as goal

pub overflow_add-result : goal.overflow_add-result
overflow_add-result c = omega (arith, place_fits c.args.s.now c.args.at c.tlv_at.ensures c.in-Tlv.is)

pub returns-in-End : goal.returns-in-End
unfolding size_of
returns-in-End c = sym (add-zero _) ∙ elim c.in-End.is [ inl h ↦ after_is _ _ c.tlv_at.ensures h | inr h ↦ after_is _ _ c.tlv_at.ensures h ]

pub returns-in-Tlv : goal.returns-in-Tlv
unfolding size_of
returns-in-Tlv c = after_is _ _ c.tlv_at.ensures c.in-Tlv.is
