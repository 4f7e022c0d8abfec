use native.Mathlib.Omega.{arith}
use borrow.Author.Tests.{eq-eqb, ne_eqb}
use Rattle.flow_octets.specs.FlowOctets.{source_words}
use Rattle.flow_octets.proofs.source_words.Goals as goal

pub returns-then-sourced-eq0 : goal.returns-then-sourced-eq0
unfolding source_words
returns-then-sourced-eq0 c = record { value = simp (eq-eqb _ _ c.if-sourced-eq0.true); upper_bound = omega arith }

pub returns-else-sourced-eq0 : goal.returns-else-sourced-eq0
unfolding source_words
returns-else-sourced-eq0 c = record { value = simp (ne_eqb _ _ c.if-sourced-eq0.false) c.width.ensures.value; upper_bound = omega arith }
