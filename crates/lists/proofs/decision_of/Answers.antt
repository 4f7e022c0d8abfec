use native.Mathlib.Omega.{arith}
use mathlib.Core.Path.{refl}
use borrow.Author.Tests.{ne_eqb}
use Rattle.lists.specs.Ranks.{decision_of}
use Rattle.lists.proofs.decision_of.Goals as goal

pub returns-in-3 : goal.returns-in-3
unfolding decision_of
returns-in-3 c = rw c.in-3.is refl

pub returns-in-2 : goal.returns-in-2
unfolding decision_of
returns-in-2 c = rw c.in-2.is refl

pub returns-in-1 : goal.returns-in-1
unfolding decision_of
returns-in-1 c = rw c.in-1.is refl

pub returns-in_default : goal.returns-in_default
unfolding decision_of
returns-in_default c = simp (ne_eqb c.args.strength 3 (λ e. omega arith), ne_eqb c.args.strength 2 (λ e. omega arith), ne_eqb c.args.strength 1 (λ e. omega arith))
