use mathlib.Core.Path.{sym, ◌∙◌}
use mathlib.Core.Logic.{inl, inr}
use native.Mathlib.Omega.{arith}
use borrow.Author.Rules.{rules}
use borrow.Author.Tests.{le-leb, lt-leb}
use Rattle.numbers.specs.Numbers.{numbers_left}
use Rattle.numbers.proofs.Answers.{number_range, left-none, left_at}
use Rattle.numbers.proofs.numbers_left.Goals as goal

pub returns-then-not-is_number : goal.returns-then-not-is_number
returns-then-not-is_number c = let a = c.args in left-none a.number a.limit (inl (sym c.is_number.ensures ∙ c.if-not-is_number.true))

pub returns-then-not-is_number-2 : goal.returns-then-not-is_number-2
returns-then-not-is_number-2 c =
    let a = c.args in
    left-none a.number a.limit (inr (sym c.is_number-2.ensures ∙ c.if-not-is_number-2.true))

pub returns-then-number-limit : goal.returns-then-number-limit
unfolding numbers_left
returns-then-number-limit c =
    let a = c.args in
    left_at a.number a.limit _ ((sym c.is_number.ensures ∙ c.if-not-is_number.false)) ((sym c.is_number-2.ensures ∙ c.if-not-is_number-2.false)) (rw (le-leb a.number a.limit (omega arith)))

pub overflow_add-result : goal.overflow_add-result
overflow_add-result c = let r = number_range _ ((sym c.is_number-2.ensures ∙ c.if-not-is_number-2.false)) in search rules

pub overflow_sub-result-2 : goal.overflow_sub-result-2
overflow_sub-result-2 c = let r = number_range _ ((sym c.is_number.ensures ∙ c.if-not-is_number.false)) in search rules

pub returns : goal.returns
unfolding numbers_left
returns c =
    let a = c.args in
    left_at a.number a.limit _ ((sym c.is_number.ensures ∙ c.if-not-is_number.false)) ((sym c.is_number-2.ensures ∙ c.if-not-is_number-2.false)) (rw (lt-leb a.number a.limit (omega arith)))
