use mathlib.Core.Path.{sym, ◌∙◌}
use borrow.Author.Rules.{rules}
use Rattle.numbers.proofs.Answers.{number_range, after_none, after_low, after_high}
use Rattle.numbers.proofs.number_after.Goals as goal

pub returns-then-not-is_number : goal.returns-then-not-is_number
returns-then-not-is_number c = let a = c.args in after_none a.number a.by (sym c.is_number.ensures ∙ c.if-not-is_number.true)

pub overflow_add-sum : goal.overflow_add-sum
overflow_add-sum c = let r = number_range _ ((sym c.is_number.ensures ∙ c.if-not-is_number.false)) in search rules

pub returns-then-sum-le16777215 : goal.returns-then-sum-le16777215
returns-then-sum-le16777215 c = let a = c.args in after_low a.number a.by ((sym c.is_number.ensures ∙ c.if-not-is_number.false)) c.if-sum-le16777215.true

pub returns : goal.returns
returns c = let a = c.args in after_high a.number a.by ((sym c.is_number.ensures ∙ c.if-not-is_number.false)) c.if-sum-le16777215.false
