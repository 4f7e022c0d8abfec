use native.Mathlib.Omega.{arith}
use Rattle.hexadecimal.proofs.Values.{digit_some, digit_none, below_0, from_0, below_capital_a, from_capital_a, below_small_a, from_small_a, beyond}
use Rattle.hexadecimal.proofs.value.Goals as goal

pub returns-in-48-to-57 : goal.returns-in-48-to-57
returns-in-48-to-57 c = digit_some _ _ (from_0 _ (omega arith) (omega arith)) (omega arith)

pub returns-in-65-to-70 : goal.returns-in-65-to-70
returns-in-65-to-70 c = digit_some _ _ (from_capital_a _ (omega arith) (omega arith) (omega arith)) (omega arith)

pub returns-in-97-to-102 : goal.returns-in-97-to-102
returns-in-97-to-102 c = digit_some _ _ (from_small_a _ (omega arith) (omega arith) (omega arith)) (omega arith)

pub returns-in_default : goal.returns-in_default
returns-in_default c = digit_none _ (below_0 _ (omega arith))

pub returns-in_default-2 : goal.returns-in_default-2
returns-in_default-2 c = digit_none _ (below_capital_a _ (omega arith) (omega arith))

pub returns-in_default-3 : goal.returns-in_default-3
returns-in_default-3 c = digit_none _ (below_small_a _ (omega arith) (omega arith))

pub returns-in_default-4 : goal.returns-in_default-4
returns-in_default-4 c = digit_none _ (beyond _ (omega arith) (omega arith))
