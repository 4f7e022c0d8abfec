use mathlib.Core.Path.{refl}
use Rattle.starred.specs.Starred.{case_rows}
use Rattle.starred.proofs.Table.{table}
use Rattle.starred.proofs.starred_cases.Goals as goal

pub returns : goal.returns
unfolding case_rows
returns c = (refl, table)
