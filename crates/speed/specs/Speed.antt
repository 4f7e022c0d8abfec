-- Answers as numbers, for C. Assumes nothing: these are definitions.
use Rattle.std.specs.Prelude.{ℕ, Option, Some, None}
use Rattle.lists.specs.declared.Colour.{Colour}
use Rattle.lists.specs.declared.Colour.TheVariants.{Black, Grey, White}

abbrev pub row_number : Option ℕ → ℕ
row_number (Some i) = i
row_number None = 256

abbrev pub list_number : Option Colour → ℕ
list_number (Some Black) = 2
list_number (Some Grey) = 3
list_number (Some White) = 1
list_number None = 0
