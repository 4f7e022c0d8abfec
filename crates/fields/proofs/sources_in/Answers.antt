use native.Mathlib.Omega.{arith}
use Rattle.fields.proofs.Widths.{width_most}
use Rattle.fields.proofs.sources_in.Goals as goal

pub overflow_add-width_of : goal.overflow_add-width_of
overflow_add-width_of c = omega (arith, width_most c.read8.result)
