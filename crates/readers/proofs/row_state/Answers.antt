use native.Mathlib.Omega.{arith}
use mathlib.Core.Path.{◌∙◌}
use Rattle.octets.proofs.Tests.{taken, left}
use Rattle.readers.specs.Readers.{row_state_at}
use Rattle.readers.proofs.Parts.{is_port_lem, not_port}
use Rattle.readers.proofs.row_state.Goals as goal

pub returns-then-not-is_port : goal.returns-then-not-is_port
unfolding row_state_at
returns-then-not-is_port c card h = c.none.ensures ∙ left _ _ _ (not_port card _ _ h c.is_port.ensures.test c.if-not-is_port.true)

pub overflow_cast-p : goal.overflow_cast-p
overflow_cast-p c = omega (arith, c.is_port.ensures.inside (c.if-not-is_port.false))

pub returns : goal.returns
unfolding row_state_at
returns c card h =
    c.state_of.ensures.state
    ∙ taken _ _ _ (is_port_lem card _ _ h c.is_port.ensures.test c.if-not-is_port.false)
