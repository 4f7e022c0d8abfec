use native.Mathlib.Omega.{arith}
use mathlib.Core.Path.{◌∙◌}
use Rattle.octets.proofs.Tests.{taken, left}
use Rattle.card.specs.Figures.{committed_at}
use Rattle.readers.proofs.Parts.{is_port_lem, not_port}
use Rattle.readers.proofs.committed.Goals as goal

pub returns-then-not-is_port : goal.returns-then-not-is_port
unfolding committed_at
returns-then-not-is_port c card accounting h = left _ _ _ (not_port card _ _ h c.is_port.ensures.test c.if-not-is_port.true)

pub overflow_cast-p : goal.overflow_cast-p
overflow_cast-p c = omega (arith, c.is_port.ensures.inside (c.if-not-is_port.false))

pub returns : goal.returns
unfolding committed_at
returns c card accounting h =
    c.committed_of.ensures
    ∙ taken _ _ _ (is_port_lem card _ _ h c.is_port.ensures.test c.if-not-is_port.false)
