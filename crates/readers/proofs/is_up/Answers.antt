use mathlib.Core.Path.{sym, ap, ◌∙◌}
use Rattle.octets.proofs.Tests.{taken, left}
use Rattle.ports.specs.declared.Port.{Port}
use Rattle.card.specs.Figures.{up_of}
use Rattle.readers.proofs.Parts.{is_port_lem, not_port}
use Rattle.readers.proofs.is_up.Goals as goal

pub returns-then-is_port : goal.returns-then-is_port
unfolding up_of
returns-then-is_port c card h =
    sym (ap (λ (x : Port). x.up) (h.port (c.is_port.ensures.inside c.if-is_port.true)))
    ∙ taken _ _ _ (is_port_lem card _ _ h.ports c.is_port.ensures.test c.if-is_port.true)

pub returns-else-is_port : goal.returns-else-is_port
unfolding up_of
returns-else-is_port c card h = c.if-is_port.false ∙ left _ _ _ (not_port card _ _ h.ports c.is_port.ensures.test c.if-is_port.false)
