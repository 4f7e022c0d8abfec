use mathlib.Core.Path.{refl, sym, ◌∙◌}
use Rattle.ports.specs.declared.Change.TheVariants.{BroughtUp}
use Rattle.card.specs.Cards.{with_pool}
use Rattle.card.proofs.Cases.{up_7, up-goes}
use Rattle.card.proofs.Parts.{is_here, comes-kept, comes-changed}
use Rattle.card.proofs.port_up_in.Goals as goal

pub returns-then-not-is_port : goal.returns-then-not-is_port
returns-then-not-is_port c pool text = comes-kept refl 7 c.unchanged.ensures (λ card h. up_7 (with_pool card pool) c.args.p (is_here h (sym c.is_port.ensures.test ∙ c.if-not-is_port.true)))

pub returns : goal.returns
returns c pool text = comes-changed refl (c.is_port.ensures.inside (c.if-not-is_port.false)) BroughtUp c.changed.ensures (λ card h. up-goes (with_pool card pool) c.args.p (is_here h (sym c.is_port.ensures.test ∙ c.if-not-is_port.false)))
