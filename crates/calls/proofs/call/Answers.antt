use Rattle.calls.proofs.Cases.{gives}
use Rattle.card.specs.Cards.{no_areas}
use Rattle.calls.proofs.call.Goals as goal

pub call_in-r-requires : goal.call_in-r-requires
call_in-r-requires c = (c.slot-at.ensures.0, c.port_of-p.ensures)

pub returns : goal.returns
returns c = gives c.args.core c.slot-at.result c.slot-at.ensures.1 c.call_in-r.ensures (c.done_with.ensures no_areas)
