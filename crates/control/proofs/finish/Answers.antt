use mathlib.Core.Path.{refl}
use Rattle.card.proofs.Ends.{ends-kept}
use Rattle.control.proofs.Commands.{all_written, all_silent}
use Rattle.control.proofs.Ends.{ends-written}
use Rattle.control.proofs.finish.Goals as goal

pub returns-then-h-ne2 : goal.returns-then-h-ne2
returns-then-h-ne2 c card = ends-kept card 0 _ refl (all_silent c.args.h card c.if-h-ne2.true)

pub returns : goal.returns
returns c card = ends-written card c.put_success.ensures refl (all_written c.args.h card c.if-h-ne2.false)
