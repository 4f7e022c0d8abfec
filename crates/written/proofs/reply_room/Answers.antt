use mathlib.Core.Path.{refl}
use Rattle.written.proofs.Every.{every_written}
use Rattle.written.proofs.reply_room.Goals as goal

pub returns : goal.returns
returns c = (refl, every_written)
