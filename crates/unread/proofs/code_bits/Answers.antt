use Rattle.std.proofs.Common.{refl}
use Rattle.unread.proofs.Messages.{unread}
use Rattle.unread.proofs.code_bits.Goals as goal

pub returns : goal.returns
returns c = (refl, unread)
