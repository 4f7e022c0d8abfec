use mathlib.Core.Path.{refl}
use Rattle.replyback.proofs.Answers.{kinds_back}
use Rattle.replyback.proofs.Lengths.{sizes}
use Rattle.replyback.proofs.Begun.{every_reply}
use Rattle.replyback.proofs.largest_reply.Goals as goal

pub returns : goal.returns
returns c = (refl, kinds_back, sizes, every_reply)
