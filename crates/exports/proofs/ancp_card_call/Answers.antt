use Rattle.exports.proofs.Called.{called}
use Rattle.exports.proofs.ancp_card_call.Goals as goal

pub returns : goal.returns
returns c = called c.args.core.now _ c.slot-at.ensures.1 c.call_in-r.ensures c.update.ensures
