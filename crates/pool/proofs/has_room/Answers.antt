use Rattle.std.proofs.Common.{◌∙◌, arith}
use borrow.Author.Tests.{lt-ltb, le-ltb}
use Rattle.pool.proofs.Rooms.{room_none, room_four, room_full, room_more}
use Rattle.pool.proofs.has_room.Goals as goal

pub returns-then-i-ge512 : goal.returns-then-i-ge512
returns-then-i-ge512 c = room_none c.args.owner.now c.args.p c.free_of-i.ensures c.if-i-ge512.true

pub returns-then-n-lt4 : goal.returns-then-n-lt4
returns-then-n-lt4 c = let a = c.args in lt-ltb _ _ c.if-n-lt4.true ∙ room_four a.owner.now a.p c.free_of-i.ensures (omega arith) c.active_count-n.ensures (omega arith)

pub returns-then-n-lt16 : goal.returns-then-n-lt16
returns-then-n-lt16 c = let a = c.args in room_more a.owner.now a.p c.free_of-i.ensures (omega arith) c.active_count-n.ensures (omega arith) (omega arith) c.extras_of.ensures

pub returns-else-n-lt16 : goal.returns-else-n-lt16
returns-else-n-lt16 c = let a = c.args in le-ltb _ _ c.if-n-lt16.false ∙ room_full a.owner.now a.p c.free_of-i.ensures (omega arith) c.active_count-n.ensures (omega arith)
