use Rattle.std.proofs.Common.{rules}
use Rattle.std.specs.Prelude.{is_none}
use mathlib.Core.Path.{ap, ◌∙◌}
use native.Mathlib.Omega.{arith}
use Rattle.octets.specs.Tests.{every}
use Rattle.tables.specs.Tables.{channel_ok}
use Rattle.channels.specs.Channels.{channel_at, channel_of}
use Rattle.rows.proofs.Rows.{none-is}
use Rattle.tables.proofs.Tables.{unused_channel}
use Rattle.tables.proofs.channel_ok.Goals as goal

pub returns-then-good_flow : goal.returns-then-good_flow
unfolding channel_ok every
returns-then-good_flow c =
    let a = c.args in
    let none = none-is _ _ c.is_none.ensures ∙ ap is_none (c.channel_of.ensures ∙ ap (channel_of a.channels.now a.i) c.channel_at-f.ensures) ∙ unused_channel a.channels.now (channel_at a.channels.now a.i) a.i (omega arith) in
    search rules

pub returns-else-good_flow : goal.returns-else-good_flow
unfolding channel_ok every
returns-else-good_flow c =
    search rules
