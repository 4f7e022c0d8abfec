use Rattle.std.proofs.Common.{rules}
use Rattle.octets.specs.Tests.{every}
use Rattle.tables.specs.Tables.{entry_ok}
use Rattle.tables.proofs.entry_ok.Goals as goal

pub returns-then-within_address : goal.returns-then-within_address
unfolding entry_ok every
returns-then-within_address c =
    search rules

pub returns-else-within_address : goal.returns-else-within_address
unfolding entry_ok every
returns-else-within_address c =
    search rules
