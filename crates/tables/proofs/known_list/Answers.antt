use Rattle.std.proofs.Common.{rules}
use Rattle.octets.specs.Tests.{every}
use Rattle.tables.specs.Tables.{known_list}
use Rattle.tables.proofs.known_list.Goals as goal

pub returns-then-list-ge1 : goal.returns-then-list-ge1
unfolding known_list every
returns-then-list-ge1 c =
    search rules

pub returns-else-list-ge1 : goal.returns-else-list-ge1
unfolding known_list every
returns-else-list-ge1 c =
    search rules
