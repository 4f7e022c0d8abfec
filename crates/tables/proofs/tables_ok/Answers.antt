use Rattle.std.proofs.Common.{rules}
use Rattle.octets.specs.Tests.{every}
use Rattle.tables.specs.Tables.{tables_ok}
use Rattle.tables.proofs.tables_ok.Goals as goal

pub returns-then-channels_ok : goal.returns-then-channels_ok
unfolding tables_ok every
returns-then-channels_ok c =
    search rules

pub returns-else-channels_ok : goal.returns-else-channels_ok
unfolding tables_ok every
returns-else-channels_ok c =
    search rules
