use mathlib.Core.Path.{refl, sym, ◌∙◌}
use Rattle.octets.proofs.Writing.{over_none}
use Rattle.rules.proofs.Named.{one-missing, none-missing}
use Rattle.rules.proofs.put_if_missing.Goals as goal

pub returns-then-lacks : goal.returns-then-lacks
returns-then-lacks c = rw (one-missing _ _ (sym c.lacks.ensures ∙ c.if-lacks.true)) c.put_bare.ensures

pub returns : goal.returns
returns c = rw (none-missing _ _ (sym c.lacks.ensures ∙ c.if-lacks.false)) (record { size = refl; text = over_none _ })
