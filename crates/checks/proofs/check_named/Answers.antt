use mathlib.Core.Path.{ap, ◌∙◌}
use Rattle.std.specs.Prelude.{Err}
use Rattle.rules.specs.Rules.{rules_of}
use Rattle.rules.proofs.Walk.{extent_all, extent_bad}
use Rattle.checks.proofs.Rows.{row-bad, row_port}
use Rattle.checks.proofs.check_named.Goals as goal

pub returns-in-None : goal.returns-in-None
returns-in-None c = λ ids card g. c.check_port.ensures ids card _ g ∙ row_port ids card _ _ (extent_all (rules_of c.args.kind) c.args.tlvs.now c.extent_of.ensures c.in-None.is)

pub returns-in-Some : goal.returns-in-Some
returns-in-Some c = λ ids card g. ap Err c.named_code.ensures ∙ row-bad ids card _ _ (extent_bad (rules_of c.args.kind) c.args.tlvs.now c.extent_of.ensures c.in-Some.is)
