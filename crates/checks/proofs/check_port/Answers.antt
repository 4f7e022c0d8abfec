use native.Mathlib.Omega.{arith}
use Rattle.checks.proofs.Rows.{port_unknown, port_up_lem, port_down_lem}
use Rattle.checks.proofs.check_port.Goals as goal

pub returns-then-named-ge64 : goal.returns-then-named-ge64
returns-then-named-ge64 c = λ ids card s g. port_unknown ids card s g c.if-named-ge64.true

pub returns-then-up : goal.returns-then-up
returns-then-up c = λ ids card s g. port_up_lem ids card s g (omega (arith, c.if-named-ge64.false)) c.if-up.true

pub returns : goal.returns
returns c = λ ids card s g. port_down_lem ids card s g (omega (arith, c.if-named-ge64.false)) c.if-up.false
