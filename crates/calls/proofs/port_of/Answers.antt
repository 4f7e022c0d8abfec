use borrow.Author.Tests.{lt-ltb, le-ltb}
use Rattle.calls.specs.Calls.{port_about}
use Rattle.calls.proofs.port_of.Goals as goal

pub returns-then-call-lt6 : goal.returns-then-call-lt6
unfolding port_about
returns-then-call-lt6 c = rw (lt-ltb _ _ c.if-call-lt6.true)

pub returns : goal.returns
unfolding port_about
returns c = rw (le-ltb _ _ c.if-call-lt6.false) c.port_named.ensures
