use mathlib.Core.Path.{◌∙◌}
use borrow.Author.Tests.{not-true, not-false}
use Rattle.octets.proofs.Tests.{taken, left}
use Rattle.readers.specs.Readers.{no_request, open_request_in, request_for}
use Rattle.readers.proofs.Parts.{is_no_request}
use Rattle.readers.proofs.request_in.Goals as goal

pub returns-then-not-x : goal.returns-then-not-x
unfolding open_request_in
returns-then-not-x c = let x = c.args.x in is_no_request c.default.ensures ∙ left x.asking (request_for x) no_request (not-true _ c.if-not-x.true)

pub returns : goal.returns
unfolding open_request_in
returns c = let x = c.args.x in taken x.asking (request_for x) no_request (not-false _ c.if-not-x.false)
