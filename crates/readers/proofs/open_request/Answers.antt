use mathlib.Core.Path.{sym, ap, ◌∙◌}
use Rattle.octets.proofs.Tests.{taken, left}
use Rattle.readers.specs.Readers.{open_request_in, open_request_of}
use Rattle.readers.proofs.Parts.{is_no_request, is_port_lem, not_port}
use Rattle.readers.proofs.open_request.Goals as goal

pub returns-then-not-is_port : goal.returns-then-not-is_port
unfolding open_request_of
returns-then-not-is_port c card h = is_no_request c.default.ensures ∙ left _ _ _ (not_port card _ _ h.ports c.is_port.ensures.test c.if-not-is_port.true)

pub returns : goal.returns
unfolding open_request_of
returns c card h =
    let inside = c.is_port.ensures.inside (c.if-not-is_port.false) in
    c.request_in.ensures
    ∙ sym (ap open_request_in (h.port inside))
    ∙ taken _ _ _ (is_port_lem card _ _ h.ports c.is_port.ensures.test c.if-not-is_port.false)
