-- What stands before the TLVs that a refusal encloses: it is written last, once their octets are counted.
-- Assumes nothing: these are definitions.
use Rattle.std.specs.Prelude.{ℕ, ◌+◌, List, ◌++◌}
use Rattle.header.specs.declared.Header.{Header}
use Rattle.header.specs.Header.{header_of}
use Rattle.writers.specs.Heads.{status_head}
use Rattle.replies.specs.Replies.{reply_header}

unfoldable pub refusal_head : Header → ℕ → ℕ → List ℕ
refusal_head h code n = header_of (reply_header h 91 4 code) (8 + n) ++ status_head h.kind n
