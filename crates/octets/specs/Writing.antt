-- What a writer leaves in the buffer that it is lent. Assumes nothing: these are definitions.
use Rattle.std.specs.Prelude.{ℕ, ◌≡◌, List, ◌++◌, length, drop}

-- the buffer l with w written over its start; beyond w it is kept
unfoldable pub over : List ℕ → List ℕ → List ℕ
over w l = w ++ drop (length w) l

-- w is written over the start of a buffer that held `before` and then holds `after`; r is how many octets that is
pub record Wrote (w : List ℕ) (r : ℕ) (before after : List ℕ) : Type 0 where
  pub size : r ≡ length w
  pub text : after ≡ over w before
