-- What a host may read of the card. Of a number that is no port's: down, delegation 0, nothing committed.
-- Assumes nothing: these are definitions.
use Rattle.std.specs.Prelude.{ℕ, Bool, false, cond, List}
use Rattle.pool.specs.Pool.{committed_of}
use Rattle.card.specs.Cards.{Card, has_port, port_at}

unfoldable pub up_of : Card → ℕ → Bool
up_of card p = cond (has_port card p) (port_at card p).up false

unfoldable pub delegation_of : Card → ℕ → ℕ
delegation_of card p = cond (has_port card p) (port_at card p).delegation 0

unfoldable pub committed_at : List ℕ → Card → ℕ → ℕ
committed_at channels card p = cond (has_port card p) (committed_of channels card.pool p) 0
