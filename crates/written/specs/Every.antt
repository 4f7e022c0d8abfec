-- The statement: on every card that calls reach from a start that is taken, what a call writes reads back. Assumes
-- nothing: this is a definition; it is proved in proofs/, and owed by `written::reply_room`.
use Rattle.std.specs.Prelude.{ℕ, ◌≡◌, List}
use Rattle.replyback.specs.Every.{Octets}
use Rattle.demand3.specs.Calls.{Tables, Call, ours, outcome_of, started_of, card_after, by_call}
use Rattle.written.specs.Written.{Written}

-- a message that is handed in has octets
abbrev pub InOctets : Call → Type 0
InOctets = by_call (λ p f space. Unit {0}) (λ p. Unit {0}) (λ m space. Octets m) (λ q. Unit {0})

pub record EveryWritten : Type 0 where
  pub each : (t : Tables) (first : ℕ) → (started_of t first).number ≡ 0 → (calls : List Call) (x : Call) → InOctets x
      → let card = card_after ours t (started_of t first).card calls in Written t card x (outcome_of t card x).reply
