-- What a call comes to (CARD.md, "Calls and their numbers"): the card after it, the number, the reply's octets.
-- Assumes nothing: these are definitions.
use Rattle.std.specs.Prelude.{ℕ, ◌≡◌, List, [], length}
use Rattle.octets.specs.Writing.{over}
use Rattle.card.specs.Cards.{Card}

pub record Outcome : Type 0 where
  pub card : Card
  pub number : ℕ
  pub reply : List ℕ

-- the card stays as it is, and nothing is written
abbrev pub keeps : Card → ℕ → Outcome
keeps card number = record { card = card; number = number; reply = [] }

-- done, without a reply
abbrev pub becomes : Card → Outcome
becomes card = record { card = card; number = 0; reply = [] }

-- done, with a reply
abbrev pub writes : Card → List ℕ → Outcome
writes card w = record { card = card; number = 0; reply = w }

-- what a call leaves and answers: the card, the number and how many octets are written
pub record Done : Type 0 where
  pub card : Card
  pub number : ℕ
  pub length : ℕ

abbrev pub done_of : Outcome → Done
done_of o = record { card = o.card; number = o.number; length = length o.reply }

-- and what it leaves in the buffer that it is lent: the reply over its start, beyond it the buffer is kept
pub record Ends (o : Outcome) (r : Done) (before after : List ℕ) : Type 0 where
  pub gives : r ≡ done_of o
  pub text : after ≡ over o.reply before
