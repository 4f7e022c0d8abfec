-- What a C host has of a call's outcome. Assumes nothing: these are definitions.
use Rattle.std.specs.Prelude.{◌≡◌, ℕ, List, length}
use Rattle.octets.specs.Writing.{over}
use Rattle.card.specs.Cards.{Card}
use Rattle.card.specs.Outcome.{Outcome}
use Rattle.demand3.specs.Calls.{outcome_of}
use Rattle.calls.specs.declared.HostCall.{HostCall}
use Rattle.calls.specs.Calls.{tables_of, call_of}
use Rattle.exports.specs.declared.Answer.{Answer}

-- what the host has after a call that came to o: the answer, its card, and the buffer that it lent for the reply
pub record Answers (o : Outcome) (r : Answer) (card : Card) (before after : List ℕ) : Type 0 where
  pub number : r.number ≡ o.number
  pub size : r.length ≡ length o.reply
  pub kept : card ≡ o.card
  pub text : after ≡ over o.reply before

-- what `ancp_card_call` does to a host's card, with the tables that it lends: the call comes to what demand 3 says of it
abbrev pub CallDoes : (ids channels entries : List ℕ) → Card → HostCall → List ℕ → Answer → Card → (before after : List ℕ) → Type 0
CallDoes ids channels entries card call octets r next before after =
    Answers (outcome_of (tables_of card ids channels entries) card (call_of call octets (length before))) r next before after
