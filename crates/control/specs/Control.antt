-- Multicast Replication Control (144), past the table: commands run in order, the first failure ends the message and
-- keeps the commands before it (CARD.md, "Multicast Replication Control (144)"). Assumes nothing: these are
-- definitions.
use Rattle.std.specs.Prelude.{ℕ, ◌+◌, cond, List, [], ◌∷◌, ◌++◌, eqb}
use Rattle.header.specs.declared.Header.{Header}
use Rattle.items.specs.Items.{items_of, of_type}
use Rattle.writers.specs.Tlvs.{tlv_of, target_of, sequence_of}
use Rattle.replies.specs.Replies.{refusal_of, success_of}
use Rattle.circuits.specs.Circuits.{id_at}
use Rattle.pool.specs.declared.Pool.{Pool}
use Rattle.card.specs.Cards.{Card, with_pool}
use Rattle.card.specs.Outcome.{Done, Outcome, becomes, writes, Ends}
use Rattle.card.specs.declared.Terms.{Terms}
use Rattle.card.specs.Parts.{HasTerms}
use Rattle.commands.specs.Commands.{ran_of}

-- "Failure: Generic Response, Status-Info enclosing Target, Sequence-Number (first command is 1) and the failed Command as received"
unfoldable pub failure_of : Header → ℕ → List ℕ → ℕ → List ℕ → List ℕ
failure_of h code id seq c = refusal_of h code (target_of id ++ sequence_of seq ++ tlv_of 0x0011 c)

-- "All good: nothing for Result 1; for Result 2 a Generic Response, Success, code 0, header only"
unfoldable pub all_good : Header → Card → Outcome
all_good h card = cond (eqb h.result 2) (writes card (success_of h)) (becomes card)

-- the commands cs, of which the first is number seq, on port p with circuit id `id`
unfoldable pub commands_from : List ℕ → Header → List ℕ → ℕ → Card → ℕ → List (List ℕ) → Outcome
commands_from channels h id p card seq [] = all_good h card
commands_from channels h id p card seq (c ∷ cs) =
    cond (eqb (ran_of channels card p c).code 0)
    (commands_from channels h id p (ran_of channels card p c).card (seq + 1) cs)
    (writes card (failure_of h (ran_of channels card p c).code id seq c))

-- the Commands at top level, in order
abbrev pub commands_in : List ℕ → List (List ℕ)
commands_in s = of_type 0x0011 (items_of s)

unfoldable pub controlled : List ℕ → List ℕ → Card → Header → ℕ → List ℕ → Outcome
controlled ids channels card h p s = commands_from channels h (id_at ids p) p card 1 (commands_in s)

-- ---- the same on maps that are lent

-- what a call gives that wrote n octets of reply
abbrev pub wrote : Card → ℕ → Done
wrote card n = record { card = card; number = 0; length = n }

-- a function that was lent the maps `before` and the buffer `text`, left the maps as `after` and the buffer as `written`, and wrote n
-- octets: on every card with these terms and maps that is what `o` comes to
pub record Controls (o : Card → Outcome) (terms : Terms) (before after : Pool) (n : ℕ) (text written : List ℕ) : Type 0 where
  pub each : (card : Card) → HasTerms card terms.at terms → Ends (o (with_pool card before)) (wrote (with_pool card after) n) text written
