-- Worthless builds (CARD.md, "What is promised") that are about state: each has our start and readers but for what is
-- said, and the claim fails for it. Assumes nothing: these are definitions; the statements are proved in proofs/, and
-- owed with the claim.
use Rattle.std.specs.Prelude.{ℕ, cond, List, [], ◌∷◌, drop, eqb, Option, Some, None}
use Rattle.header.specs.Header.{header_in}
use Rattle.pool.specs.Pool.{committed_of}
use Rattle.card.specs.Cards.{Card}
use Rattle.card.specs.Outcome.{Outcome, keeps}
use Rattle.commands.specs.Commands.{ran_of}
use Rattle.control.specs.Control.{commands_in}
use Rattle.transfers.specs.Transfers.{transfer_gives}
use Rattle.demand3.specs.Calls.{Tables, Call, Build, ours, outcome_of, of_join, of_message}
use Rattle.demand3.specs.Reads.{kind_in, port_in}
use Rattle.demand3.specs.Claim.{Claim}

-- our build with other calls
abbrev pub calling : (Tables → Card → Call → Outcome) → Build
calling outcome =
    record {
      start = ours.start;
      outcome = outcome;
      is_up = ours.is_up;
      delegation = ours.delegation;
      committed = ours.committed;
      active = ours.active;
      flows = ours.flows;
    }

-- refuses every join, as if it were black
unfoldable pub refusing_joins : Tables → Card → Call → Outcome
refusing_joins t card x = of_join (λ p f space. keeps card 3) (outcome_of t card x) x

-- gives one number to every call, whatever it does and writes
unfoldable pub one_answer : ℕ → (Tables → Card → Call → Card) → (Tables → Card → Call → List ℕ) → Tables → Card → Call → Outcome
one_answer number does writes t card x = record { card = does t card x; number = number; reply = writes t card x }

-- a dead card: 7 to every call, and nothing changes
unfoldable pub dead : Tables → Card → Call → Outcome
dead t card x = keeps card 7

-- changes nothing, and answers as ours does
unfoldable pub changing_nothing : Tables → Card → Call → Outcome
changing_nothing t card x = record { card = card; number = (outcome_of t card x).number; reply = (outcome_of t card x).reply }

-- runs command 1 of a 144 and merely acknowledges the others
unfoldable pub first_run : Tables → Card → List (List ℕ) → Option ℕ → Card
first_run t card [] found = card
first_run t card (c ∷ cs) None = card
first_run t card (c ∷ cs) (Some p) = (ran_of t.channels card p c).card

unfoldable pub first_only : Tables → Card → Call → Outcome
first_only t card x =
    of_message
    (λ m space. cond (eqb (kind_in m) 144)
    (record {
      card = first_run t card (commands_in (drop 16 m)) (port_in t m);
      number = (outcome_of t card x).number;
      reply = (outcome_of t card x).reply;
    })
    (outcome_of t card x))
    (outcome_of t card x) x

-- invents the committed amount
abbrev pub inventing : Build
inventing =
    record {
      start = ours.start;
      outcome = ours.outcome;
      is_up = ours.is_up;
      delegation = ours.delegation;
      committed = λ t card p. 0;
      active = ours.active;
      flows = ours.flows;
    }

-- leaves a flow out of a port's list
abbrev pub forgetful : Build
forgetful =
    record {
      start = ours.start;
      outcome = ours.outcome;
      is_up = ours.is_up;
      delegation = ours.delegation;
      committed = ours.committed;
      active = ours.active;
      flows = λ t card p. drop 1 (ours.flows t card p);
    }

-- refuses every message as unusable
unfoldable pub refusing_messages : Tables → Card → Call → Outcome
refusing_messages t card x = of_message (λ m space. keeps card 15) (outcome_of t card x) x

-- robs port 0: a 146 for another port cuts port 0's delegation to what is committed there, and the 147 says so, and names port 0
unfoldable pub robbed : Tables → Card → List ℕ → Option ℕ → Outcome → Outcome
robbed t card m None o = o
robbed t card m (Some p) o = cond (eqb p 0) o (transfer_gives t.ids card (header_in m) 0 (committed_of t.channels card.pool 0))

unfoldable pub robber : Tables → Card → Call → Outcome
robber t card x =
    of_message (λ m space. cond (eqb (kind_in m) 146) (robbed t card m (port_in t m) (outcome_of t card x)) (outcome_of t card x)) (outcome_of t card x) x

pub record Worthless : Type 0 where
  pub refuses_every_join : Claim (calling refusing_joins) → ⊥
  pub gives_one_answer : (number : ℕ) (does : Tables → Card → Call → Card) (writes : Tables → Card → Call → List ℕ)
      → Claim (calling (one_answer number does writes)) → ⊥
  pub is_dead : Claim (calling dead) → ⊥
  pub changes_nothing : Claim (calling changing_nothing) → ⊥
  pub runs_command_1 : Claim (calling first_only) → ⊥
  pub refuses_every_message : Claim (calling refusing_messages) → ⊥
  pub invents_committed : Claim inventing → ⊥
  pub leaves_out_a_flow : Claim forgetful → ⊥
  pub robs_a_port : Claim (calling robber) → ⊥
