-- The link between the C functions and demand 3's claim: what `ancp_card_start_number`, the three functions that write a
-- fresh core (`ancp_port_fresh_in`, `ancp_pool_fresh_in`, `ancp_head_fresh_in`) and `ancp_card_call` are proved to do, over
-- any list of calls on one card with one set of tables, is a list of calls of the claim. Assumes nothing: these are
-- definitions; the statement is proved in proofs/.
use Rattle.std.specs.Prelude.{ℕ, ◌≡◌, List, [], ◌∷◌, map, length}
use Rattle.octets.specs.Writing.{over}
use Rattle.card.specs.declared.Core.{Core}
use Rattle.card.specs.Cards.{Card, card_of}
use Rattle.card.specs.Start.{fresh_core, fresh_areas}
use Rattle.demand3.specs.Calls.{Tables, Call, Seen, ours, started_of, card_after, history}
use Rattle.calls.specs.declared.HostCall.{HostCall}
use Rattle.calls.specs.Calls.{call_of}
use Rattle.exports.specs.declared.Answer.{Answer}
use Rattle.exports.specs.Answers.{CallDoes}

-- one call of `ancp_card_call`: what the host handed in, and what it had afterwards in its hand and in its reply buffer
pub record Turn : Type 0 where
  pub call : HostCall
  pub octets : List ℕ
  pub before : List ℕ
  pub answer : Answer
  pub after : List ℕ

-- a list of them with the tables of t, each on the card as the one before it left it, as the function's contract has it
pub data Run (t : Tables) : Card → List Turn → Card → Type 0 where
  none : {card : Card} → Run t card [] card
  more : {card next last : Card} {x : Turn} {xs : List Turn}
      → CallDoes t.ids t.channels t.entries card x.call x.octets x.answer next x.before x.after
      → Run t next xs last → Run t card (x ∷ xs) last

-- as calls of demand 3
abbrev pub call_in : Turn → Call
call_in x = call_of x.call x.octets (length x.before)

-- the host has what the claim's history says that it saw: the number, and the reply at the head of its buffer, the rest of it kept
pub record Has (x : Turn) (s : Seen) : Type 0 where
  pub call : s.call ≡ call_in x
  pub number : x.answer.number ≡ s.number
  pub size : x.answer.length ≡ length s.reply
  pub text : x.after ≡ over s.reply x.before

unfoldable pub AllHave : List Turn → List Seen → Type 0
AllHave [] [] = Unit {0}
AllHave [] (s ∷ ss) = ⊥
AllHave (x ∷ xs) [] = ⊥
AllHave (x ∷ xs) (s ∷ ss) = Has x s × AllHave xs ss

-- the host's card is the claim's card after these calls, and it has what the claim's history says
pub record Linked (t : Tables) (first : ℕ) (xs : List Turn) (last : Card) : Type 0 where
  pub card : last ≡ card_after ours t (started_of t first).card (map call_in xs)
  pub saw : AllHave xs (history ours t (started_of t first).card (map call_in xs))

-- a start that is taken: its number is 0, and the core that is then written is fresh: the ports' records, the pool, the head
pub record StartTaken (t : Tables) (first number : ℕ) (core : Core) : Type 0 where
  pub gives : number ≡ (started_of t first).number
  pub taken : number ≡ 0
  pub fresh : core ≡ fresh_core t.ports t.channel_count t.entry_count t.white_cac t.add_cac first

-- from a start that is taken, by the core that it wrote and the areas as they are at first
pub record Link : Type 0 where
  pub linked : (t : Tables) (first number : ℕ) (core : Core) → StartTaken t first number core
      → (xs : List Turn) (last : Card) → Run t (card_of core fresh_areas) xs last → Linked t first xs last
