-- A call on the parts of a card: the pool's maps and the areas are lent, and what else it asks for stands in its terms,
-- so that the card is not copied. Assumes nothing: these are definitions.
use Rattle.std.specs.Prelude.{ℕ, ◌<◌, ◌≡◌, List}
use Rattle.ports.specs.declared.Port.{Port}
use Rattle.ports.specs.declared.Change.{Change}
use Rattle.ports.specs.Ports.{changed_by}
use Rattle.pool.specs.declared.Pool.{Pool}
use Rattle.card.specs.declared.CardHead.{CardHead}
use Rattle.card.specs.declared.Terms.{Terms}
use Rattle.card.specs.declared.Effect.{Effect}
use Rattle.card.specs.declared.Returned.{Returned}
use Rattle.card.specs.Cards.{Card, Areas, core_of, port_at, with_port, with_pool, with_head, with_areas}
use Rattle.card.specs.Outcome.{Outcome, Done, Ends}

abbrev pub terms_of : ℕ → CardHead → Port → Terms
terms_of at head x = record { at = at; head = head; port = x }

-- what a call on the port at this place of the table asks of the card besides the pool's maps
abbrev pub terms_at : Card → ℕ → Terms
terms_at card at = terms_of at card.head (port_at card at)

-- these are the card's terms, and the place is port p's where p is below 64; of a call about no port or about several,
-- p is 64 or more
pub record HasTerms (card : Card) (p : ℕ) (terms : Terms) : Type 0 where
  pub same : terms_at card terms.at ≡ terms
  pub place : p < 64 → terms.at ≡ p

-- the card whose port at this place has changed: no other port's record changes
abbrev pub changed_at : Card → ℕ → Change → Card
changed_at card at c = with_port card at (changed_by c (port_at card at))

-- the card with these maps, and with what a call on them gave
abbrev pub done_with : Card → ℕ → Pool → Effect → Done
done_with card at pool r =
    record {
      card = with_head (changed_at (with_pool card pool) at r.change) r.head;
      number = r.number;
      length = r.length;
    }

-- what of it a call by value returns
abbrev pub returned_of : Done → Returned
returned_of d = record { core = core_of d.card; number = d.number; length = d.length }

-- a function that was lent the maps `before` and left them as `after`, that was lent a buffer with the octets `text` and left it with
-- `written`, and gave r: on every card with these terms and maps that is what `o` comes to
pub record ComesTo (o : Card → Outcome) (p : ℕ) (terms : Terms) (before after : Pool) (r : Effect) (text written : List ℕ) : Type 0 where
  pub each : (card : Card) → HasTerms card p terms → Ends (o (with_pool card before)) (done_with card terms.at after r) text written

-- the same of a function that was lent areas too, and left them as `left`
pub record AreasComeTo (o : Card → Outcome) (p : ℕ) (terms : Terms) (before after : Pool) (areas left : Areas) (r : Effect) (text written : List ℕ) : Type 0 where
  pub each : (card : Card) → HasTerms card p terms → Ends (o (with_areas (with_pool card before) areas)) (done_with (with_areas card left) terms.at after r) text written
