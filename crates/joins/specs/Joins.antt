-- Join, check by check in CARD.md's order: 13, 7, 6, 8, 9, 1, then lists (3 or 2), 5, 4. Assumes nothing: these are
-- definitions.
use Rattle.std.specs.Prelude.{ℕ, ◌+◌, ◌≡◌, Bool, cond, List, eqb, leb, ltb, Option, Some, None, Result, Ok, Err, ⊤}
use Rattle.flows.specs.declared.Flow.{Flow}
use Rattle.flows.specs.Flows.{good_flow}
use Rattle.channels.specs.Channels.{channel_of, rate_at}
use Rattle.lists.specs.declared.Colour.{Colour}
use Rattle.lists.specs.declared.Colour.TheVariants.{Black, Grey, White}
use Rattle.lists.specs.Lists.{list_decision}
use Rattle.circuits.specs.Circuits.{id_at}
use Rattle.ports.specs.Transactions.{taken_from}
use Rattle.pool.specs.declared.Pool.{Pool}
use Rattle.pool.specs.Pool.{is_active, committed_of, has_room, began}
use Rattle.card.specs.Cards.{Card, has_port, port_at, with_pool, with_counter}
use Rattle.card.specs.Outcome.{Outcome, keeps, becomes}
use Rattle.begun.specs.Begun.{admission_of}
use Rattle.joins.specs.declared.Refusal.{Refusal}
use Rattle.joins.specs.declared.Refusal.TheVariants.{NoRoom, OverDelegation}

-- the rate of channel k fits: with what is committed it does not pass the delegation
unfoldable pub fits : List ℕ → Card → ℕ → ℕ → Bool
fits channels card p k = leb (committed_of channels card.pool p + rate_at channels k) (port_at card p).delegation

-- room, and then, under admission control, the rate: 5, 4, or 0
unfoldable pub admit_number : List ℕ → Card → Bool → ℕ → ℕ → ℕ
admit_number channels card cac p k = cond (has_room card.pool p) (cond cac (cond (fits channels card p k) 0 4) 0) 5

-- what a refusal is in numbers, and what admission answers: 0 where it admits
unfoldable pub refusal_number : Refusal → ℕ
refusal_number NoRoom = 5
refusal_number OverDelegation = 4

unfoldable pub admission_number : Result ⊤ Refusal → ℕ
admission_number (Ok done) = 0
admission_number (Err refusal) = refusal_number refusal

-- the card's pool has this one's owners, channels and charges, and port p this delegation: what admission asks for
pub record AsLent (card : Card) (pool : Pool) (p amount : ℕ) : Type 0 where
  pub owner : card.pool.owner ≡ pool.owner
  pub channel : card.pool.channel ≡ pool.channel
  pub charged : card.pool.charged ≡ pool.charged
  pub delegation : (port_at card p).delegation ≡ amount

-- white: the flow begins, charged exactly if White-List-CAC is on, with accounting 0
unfoldable pub white_of : List ℕ → Card → ℕ → ℕ → Outcome
white_of channels card p k =
    cond (eqb (admit_number channels card card.head.white_cac p k) 0)
    (becomes (with_pool card (began card.pool p k card.head.white_cac 0)))
    (keeps card (admit_number channels card card.head.white_cac p k))

-- grey: Admission Control is written, ports and flows are kept, and a transaction number is used
unfoldable pub grey_of : List ℕ → Card → ℕ → Flow → Outcome
grey_of ids card p f =
    record {
      card = with_counter card (taken_from card.head.counter).next;
      number = 2;
      reply = admission_of (taken_from card.head.counter).number (id_at ids p) f;
    }

-- black or matched by no entry: ignored
unfoldable pub by_list : List ℕ → List ℕ → Card → ℕ → Flow → ℕ → Option Colour → Outcome
by_list ids channels card p f k (Some White) = white_of channels card p k
by_list ids channels card p f k (Some Grey) = grey_of ids card p f
by_list ids channels card p f k (Some Black) = keeps card 3
by_list ids channels card p f k None = keeps card 3

unfoldable pub join_row : List ℕ → List ℕ → List ℕ → Card → ℕ → Flow → Option ℕ → Outcome
join_row ids channels entries card p f None = keeps card 9
join_row ids channels entries card p f (Some k) =
    cond (is_active card.pool p k) (keeps card 1) (by_list ids channels card p f k (list_decision entries card.head.entry_count f))

-- space: how many octets the lent reply buffer has
unfoldable pub join_of : List ℕ → List ℕ → List ℕ → Card → ℕ → Flow → ℕ → Outcome
join_of ids channels entries card p f space =
    cond (ltb space 4608) (keeps card 13)
    (cond (has_port card p)
    (cond (port_at card p).up
    (cond (good_flow f)
    (join_row ids channels entries card p f (channel_of channels card.head.channel_count f))
    (keeps card 8))
    (keeps card 6))
    (keeps card 7))
