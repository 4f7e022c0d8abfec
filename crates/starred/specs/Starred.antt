-- The starred cases (CARD.md, "Worked cases") as one table under a single statement, `Starred`: each call on its card
-- shows what is expected. Assumes nothing: these are definitions; the statement is proved in proofs/, and owed by
-- `starred::starred_cases`.
use Rattle.std.specs.Prelude.{ℕ, ◌≡◌, Bool, true, false, List, [], ◌∷◌, map}
use Rattle.header.specs.Header.{header_in}
use Rattle.pool.specs.Pool.{active_count, extras_of}
use Rattle.card.specs.Cards.{Card}
use Rattle.card.specs.Outcome.{Outcome}
use Rattle.demand3.specs.Calls.{Tables, Call, ours, of_join}
use Rattle.demand3.specs.Reads.{amount_in}
use Rattle.starred.specs.Givens.{tables, committed3000, committed3500, crowded, join_call, ask_call, request_call}

pub record Given : Type 0 where
  pub card : Card
  pub call : Call

-- what is read of a case. Where there is no reply, its fields are those of an empty one
pub record Shown : Type 0 where
  -- before the call: port 0's flows and the extras of all ports (for a join; else 0), and port 0's committed amount
  pub flows : ℕ
  pub extras : ℕ
  pub committed : ℕ
  -- the call's number; the reply's Result and code, its Bandwidth-Allocation, and its transaction
  pub number : ℕ
  pub result : ℕ
  pub code : ℕ
  pub amount : ℕ
  pub transaction : ℕ
  -- after the call: port 0's delegation, whether the flow of a join is active there, and the next transaction number
  pub delegation : ℕ
  pub active : Bool
  pub next : ℕ

unfoldable pub shown_by : Tables → Given → Outcome → Shown
shown_by t x o =
    record {
      flows = of_join (λ p f space. active_count x.card.pool 0) 0 x.call;
      extras = of_join (λ p f space. extras_of x.card.pool) 0 x.call;
      committed = ours.committed t x.card 0;
      number = o.number;
      result = (header_in o.reply).result;
      code = (header_in o.reply).code;
      amount = amount_in o.reply;
      transaction = (header_in o.reply).transaction;
      delegation = ours.delegation o.card 0;
      active = of_join (λ p f space. ours.active t o.card 0 f) false x.call;
      next = o.card.head.counter.number;
    }

-- what our build shows
unfoldable pub shown : Tables → Given → Shown
shown t x = shown_by t x (ours.outcome t x.card x.call)

pub record Row : Type 0 where
  pub given : Given
  pub expected : Shown

abbrev pub row : Card → Call → Shown → Row
row card call expected = record { given = record { card = card; call = call }; expected = expected }

-- in CARD.md's order
unfoldable pub case_rows : List Row
case_rows =
    -- "Delegation 4000, committed 3000: rate 1000 starts*"
    row committed3000 (join_call 17)
    (record { flows = 2; extras = 0; committed = 3000; number = 0; result = 0; code = 0; amount = 0; transaction = 0; delegation = 4000; active = true; next = 1 })
    -- "1001 gives 4*"
    ∷ row committed3000 (join_call 18)
    (record { flows = 2; extras = 0; committed = 3000; number = 4; result = 0; code = 0; amount = 0; transaction = 0; delegation = 4000; active = false; next = 1 })
    -- "256 extras: a fourth flow starts*"
    ∷ row (crowded 3 21 8) (join_call 16)
    (record { flows = 3; extras = 256; committed = 300; number = 0; result = 0; code = 0; amount = 0; transaction = 0; delegation = 4000; active = true; next = 1 })
    -- "a fifth gives 5*"
    ∷ row (crowded 4 21 8) (join_call 16)
    (record { flows = 4; extras = 256; committed = 400; number = 5; result = 0; code = 0; amount = 0; transaction = 0; delegation = 4000; active = false; next = 1 })
    -- "255 extras: a fifth starts*"
    ∷ row (crowded 4 21 7) (join_call 16)
    (record { flows = 4; extras = 255; committed = 400; number = 0; result = 0; code = 0; amount = 0; transaction = 0; delegation = 4000; active = true; next = 1 })
    -- "a 17th does not*"
    ∷ row (crowded 16 20 7) (join_call 16)
    (record { flows = 16; extras = 255; committed = 1600; number = 5; result = 0; code = 0; amount = 0; transaction = 0; delegation = 4000; active = false; next = 1 })
    -- "Delegation 6000, committed 3500, required/preferred: 4000/3000 gives 3500*"
    ∷ row (committed3500 1) (request_call 4000 3000)
    (record { flows = 0; extras = 0; committed = 3500; number = 0; result = 3; code = 0; amount = 3500; transaction = 7; delegation = 3500; active = false; next = 1 })
    -- "3400/3000 fails with 6000*"
    ∷ row (committed3500 1) (request_call 3400 3000)
    (record { flows = 0; extras = 0; committed = 3500; number = 0; result = 4; code = 0; amount = 6000; transaction = 7; delegation = 6000; active = false; next = 1 })
    -- "6000/6000 gives 6000*"
    ∷ row (committed3500 1) (request_call 6000 6000)
    (record { flows = 0; extras = 0; committed = 3500; number = 0; result = 3; code = 0; amount = 6000; transaction = 7; delegation = 6000; active = false; next = 1 })
    -- "7000/8000 gives 0x67*"
    ∷ row (committed3500 1) (request_call 7000 8000)
    (record { flows = 0; extras = 0; committed = 3500; number = 0; result = 4; code = 0x67; amount = 6000; transaction = 7; delegation = 6000; active = false; next = 1 })
    -- "6001/6001 succeeds with 6000*"
    ∷ row (committed3500 1) (request_call 6001 6001)
    (record { flows = 0; extras = 0; committed = 3500; number = 0; result = 3; code = 0; amount = 6000; transaction = 7; delegation = 6000; active = false; next = 1 })
    -- "Transaction 16,777,215 is followed by 1*"
    ∷ row (committed3500 16777215) (ask_call 7000 8000)
    (record { flows = 0; extras = 0; committed = 3500; number = 0; result = 0; code = 0; amount = 0; transaction = 16777215; delegation = 6000; active = false; next = 1 })
    ∷ []

unfoldable pub Starred : Type 0
Starred = map (λ x. shown tables x.given) case_rows ≡ map (λ x. x.expected) case_rows
