-- Bandwidth Reallocation Request (146) and Bandwidth Transfer (147), past the table (CARD.md, under these names).
-- Assumes nothing: these are definitions.
use Rattle.std.specs.Prelude.{ℕ, min, max, cond, List, eqb, ltb}
use Rattle.header.specs.declared.Header.{Header}
use Rattle.fields.specs.declared.Request.{Request}
use Rattle.replies.specs.Replies.{amount_reply}
use Rattle.circuits.specs.Circuits.{id_at}
use Rattle.ports.specs.Ports.{closed, delegated, answers, within}
use Rattle.pool.specs.Pool.{committed_of}
use Rattle.card.specs.Cards.{Card, port_at, with_port}
use Rattle.card.specs.Outcome.{Outcome, keeps, becomes, writes}

-- ---- 146: always answered by 147 with Target and Bandwidth-Allocation

-- "the larger of committed and the smaller of preferred and the present delegation"
unfoldable pub reduced_to : List ℕ → Card → ℕ → ℕ → ℕ
reduced_to channels card p preferred = max (committed_of channels card.pool p) (min preferred (port_at card p).delegation)

-- Failure keeps and carries the present delegation
unfoldable pub transfer_fails : List ℕ → Card → Header → ℕ → ℕ → Outcome
transfer_fails ids card h p code = writes card (amount_reply h 147 4 code (id_at ids p) (port_at card p).delegation)

-- Success sets and carries the new one; an open request is closed
unfoldable pub transfer_gives : List ℕ → Card → Header → ℕ → ℕ → Outcome
transfer_gives ids card h p amount =
    writes (with_port card p (delegated (port_at card p) amount)) (amount_reply h 147 3 0 (id_at ids p) amount)

-- "Preferred > required: Failure 0x67. Required < committed: Failure, code 0. Otherwise Success"
unfoldable pub reallocated : List ℕ → List ℕ → Card → Header → ℕ → Request → Outcome
reallocated ids channels card h p r =
    cond (ltb r.required r.preferred) (transfer_fails ids card h p 0x67)
    (cond (ltb r.required (committed_of channels card.pool p)) (transfer_fails ids card h p 0)
    (transfer_gives ids card h p (reduced_to channels card p r.preferred)))

-- ---- 147: port and transaction must match the open request

-- "Result 3 with an amount from required to preferred, both included, sets it and closes; Result 4 closes. Anything else is 16"
unfoldable pub transferred : Card → Header → ℕ → ℕ → Outcome
transferred card h p amount =
    cond (answers (port_at card p) h.transaction)
    (cond (eqb h.result 4) (becomes (with_port card p (closed (port_at card p))))
    (cond (within (port_at card p) amount) (becomes (with_port card p (delegated (port_at card p) amount)))
    (keeps card 16)))
    (keeps card 16)
