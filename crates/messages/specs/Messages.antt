-- What a message m that is handed in comes to (CARD.md, "A message, check by check"). Assumes nothing: these are
-- definitions.
use Rattle.std.specs.Prelude.{ℕ, Bool, cond, ◌&&◌, ◌||◌, List, drop, eqb, ltb, Option, None, Some, Result, Ok, Err}
use Rattle.header.specs.declared.Header.{Header}
use Rattle.header.specs.Header.{size_ok, head_in}
use Rattle.items.specs.Items.{items_of, first_of}
use Rattle.fields.specs.Fields.{allocation_in, request_in}
use Rattle.card.specs.Cards.{Card}
use Rattle.card.specs.Outcome.{Outcome, keeps, writes}
use Rattle.checks.specs.Table.{port_named, table_of, refused_of}
use Rattle.control.specs.Control.{controlled}
use Rattle.transfers.specs.Transfers.{reallocated, transferred}
use Rattle.queries.specs.Queries.{delegation_query, flow_query}

-- Result 3, Success, or 4, Failure: an answer
unfoldable pub is_answer : ℕ → Bool
is_answer result = eqb result 3 || eqb result 4

-- the server's reject notice: type 144 with Result 0
unfoldable pub is_notice : Header → Bool
is_notice h = eqb h.kind 144 && eqb h.result 0

-- past the table, by type, on port p; s is what follows the header h
unfoldable pub by_type : List ℕ → List ℕ → Card → Header → List ℕ → ℕ → Outcome
by_type ids channels card h s p =
    cond (eqb h.kind 144) (controlled ids channels card h p s)
    (cond (eqb h.kind 146) (reallocated ids channels card h p (request_in (first_of 0x0016 (items_of s))))
    (cond (eqb h.kind 148) (delegation_query ids card h p)
    (flow_query ids channels card h p)))

-- a row's refusal is answered, and the call returns 0
unfoldable pub requested : List ℕ → List ℕ → Card → Header → List ℕ → Result ℕ ℕ → Outcome
requested ids channels card h s (Err code) = writes card (refused_of h s code)
requested ids channels card h s (Ok p) = by_type ids channels card h s p

-- "For 147 these faults return 15, port faults 16"
unfoldable pub refused_number : ℕ → ℕ
refused_number code = cond (eqb code 0x500 || eqb code 0x6) 16 15

unfoldable pub offered : Card → Header → List ℕ → Result ℕ ℕ → Outcome
offered card h s (Err code) = keeps card (refused_number code)
offered card h s (Ok p) = transferred card h p (allocation_in (first_of 0x0015 (items_of s)))

-- "Type 147 needs Result 3 or 4 (else 15); any other type with Result 3 or 4 is 15 and unanswered. Type 144 with Result 0 is the
-- server's reject notice: 0, reply length 0, nothing changed." Then the table
unfoldable pub by_result : List ℕ → List ℕ → Card → Header → List ℕ → Outcome
by_result ids channels card h s =
    cond (eqb h.kind 147)
    (cond (is_answer h.result) (offered card h s (table_of ids card h s)) (keeps card 15))
    (cond (is_answer h.result) (keeps card 15)
    (cond (is_notice h) (keeps card 0)
    (requested ids channels card h s (table_of ids card h s))))

unfoldable pub by_head : List ℕ → List ℕ → Card → List ℕ → Option Header → Outcome
by_head ids channels card m None = keeps card 15
by_head ids channels card m (Some h) = by_result ids channels card h (drop 16 m)

-- "Number 13; then 15 for size, 0x880C, either length, version or submessage." space: how many octets the lent reply buffer has
unfoldable pub received_of : List ℕ → List ℕ → Card → List ℕ → ℕ → Outcome
received_of ids channels card m space =
    cond (ltb space 4608) (keeps card 13)
    (cond (size_ok m) (by_head ids channels card m (head_in m)) (keeps card 15))

-- the one port whose record and flows a message can change: the one that its Target names, or 64 where it is no port's;
-- 65 of a message whose size or header is wrong
unfoldable pub named_by : List ℕ → ℕ → List ℕ → Option Header → ℕ
named_by ids count m None = 65
named_by ids count m (Some h) = port_named ids count (drop 16 m)

unfoldable pub named_in : List ℕ → ℕ → List ℕ → ℕ
named_in ids count m = cond (size_ok m) (named_by ids count m (head_in m)) 65
