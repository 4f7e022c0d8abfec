-- The table of result codes (CARD.md, "A message, check by check"): row by row, each over the whole message before the
-- next, and what the Status-Info of each encloses. s is what follows the header. Assumes nothing: these are
-- definitions.
use Rattle.std.specs.Prelude.{ℕ, ◌<◌, ◌≡◌, Bool, false, cond, ◌||◌, List, [], ◌∷◌, length, eqb, Option, Some, None, Result, Ok, Err}
use Rattle.header.specs.declared.Header.{Header}
use Rattle.tlv.specs.Depth.{depth_of, list_ok}
use Rattle.items.specs.Items.{Item, items_of, first_of}
use Rattle.fields.specs.Fields.{circuit_id}
use Rattle.writers.specs.Tlvs.{tlv_of, target_of}
use Rattle.replies.specs.Replies.{refusal_of}
use Rattle.rules.specs.Rules.{handled, result_ok, transaction_ok, rules_of}
use Rattle.rules.specs.Named.{missing, bares, from_fault}
use Rattle.circuits.specs.Circuits.{port_of}
use Rattle.card.specs.Cards.{Card, port_at}

-- ---- when

-- the circuit id of the message's Target
unfoldable pub id_in : List ℕ → List ℕ
id_in s = circuit_id (first_of 0x1000 (items_of s))

-- the port that is found; 64 where none is
unfoldable pub number_of : Option ℕ → ℕ
number_of None = 64
number_of (Some p) = p

-- the port whose circuit id stands in the message's Target, among the first `count`; 64 where it is no port's
unfoldable pub port_named : List ℕ → ℕ → List ℕ → ℕ
port_named ids count s = number_of (port_of ids count (id_in s))

-- the message's Target names this port, and `up` tells whether it is up
pub record Located (ids : List ℕ) (card : Card) (s : List ℕ) (named : ℕ) (up : Bool) : Type 0 where
  pub port : named ≡ port_named ids card.head.port_count s
  pub state : named < 64 → (port_at card named).up ≡ up

-- port unknown, port down
unfoldable pub located : Card → Option ℕ → Result ℕ ℕ
located card None = Err 0x500
located card (Some p) = cond (port_at card p).up (Ok p) (Err 0x6)

-- the TLVs from the first one at fault on, in a message of a type
abbrev pub faults : ℕ → List ℕ → List Item
faults kind s = from_fault (rules_of kind) [] (items_of s)

-- the rows about TLVs: 0x54, 0x55, and then the port
unfoldable pub named_rows : List ℕ → Card → ℕ → List ℕ → Result ℕ ℕ
named_rows ids card kind s =
    cond (eqb (length (missing (rules_of kind) (items_of s))) 0)
    (cond (eqb (length (faults kind s)) 0)
    (located card (port_of ids card.head.port_count (id_in s)))
    (Err 0x55))
    (Err 0x54)

-- 0x51; 0x2 for the Result and then for transaction 0; 0x53; and then the others
unfoldable pub table_of : List ℕ → Card → Header → List ℕ → Result ℕ ℕ
table_of ids card h s =
    cond (handled h.kind)
    (cond (result_ok h.kind h.result)
    (cond (transaction_ok h.kind h.transaction)
    (cond (list_ok (depth_of h.result) false s)
    (named_rows ids card h.kind s)
    (Err 0x53))
    (Err 0x2))
    (Err 0x2))
    (Err 0x51)

-- the fields of a header that the rows read
pub record HasFields (h : Header) (kind result transaction : ℕ) : Type 0 where
  pub is_kind : h.kind ≡ kind
  pub is_result : h.result ≡ result
  pub is_transaction : h.transaction ≡ transaction

-- ---- what is enclosed

-- a copy of the first of some TLVs
unfoldable pub copy_of : List Item → List ℕ
copy_of [] = []
copy_of (i ∷ is) = tlv_of i.kind i.content

-- 0x54 encloses a bare header of each missing type, 0x55 a copy of the first top-level TLV at fault, 0x500 and 0x6 the Target with
-- the circuit id alone; 0x51, 0x2 and 0x53 nothing
unfoldable pub enclosed_of : ℕ → List ℕ → ℕ → List ℕ
enclosed_of kind s code =
    cond (eqb code 0x54) (bares (missing (rules_of kind) (items_of s)))
    (cond (eqb code 0x55) (copy_of (faults kind s))
    (cond (eqb code 0x500 || eqb code 0x6) (target_of (id_in s))
    []))

-- the answer to a message that a row refuses
abbrev pub refused_of : Header → List ℕ → ℕ → List ℕ
refused_of h s code = refusal_of h code (enclosed_of h.kind s code)
