-- What each message type asks, by its type (CARD.md, "A message, check by check"): the TLVs that its rules name, its
-- Results and its transaction number. A type more is a line in `types`, and one in `result_ok` and in `transaction_ok` where
-- it asks something else. Assumes nothing: these are definitions.
use Rattle.std.specs.Prelude.{ℕ, Bool, true, false, cond, ◌||◌, List, [], ◌∷◌, eqb, ltb}
use Rattle.rules.specs.declared.Rule.{Rule}

-- ---- the table by type
-- the rule for the TLVs of type t in a message: `needed`, one of them must stand; `single`, no second one may. Where a
-- TLV of another type serves as well, that type is `instead`; here none does
abbrev pub rule : ℕ → Bool → Bool → Rule
rule t needed single = record { kind = t; instead = t; needed = needed; single = single }

-- a message type, with the TLVs that its rules name, in the row's order; all others are stepped over
pub record MessageType : Type 0 where
  pub kind : ℕ
  pub rules : List Rule

abbrev pub message_type : ℕ → List Rule → MessageType
message_type kind rules = record { kind = kind; rules = rules }

-- 144, 146, 147, 148 and 149; of TLVs Target 0x1000, Command 0x0011 (144), Bandwidth-Request 0x0016 (146),
-- Bandwidth-Allocation 0x0015 (147), each with its type, whether it is needed and whether it is single
abbrev pub types : List MessageType
types =
    message_type 144 (rule 0x1000 true true ∷ rule 0x0011 true false ∷ []) ∷
    message_type 146 (rule 0x1000 true true ∷ rule 0x0016 true true ∷ []) ∷
    message_type 147 (rule 0x1000 true true ∷ rule 0x0015 true true ∷ []) ∷
    message_type 148 (rule 0x1000 true true ∷ []) ∷
    message_type 149 (rule 0x1000 true true ∷ []) ∷
    []

unfoldable pub is_among : ℕ → List MessageType → Bool
is_among kind [] = false
is_among kind (t ∷ ts) = eqb kind t.kind || is_among kind ts

unfoldable pub rules_among : ℕ → List MessageType → List Rule
rules_among kind [] = []
rules_among kind (t ∷ ts) = cond (eqb kind t.kind) t.rules (rules_among kind ts)

-- the types of the table are handled
unfoldable pub handled : ℕ → Bool
handled kind = is_among kind types

-- the rules of a type; none where it is not handled
unfoldable pub rules_of : ℕ → List Rule
rules_of kind = rules_among kind types

-- ---- Result and transaction
-- Result 1 or 2 (144), 0 (146), 2 (148, 149). That of a 147 was looked at before
unfoldable pub result_ok : ℕ → ℕ → Bool
result_ok kind result =
    cond (eqb kind 144) (eqb result 1 || eqb result 2)
    (cond (eqb kind 146) (eqb result 0)
    (cond (eqb kind 147) true
    (eqb result 2)))

-- zero is no transaction: a 144, 146, 148 or 149 has one from 1 on. That of a 147 is compared with the open request's
unfoldable pub transaction_ok : ℕ → ℕ → Bool
transaction_ok kind transaction = eqb kind 147 || ltb 0 transaction
