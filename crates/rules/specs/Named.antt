-- What is missing, and what is at fault, among the TLVs that a message's rules name. Assumes nothing: these are
-- definitions.
use Rattle.std.specs.Prelude.{ℕ, ◌≤◌, ◌≡◌, Bool, false, cond, not, ◌&&◌, ◌||◌, List, [], ◌∷◌, ◌++◌, length, drop, eqb, Option, Some, None}
use Rattle.items.specs.Items.{Item, items_of, count_of}
use Rattle.fields.specs.Fields.{circuit_ids, length_ok}
use Rattle.writers.specs.Tlvs.{bare_of}
use Rattle.rules.specs.declared.Rule.{Rule}

-- ---- 0x54
-- the rule needs a TLV, and none stands
unfoldable pub lacks : Rule → List Item → Bool
lacks r is = r.needed && (eqb (count_of r.kind is) 0 && eqb (count_of r.instead is) 0)

-- the types that are missing, in the row's order
unfoldable pub missing : List Rule → List Item → List ℕ
missing [] is = []
missing (r ∷ rs) is = cond (lacks r is) (r.kind ∷ missing rs is) (missing rs is)

-- a bare header of each type, in their order
unfoldable pub bares : List ℕ → List ℕ
bares [] = []
bares (t ∷ ts) = bare_of t ++ bares ts

-- ---- 0x55
-- a Target holds a single circuit id; another TLV has the fixed length of its type, if that has one
unfoldable pub content_ok : ℕ → List ℕ → Bool
content_ok t c = cond (eqb t 0x1000) (eqb (circuit_ids c) 1) (length_ok t c)

-- type t is among those that stood before
unfoldable pub stood : ℕ → List ℕ → Bool
stood t [] = false
stood t (x ∷ xs) = eqb x t || stood t xs

-- by the rule for its type, a TLV is at fault if it is a second one where none may stand, or if its content is wrong. A
-- type without a rule is stepped over
unfoldable pub at_fault : List Rule → List ℕ → Item → Bool
at_fault [] before i = false
at_fault (r ∷ rs) before i =
    cond (eqb i.kind r.kind)
    ((r.single && stood i.kind before) || not (content_ok i.kind i.content))
    (at_fault rs before i)

-- the TLVs from the first one at fault on; `before` are the types of those before
unfoldable pub from_fault : List Rule → List ℕ → List Item → List Item
from_fault rs before [] = []
from_fault rs before (i ∷ is) = cond (at_fault rs before i) (i ∷ is) (from_fault rs (i.kind ∷ before) is)

-- ---- how the code finds both; need not be believed
-- how far the TLVs s are as the rules ask: all of them, where nothing is missing and nothing at fault; or up to a place,
-- where something is, and from there on stand those from the first one at fault on
unfoldable pub HasExtent : List Rule → List ℕ → Option ℕ → Type 0
HasExtent rs s None = (missing rs (items_of s) ≡ []) × (from_fault rs [] (items_of s) ≡ [])
HasExtent rs s (Some at) =
    (at ≤ length s) × (items_of (drop at s) ≡ from_fault rs [] (items_of s)) × (missing rs (items_of s) ≡ [] → from_fault rs [] (items_of s) ≡ [] → ⊥)
