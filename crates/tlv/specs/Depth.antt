-- Lengths and depth (CARD.md, "Octets": a TLV may hold further TLVs). Assumes nothing: these are definitions.
use Rattle.std.specs.Prelude.{ℕ, zero, suc, ◌+◌, List, Bool, true, false, cond, ◌&&◌, ◌||◌, length, drop, leb, eqb}
use Rattle.octets.specs.Numbers.{be16, padded}
use Rattle.tlv.specs.declared.Inside.{Inside}
use Rattle.tlv.specs.declared.Inside.TheVariants.{Plain, Short, Holds}
use Rattle.tlv.specs.Fold.{fold_tlvs}

-- to a nesting depth of 4, top level being 1; a request (any Result but 3 and 4) only to 3
abbrev pub depth_of : ℕ → ℕ
depth_of result = cond (eqb result 3 || eqb result 4) 4 3

-- where the TLVs of a Status-Info of content c start: after 4 octets, of which two are the text's length, and the padded error text
unfoldable pub status_inside : List ℕ → Inside
status_inside c = cond (leb (4 + padded (be16 c 2)) (length c)) (Holds (4 + padded (be16 c 2)) true) Short

-- where a TLV of type t and content c holds further TLVs: Target from its start, Command after 4 octets, Status-Info.
-- Directly inside Status-Info, `bare`, a TLV of length 0 is a bare header
unfoldable pub inside_of : Bool → ℕ → List ℕ → Inside
inside_of bare t c =
    cond (bare && eqb (length c) 0) Plain
    (cond (eqb t 0x1000) (Holds 0 false)
    (cond (eqb t 0x0011) (cond (leb 4 (length c)) (Holds 4 false) Short)
    (cond (eqb t 0x0106) (status_inside c)
    Plain)))

-- a TLV's inside, where `inner bare` says whether the list that it holds is in order
unfoldable pub held_ok : (Bool → List ℕ → Bool) → List ℕ → Inside → Bool
held_ok inner c Plain = true
held_ok inner c Short = false
held_ok inner c (Holds start bare) = inner bare (drop start c)

unfoldable pub inside_ok : (Bool → List ℕ → Bool) → Bool → ℕ → List ℕ → Bool
inside_ok inner bare t c = held_ok inner c (inside_of bare t c)

-- no length of s is broken, and each TLV passes the test `ok` of its type and content
unfoldable pub all_tlvs : (ℕ → List ℕ → Bool) → List ℕ → Bool
all_tlvs ok s = fold_tlvs true false (λ t c rest. ok t c && rest) s

-- the TLV list s is in order where TLVs may nest `depth` deep
unfoldable pub list_ok : ℕ → Bool → List ℕ → Bool
list_ok zero bare s = eqb (length s) 0
list_ok (suc depth) bare s = all_tlvs (inside_ok (list_ok depth) bare) s
