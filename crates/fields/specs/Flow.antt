-- The fields of a Multicast-Flow 0x0019 with content c (CARD.md, "Octets"): flow type (8), family (8), source count
-- (16), group, sources. Assumes nothing: these are definitions.
use Rattle.std.specs.Prelude.{ℕ, ◌+◌, ◌*◌, List, [], ◌∷◌, Bool, cond, length, take, drop, eqb, ltb}
use Rattle.octets.specs.Numbers.{be8, be16}
use Rattle.octets.specs.Tests.{every}
use Rattle.fields.specs.declared.FlowFields.{FlowFields}

-- how many octets an address of a family takes: IPv4 (1) 4, IPv6 (2) 16; a family that is not known has no addresses
unfoldable pub width_of : ℕ → ℕ
width_of family = cond (eqb family 1) 4 (cond (eqb family 2) 16 0)

-- the length is 4 + 4 x (count + 1) or 4 + 16 x (count + 1)
unfoldable pub length_agrees : ℕ → ℕ → ℕ → Bool
length_agrees family count n = every (ltb 0 (width_of family) ∷ eqb n (4 + width_of family * (count + 1)) ∷ [])

unfoldable pub flow_in : List ℕ → FlowFields
flow_in c =
    record {
      kind = be8 c 0;
      family = be8 c 1;
      count = be16 c 2;
      agrees = length_agrees (be8 c 1) (be16 c 2) (length c);
    }

-- the group, and the sources one after the other
abbrev pub group_in : List ℕ → List ℕ
group_in c = take (width_of (be8 c 1)) (drop 4 c)

abbrev pub sources_in : List ℕ → List ℕ
sources_in c = drop (4 + width_of (be8 c 1)) c
