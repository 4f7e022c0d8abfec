-- A flow as a Multicast-Flow TLV (CARD.md, "Octets"): flow type (1 ASM, 2 SSM), family, source count, group, source.
-- Assumes nothing: these are definitions.
use Rattle.std.specs.Prelude.{ℕ, ◌+◌, ◌*◌, ◌%◌, ◌≡◌, Bool, true, false, cond, List, [], ◌∷◌, ◌++◌, length, take, eqb, ltb}
use Rattle.octets.specs.Numbers.{be8, be16, be32, oct8, oct16}
use Rattle.octets.specs.Tests.{every}
use Rattle.flows.specs.Words.{octets_of}
use Rattle.fields.specs.Flow.{length_agrees}
use Rattle.writers.specs.Tlvs.{tlv_of, flow_of}
use Rattle.flows.specs.Flows.{width}
use Rattle.flows.specs.declared.Flow.{Flow}

-- ASM has count 0. SSM here has count 1.
unfoldable pub type_ok : ℕ → ℕ → Bool
type_ok kind count = cond (eqb kind 1) (eqb count 0) (cond (eqb kind 2) (eqb count 1) false)

-- type, family, count and length go together
unfoldable pub flow_formed : List ℕ → Bool
flow_formed c = every (type_ok (be8 c 0) (be16 c 2) ∷ length_agrees (be8 c 1) (be16 c 2) (length c) ∷ [])

-- word i of an address of so many words that stands in the octets; a word that the address does not have is zero
unfoldable pub word_in : List ℕ → ℕ → ℕ → ℕ → ℕ
word_in c at words i = cond (ltb i words) (be32 c (at + 4 * i)) 0

abbrev pub address_in : List ℕ → ℕ → ℕ → List ℕ
address_in c at words = word_in c at words 0 ∷ word_in c at words 1 ∷ word_in c at words 2 ∷ word_in c at words 3 ∷ []

-- the flow that a well-formed content names: the group, and after it the source if the count is 1
unfoldable pub flow_named : List ℕ → Flow
flow_named c = record {
  family = be8 c 1;
  sourced = be16 c 2;
  group = address_in c 4 (width (be8 c 1));
  source = address_in c (4 + 4 * width (be8 c 1)) (width (be8 c 1) * be16 c 2);
}

-- ---- written

-- the source count: 1 where there is a source
unfoldable pub source_count : ℕ → ℕ
source_count sourced = cond (eqb sourced 0) 0 1

-- how many words its source has
unfoldable pub source_words : ℕ → ℕ → ℕ
source_words family sourced = cond (eqb sourced 0) 0 (width family)

-- a Multicast-Flow TLV for a flow; that of a good flow is well-formed and names it
unfoldable pub flow_tlv : Flow → List ℕ
flow_tlv f =
    flow_of (source_count f.sourced + 1) (f.family % 256) (source_count f.sourced)
    (octets_of (take (width f.family) f.group))
    (octets_of (take (source_words f.family f.sourced) f.source))

-- its content
unfoldable pub flow_octets : Flow → List ℕ
flow_octets f =
    oct8 (source_count f.sourced + 1) ++ oct8 (f.family % 256) ++ oct16 (source_count f.sourced)
    ++ octets_of (take (width f.family) f.group)
    ++ octets_of (take (source_words f.family f.sourced) f.source)

-- what is written of a flow is a TLV with this content, which is well-formed and names the flow again
pub record FlowBack (f : Flow) : Type 0 where
  pub content : flow_tlv f ≡ tlv_of 0x0019 (flow_octets f)
  pub formed : flow_formed (flow_octets f) ≡ true
  pub named : flow_named (flow_octets f) ≡ f
