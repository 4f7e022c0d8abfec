-- The octets of the TLVs that the card writes (CARD.md, "Octets"). Padding and reserved fields are written as zero.
-- Assumes nothing: these are definitions.
use Rattle.std.specs.Prelude.{ℕ, ◌-◌, List, [], ◌++◌, length, replicate}
use Rattle.octets.specs.Numbers.{oct8, oct16, oct32, padded}

-- a TLV of type t and content c: type (16), length (16), content, padding. The length leaves out header and padding
unfoldable pub tlv_of : ℕ → List ℕ → List ℕ
tlv_of t c = oct16 t ++ oct16 (length c) ++ c ++ replicate (padded (length c) - length c) 0

-- a bare header
abbrev pub bare_of : ℕ → List ℕ
bare_of t = tlv_of t []

-- a Target with the circuit id alone
unfoldable pub target_of : List ℕ → List ℕ
target_of id = tlv_of 0x1000 (tlv_of 0x0001 id)

-- a holder whose TLVs stand after 4 octets: two octets, and 16 bits of zero
unfoldable pub holder_of : ℕ → ℕ → ℕ → List ℕ → List ℕ
holder_of t x y inner = tlv_of t (oct8 x ++ oct8 y ++ oct16 0 ++ inner)

-- a Status-Info: reserved, message type, the length of an empty error text, TLVs
unfoldable pub status_of : ℕ → List ℕ → List ℕ
status_of kind inner = holder_of 0x0106 0 kind inner

-- a Command: code, accounting, reserved, TLVs
unfoldable pub command_of : ℕ → ℕ → List ℕ → List ℕ
command_of code accounting inner = holder_of 0x0011 code accounting inner

-- a Multicast-Flow: flow type, family, source count, group, sources
unfoldable pub flow_of : ℕ → ℕ → ℕ → List ℕ → List ℕ → List ℕ
flow_of kind family count group sources = tlv_of 0x0019 (oct8 kind ++ oct8 family ++ oct16 count ++ group ++ sources)

unfoldable pub allocation_of : ℕ → List ℕ
allocation_of amount = tlv_of 0x0015 (oct32 amount)

-- a Bandwidth-Request: required, preferred
unfoldable pub request_of : ℕ → ℕ → List ℕ
request_of required preferred = tlv_of 0x0016 (oct32 required ++ oct32 preferred)

unfoldable pub sequence_of : ℕ → List ℕ
sequence_of n = tlv_of 0x0022 (oct32 n)
