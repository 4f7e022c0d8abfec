-- A place in a message: what stands there, and the place after it. Assumes nothing: these are definitions.
use Rattle.std.specs.Prelude.{ℕ, ◌+◌, List, [], take, drop}
use Rattle.tlv.specs.declared.First.{First}
use Rattle.tlv.specs.declared.First.TheVariants.{End, Broken, Tlv}
use Rattle.tlv.specs.First.{first_tlv}

-- the TLV at place `at` of s; at the end of s and beyond there is none
abbrev pub tlv_at : List ℕ → ℕ → First
tlv_at s at = first_tlv (drop at s)

-- how many octets a TLV takes; nothing else takes any
unfoldable pub size_of : First → ℕ
size_of End = 0
size_of Broken = 0
size_of (Tlv t n m) = m

-- the place after the TLV at place `at`
unfoldable pub place_after : List ℕ → ℕ → ℕ
place_after s at = at + size_of (tlv_at s at)

-- the content of a TLV that stands first in s; nothing else has any
unfoldable pub content_by : List ℕ → First → List ℕ
content_by s End = []
content_by s Broken = []
content_by s (Tlv t n m) = take n (drop 4 s)

unfoldable pub content_at : List ℕ → ℕ → List ℕ
content_at s at = content_by (drop at s) (tlv_at s at)
