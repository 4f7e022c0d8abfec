-- Lists of TLVs, and messages, that differ at most in what is not read (CARD.md, "Octets"): padding and reserved
-- octets, and the received Result Code. Assumes nothing: these are definitions.
use Rattle.std.specs.Prelude.{ℕ, ◌+◌, ◌<◌, ◌≡◌, List, ◌∷◌, ◌++◌, length, get_or}
use Rattle.octets.specs.Numbers.{be16, oct8, oct16, padded}
use Rattle.header.specs.Bits.{result_of}

-- any octets u after some octets c, as many as fill these up to a multiple of 4
abbrev pub Pads : List ℕ → List ℕ → Type 0
Pads c u = length c + length u ≡ padded (length c)

-- a TLV of type t and content c, with padding u
abbrev pub tlv_with : ℕ → List ℕ → List ℕ → List ℕ
tlv_with t c u = oct16 t ++ oct16 (length c) ++ c ++ u

-- what stands before the TLVs of a Status-Info: reserved, message type, the error text with padding u
abbrev pub status_with : ℕ → ℕ → List ℕ → List ℕ → List ℕ
status_with reserved kind text u = oct8 reserved ++ oct8 kind ++ oct16 (length text) ++ text ++ u

-- what is compared: a list of TLVs, or the content of a TLV of type t
pub data Part : Type 0 where
  tlvs : Part
  content : (t : ℕ) → Part

pub data Alike : Part → List ℕ → List ℕ → Type 0 where
  -- no difference; a list may be broken
  same : {x : Part} {s : List ℕ} → Alike x s s
  -- lists of TLVs: the same type and length, contents that are alike, any padding, and rests that are alike
  more : {t : ℕ} {c c' r r' : List ℕ} (u u' : List ℕ) → Alike (content t) c c' → Pads c u → Pads c' u' → Alike tlvs r r'
      → Alike tlvs (tlv_with t c u ++ r) (tlv_with t c' u' ++ r')
  -- contents of holders: any reserved octets, and TLVs that are alike
  target : {c c' : List ℕ} → Alike tlvs c c' → Alike (content 0x1000) c c'
  command : {i i' : List ℕ} (code accounting x y x' y' : ℕ) → Alike tlvs i i'
      → Alike (content 0x0011) (code ∷ accounting ∷ x ∷ y ∷ i) (code ∷ accounting ∷ x' ∷ y' ∷ i')
  status : {i i' : List ℕ} (kind x x' : ℕ) (text u u' : List ℕ) → Pads text u → Pads text u' → Alike tlvs i i'
      → Alike (content 0x0106) (status_with x kind text u ++ i) (status_with x' kind text u' ++ i')

-- two messages of one size whose headers differ at most in the Result Code: twelve bits of octets 6 and 7
pub record SameHeader (m m' : List ℕ) : Type 0 where
  pub size : length m ≡ length m'
  pub octets : (i : ℕ) → i < 16 → (i ≡ 6 → ⊥) → (i ≡ 7 → ⊥) → get_or m i 0 ≡ get_or m' i 0
  pub result : result_of (be16 m 6) ≡ result_of (be16 m' 6)
