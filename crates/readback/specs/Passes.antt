-- What the card writes passes the check of lengths and depth: 3 deep for a message that it begins (Result 0), 4 for a reply (3 or 4).
-- Assumes nothing: these are definitions; the statements are proved in proofs/, and owed by `readback::header_size`.
use Rattle.std.specs.Prelude.{ℕ, suc, ◌≡◌, Bool, true, false, List, [], ◌++◌}
use Rattle.tlv.specs.Depth.{inside_ok, list_ok}
use Rattle.writers.specs.Tlvs.{tlv_of, bare_of, target_of, status_of, command_of, flow_of, allocation_of, request_of, sequence_of}

-- w may stand before any list that is in order where TLVs may nest `depth` deep
abbrev pub Stands : ℕ → Bool → List ℕ → Type 0
Stands depth bare w = (r : List ℕ) → list_ok depth bare r ≡ true → list_ok depth bare (w ++ r) ≡ true

pub record Passes : Type 0 where
  pub none : (d : ℕ) (b : Bool) → list_ok d b [] ≡ true
  -- a bare header only directly inside Status-Info
  pub bare : (d t : ℕ) → Stands (suc d) true (bare_of t)
  -- a Target takes two levels
  pub target : (d : ℕ) (b : Bool) (id : List ℕ) → Stands (suc (suc d)) b (target_of id)
  -- a holder takes one level more than what it encloses
  pub status : (d : ℕ) (b : Bool) (kind : ℕ) (inner : List ℕ) → list_ok d true inner ≡ true → Stands (suc d) b (status_of kind inner)
  pub command : (d : ℕ) (b : Bool) (code accounting : ℕ) (inner : List ℕ) → list_ok d false inner ≡ true → Stands (suc d) b (command_of code accounting inner)
  pub allocation : (d : ℕ) (b : Bool) (amount : ℕ) → Stands (suc d) b (allocation_of amount)
  pub request : (d : ℕ) (b : Bool) (required preferred : ℕ) → Stands (suc d) b (request_of required preferred)
  pub sequence : (d : ℕ) (b : Bool) (n : ℕ) → Stands (suc d) b (sequence_of n)
  pub flow : (d : ℕ) (b : Bool) (kind family count : ℕ) (group sources : List ℕ) → Stands (suc d) b (flow_of kind family count group sources)
  -- a copy of a received TLV whose inside passed, also where bare headers may stand, and one level deeper
  pub copy : (d : ℕ) (b : Bool) (t : ℕ) (c : List ℕ) → inside_ok (list_ok d) false t c ≡ true → Stands (suc d) b (tlv_of t c)
  pub deeper : (d : ℕ) (b : Bool) (s : List ℕ) → list_ok d b s ≡ true → list_ok (suc d) b s ≡ true
