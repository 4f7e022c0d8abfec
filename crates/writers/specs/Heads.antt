-- What stands before the TLVs that a holder encloses: it is written last, once their octets are counted.
-- Assumes nothing: these are definitions.
use Rattle.std.specs.Prelude.{ℕ, ◌+◌, List, ◌++◌}
use Rattle.octets.specs.Numbers.{oct8, oct16}

-- the header of a TLV of type t whose content has n octets, and the first four of them
unfoldable pub head_of : ℕ → ℕ → ℕ → ℕ → ℕ → List ℕ
head_of t n x y z = oct16 t ++ oct16 n ++ oct8 x ++ oct8 y ++ oct16 z

-- before n octets of TLVs in a Status-Info, and in a Command
abbrev pub status_head : ℕ → ℕ → List ℕ
status_head kind n = head_of 0x0106 (4 + n) 0 kind 0

abbrev pub command_head : ℕ → ℕ → ℕ → List ℕ
command_head code accounting n = head_of 0x0011 (4 + n) code accounting 0
