-- A reader, what one read of a message at a place gives, and the TLVs that a walk has ahead. Assumes nothing: these are
-- definitions.
use Rattle.std.specs.Prelude.{ℕ, List, drop}
use Rattle.std.specs.Borrow.{Bor}
use Rattle.items.specs.Items.{Item, items_of}
use Rattle.items.specs.Place.{tlv_at, place_after}
use Rattle.reader.specs.declared.Reader.{Reader}
use Rattle.reader.specs.declared.Step.{Step}

-- a reader of a message at a place
abbrev pub reader_at : Bor (List ℕ) → ℕ → Reader
reader_at message at = record { message = message; at = at }

-- the same message, after what stands at the place
abbrev pub advanced : Reader → Reader
advanced r = reader_at r.message (place_after r.message.now r.at)

-- what stands at a place, and the place after it
abbrev pub step_at : List ℕ → ℕ → Step
step_at s at = record { first = tlv_at s at; next = place_after s at }

-- the TLVs that it has ahead, from its place on
abbrev pub items_ahead : Reader → List Item
items_ahead r = items_of (drop r.at r.message.now)
