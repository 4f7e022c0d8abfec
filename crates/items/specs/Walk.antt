-- The TLVs that a walk over a list has left, and what it reads of each. Assumes nothing: these are definitions.
use Rattle.std.specs.Prelude.{List}
use Rattle.items.specs.Items.{Item, item, items_of}
use Rattle.items.specs.declared.Tlv.{Tlv}
use Rattle.items.specs.declared.Tlvs.{Tlvs}

abbrev pub item_at : Tlv → Item
item_at t = item t.kind t.content.now

abbrev pub items_left : Tlvs → List Item
items_left w = items_of w.rest.now
