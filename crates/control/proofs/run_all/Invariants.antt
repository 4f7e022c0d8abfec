use mathlib.Core.Path.{◌≡◌}
use Prim.Native.Nat.{◌+◌, ◌≤◌}
use lib.ListN.{length}
use Rattle.items.specs.Items.{of_type}
use Rattle.items.proofs.Items.{Fit}
use Rattle.reader.specs.Reader.{items_ahead}
use Rattle.card.specs.Cards.{Card, with_pool}
use Rattle.card.specs.Parts.{HasTerms}
use Rattle.control.specs.Control.{commands_from, commands_in}
use Rattle.control.proofs.run_all.Given as goal

abbrev pub invariant-loop-t : goal.invariant-loop-t
invariant-loop-t l = (l.seq + length (items_ahead l.t-iterator) ≤ 1 + length l.tlvs) × Fit (length l.tlvs) (items_ahead l.t-iterator) × (l.reply ≡ l.initial.reply)
    × ((card : Card) → HasTerms card l.terms.at l.terms → commands_from l.channels l.h l.id l.terms.at (with_pool card l.initial.pool) 1 (commands_in l.tlvs) ≡ commands_from l.channels l.h l.id l.terms.at (with_pool card l.pool) l.seq (of_type 0x0011 (items_ahead l.t-iterator)))
