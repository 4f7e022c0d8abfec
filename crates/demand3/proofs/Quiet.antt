-- A call that is refused, by any number but 0 and 2, keeps the card and writes nothing, whatever the card. Assumes nothing.
use mathlib.Core.Path.{◌≡◌, refl}
use mathlib.Core.List.{[]}
use Rattle.circuits.specs.Circuits.{id_at}
use Rattle.card.specs.Cards.{Card}
use Rattle.card.specs.Outcome.{Outcome}
use Rattle.joins.specs.Joins.{grey_of}
use Rattle.joins.specs.Asks.{asked_of}
use Rattle.control.specs.Control.{commands_in, controlled}
use Rattle.transfers.specs.Transfers.{transfer_gives}
use Rattle.demand3.specs.Calls.{Tables, Call, outcome_of}
use Rattle.demand3.proofs.Commands.{commands_tell}
use Rattle.demand3.proofs.Ways.{Way, stays, replies, rises, falls, sets, closes, reduces, asks, keeps_ports, commanded, grey}
use Rattle.demand3.proofs.Each.{call_way}

module _ (t : Tables) (card : Card) (x : Call) where
  abbrev Quiet : Outcome → Type 0
  Quiet o = (o.number ≡ 0 → ⊥) → (o.number ≡ 2 → ⊥) → (o.card ≡ card) × (o.reply ≡ [])

  way_quiet : (o : Outcome) → Way t card x o → Quiet o
  unfolding grey_of asked_of controlled transfer_gives
  way_quiet o (stays n) a b = (refl, refl)
  way_quiet o (replies reply w) a b = absurd (a refl)
  way_quiet o (rises p) a b = absurd (a refl)
  way_quiet o (falls p) a b = absurd (a refl)
  way_quiet o (sets p amount) a b = absurd (a refl)
  way_quiet o (closes p) a b = absurd (a refl)
  way_quiet o (reduces h p amount) a b = absurd (a refl)
  way_quiet o (asks p required preferred space e h u) a b = absurd (a refl)
  way_quiet o (keeps_ports card' e n) a b = absurd (a refl)
  way_quiet o (commanded h p s) a b = absurd (a (commands_tell t.channels h (id_at t.ids p) p card 1 (commands_in s)).number)
  way_quiet o (grey p f space e) a b = absurd (b refl)

  pub call_quiet : Quiet (outcome_of t card x)
  call_quiet = way_quiet (outcome_of t card x) (call_way t card x)
