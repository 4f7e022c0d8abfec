-- A card's figures, read off a pool that is lent. Assumes nothing.
use mathlib.Core.Path.{◌≡◌, ap, ◌∙◌}
use mathlib.Core.Bool.{Bool}
use mathlib.Core.List.{List}
use Prim.Native.Nat.{ℕ}
use Rattle.pool.specs.declared.Pool.{Pool}
use Rattle.pool.specs.Pool.{committed_in, committed_of, room_in, has_room}
use Rattle.card.specs.Cards.{Card}
use Rattle.joins.specs.Joins.{AsLent}

module _ {card : Card} {pool : Pool} {p amount : ℕ} (l : AsLent card pool p amount) where
  pub room_lent : has_room card.pool p ≡ has_room pool p
  room_lent = ap (λ (o : List ℕ). room_in o p) l.owner

  pub committed-lent : (table : List ℕ) → committed_of table card.pool p ≡ committed_of table pool p
  committed-lent table =
      ap (λ (o : List ℕ). committed_in table o card.pool.channel card.pool.charged p) l.owner
      ∙ ap (λ (k : List ℕ). committed_in table pool.owner k card.pool.charged p) l.channel
      ∙ ap (λ (c : List Bool). committed_in table pool.owner pool.channel c p) l.charged
