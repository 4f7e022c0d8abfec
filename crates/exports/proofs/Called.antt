-- What a call on the core's parts, put together again where the core lies, comes to. Assumes nothing.
use mathlib.Core.Path.{◌≡◌, refl, ap, ◌∙◌}
use mathlib.Core.List.{List}
use Prim.Native.Nat.{ℕ, ◌<◌}
use Rattle.std.specs.Prelude.{get_or, set}
use Rattle.ports.specs.declared.Port.{Port}
use Rattle.ports.specs.Ports.{fresh_port, changed_by}
use Rattle.pool.specs.declared.Pool.{Pool}
use Rattle.card.specs.declared.Core.{Core}
use Rattle.card.specs.declared.Effect.{Effect}
use Rattle.card.specs.Cards.{Card, no_areas, card_of}
use Rattle.card.specs.Outcome.{Outcome, Done}
use Rattle.card.specs.Parts.{terms_at, AreasComeTo}
use Rattle.exports.specs.Answers.{Answers}

-- y is what stands at place i then
pub called : {o : Card → Outcome} {p : ℕ} {after : Pool} {r : Effect} {text written : List ℕ} (core : Core) (i : ℕ) → (p < 64 → i ≡ p)
    → AreasComeTo o p (terms_at (card_of core no_areas) i) core.pool after no_areas no_areas r text written
    → {y : Port} → y ≡ changed_by r.change (get_or core.ports i fresh_port)
    → Answers (o (card_of core no_areas)) (record { number = r.number; length = r.length }) (card_of (record { ports = set core.ports i y; pool = after; head = r.head }) no_areas) text written
called {after = after} {r} core i k g same =
    let ends = g.each (card_of core no_areas) (record { same = refl; place = k }) in
    record {
      number = ap (λ (d : Done). d.number) ends.gives;
      size = ap (λ (d : Done). d.length) ends.gives;
      kept = ap (λ (x : Port). card_of (record { ports = set core.ports i x; pool = after; head = r.head }) no_areas) same ∙ ap (λ (d : Done). d.card) ends.gives;
      text = ends.text;
    }
