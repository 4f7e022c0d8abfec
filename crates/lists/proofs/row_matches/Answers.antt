use mathlib.Core.Path.{◌≡◌, refl, sym, ◌∙◌}
use mathlib.Core.Bool.{Bool, true, false, and-true}
use mathlib.Core.List.{List, ◌∷◌}
use Prim.Native.Nat.{◌+◌, ◌*◌}
use lib.ListN.{get_or}
use lib.Dec.{eqb}
use borrow.Author.Tests.{eq-eqb, ne_eqb}
use Rattle.octets.specs.Tests.{every}
use Rattle.octets.proofs.Tests.{taken, third_of}
use Rattle.flows.specs.Words.{address_at}
use Rattle.lists.specs.Prefix.{prefix_matches}
use Rattle.lists.specs.Lists.{entry_at, entry_matches}
use Rattle.lists.proofs.row_matches.Goals as goal

second-off : (a : Bool) {b : Bool} (bs : List Bool) → b ≡ false → false ≡ every (a ∷ b ∷ bs)
unfolding every
second-off true bs h = simp h
second-off false bs h = refl

pub returns-then-not-prefix_at : goal.returns-then-not-prefix_at
unfolding entry_at entry_matches
returns-then-not-prefix_at c = let a = c.args in second-off (eqb (get_or a.entries.now (a.i * 12) 0) a.f.family) _ (sym c.prefix_at.ensures ∙ c.if-not-prefix_at.true)

pub returns-then-entries-at : goal.returns-then-entries-at
unfolding entry_at entry_matches every
returns-then-entries-at c = simp (ne_eqb _ _ c.if-entries-at.true)

pub returns-then-f-eq0 : goal.returns-then-f-eq0
unfolding entry_at entry_matches every
returns-then-f-eq0 c =
    let a = c.args in
    let at = a.i * 12 in
    taken (eqb a.f.sourced 0) (eqb (get_or a.entries.now (at + 3) 0) 0) (prefix_matches (get_or a.entries.now (at + 3) 0) (address_at a.entries.now (at + 8)) a.f.source) (eq-eqb _ _ c.if-f-eq0.true)
    ∙ third_of _ _ _ (eq-eqb _ _ c.if-entries-at.false) (sym c.prefix_at.ensures ∙ c.if-not-prefix_at.false)

pub returns : goal.returns
unfolding entry_at entry_matches every
returns c = simp (eq-eqb _ _ c.if-entries-at.false, sym c.prefix_at.ensures ∙ c.if-not-prefix_at.false, ne_eqb _ _ c.if-f-eq0.false, and-true) c.prefix_at-2.ensures
