use Prim.Native.Nat.{ℕ}
use mathlib.Core.Path.{◌≡◌, refl, sym, ◌∙◌}
use mathlib.Core.Bool.{Bool, true, false, cond}
use mathlib.Core.List.{List, [], ◌∷◌}
use native.Mathlib.Omega.{arith}
use Rattle.octets.specs.Tests.{every}
use Rattle.tables.specs.Tables.{tables_ok}
use Rattle.card.specs.Cards.{no_areas}
use Rattle.card.specs.declared.Core.{Core}
use Rattle.card.specs.Start.{Started, StartGives, fresh_core, fresh_card, fresh_areas, first_ok, start_of}
use Rattle.card.proofs.start.Goals as goal

module _ (ids : List ℕ) (ports : ℕ) (channels : List ℕ) (channel_count : ℕ) (entries : List ℕ) (entry_count : ℕ) (white add : Bool) (first : ℕ) where
  abbrev s : Started
  s = start_of ids ports channels channel_count entries entry_count white add first

  abbrev gives : Bool → Started
  gives b =
      cond b
      (record { card = fresh_card ports channel_count entry_count white add first; number = 0 })
      (record { card = fresh_card 0 0 0 false false 1; number = 14 })

  -- taken, and refused
  took : {core : Core} → s.number ≡ 0 → core ≡ fresh_core ports channel_count entry_count white add first → StartGives s (record { core = core; number = 0 }) no_areas no_areas
  unfolding start_of fresh_areas
  took {core} h e = go (every (tables_ok ids ports channels channel_count entries entry_count ∷ first_ok first ∷ [])) h
    where
      go : (b : Bool) → (gives b).number ≡ 0 → StartGives (gives b) (record { core = core; number = 0 }) no_areas no_areas
      go true h = record { number = refl; core = e; areas = refl }
      go false h = absurd (omega arith)

  refused : {core : Core} → (s.number ≡ 0 → ⊥) → core ≡ fresh_core 0 0 0 false false 1 → StartGives s (record { core = core; number = 14 }) no_areas no_areas
  unfolding start_of
  refused {core} h e = go (every (tables_ok ids ports channels channel_count entries entry_count ∷ first_ok first ∷ [])) h
    where
      go : (b : Bool) → ((gives b).number ≡ 0 → ⊥) → StartGives (gives b) (record { core = core; number = 14 }) no_areas no_areas
      go true h = absurd (h refl)
      go false h = record { number = refl; core = e; areas = refl }

pub returns-then-number-eq0 : goal.returns-then-number-eq0
returns-then-number-eq0 c =
    let a = c.args in
    took a.ids.now a.port_count a.channels.now a.channel_count a.entries.now a.entry_count a.white_cac a.add_cac a.first
    (sym (c.start_number-number.ensures a.white_cac a.add_cac) ∙ c.if-number-eq0.true) c.fresh_core.ensures

pub returns : goal.returns
returns c =
    let a = c.args in
    refused a.ids.now a.port_count a.channels.now a.channel_count a.entries.now a.entry_count a.white_cac a.add_cac a.first
    (λ z. c.if-number-eq0.false (c.start_number-number.ensures a.white_cac a.add_cac ∙ z)) c.fresh_core-2.ensures
