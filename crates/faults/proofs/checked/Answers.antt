use Rattle.std.proofs.Common.{rules}
use Rattle.std.specs.Prelude.{Err}
use Prim.Native.Nat.{ℕ}
use mathlib.Core.Path.{◌≡◌, refl, sym, subst, ◌∙◌}
use mathlib.Core.List.{List, [], ◌∷◌, ◌++◌}
use Rattle.card.specs.Start.{first_ok}
use Rattle.faults.specs.declared.Fault.{Fault}
use Rattle.faults.specs.Faults.{Check, check, no_fault, NamesFault, Tested, port_checks, channel_checks, entry_checks, table_checks, start_checks}
use Rattle.faults.proofs.Lists.{Error, names-none, err-fails, names_on, names_stop, names-go}
use Rattle.faults.proofs.checked.Goals as goal

module _ (ids : List ℕ) (ports : ℕ) (channels : List ℕ) (channel_count : ℕ) (entries : List ℕ) (entry_count first : ℕ) where
  abbrev A : List Check
  A = table_checks 1 64 ports (port_checks ids)

  abbrev B : List Check
  B = table_checks 2 256 channel_count (channel_checks channels)

  abbrev D : List Check
  D = table_checks 3 128 entry_count (entry_checks entries)

  abbrev E : List Check
  E = check 4 0 11 (first_ok first) ∷ []

  abbrev All : List Check
  All = start_checks ids ports channels channel_count entries entry_count first

  at-ports : {r : Fault} → Error A r → Error All r
  unfolding start_checks
  at-ports n = (names_stop A (B ++ (D ++ E)) n.0 n.1, n.1)

  -- the tables before take no fault
  module _ (np : NamesFault A no_fault) where
    past : {r : Fault} → NamesFault (B ++ (D ++ E)) r → NamesFault All r
    unfolding start_checks
    past n = names-go A (B ++ (D ++ E)) np refl n

    at-channels : {r : Fault} → Error B r → Error All r
    at-channels n = (past (names_stop B (D ++ E) n.0 n.1), n.1)

    module _ (nq : NamesFault B no_fault) where
      at-entries : {r : Fault} → Error D r → Error All r
      at-entries n = (past (names-go B (D ++ E) nq refl (names_stop D E n.0 n.1)), n.1)

      at_first : {r : Fault} → NamesFault D no_fault → NamesFault E r → NamesFault All r
      at_first n m = past (names-go B (D ++ E) nq refl (names-go D E n refl m))

pub returns-in_err-ports_fault : goal.returns-in_err-ports_fault
returns-in_err-ports_fault c =
    let x = c.args in
    let e : c.from_residual.result ≡ Err c.in_err-ports_fault.field-0.0 = search rules in
    subst (λ r. Tested (All x.ids.now x.ports x.channels.now x.channel_count x.entries.now x.entry_count x.first) r) (sym e) (at-ports x.ids.now x.ports x.channels.now x.channel_count x.entries.now x.entry_count x.first c.in_err-ports_fault.ensures)

pub returns-in_err-channels_fault : goal.returns-in_err-channels_fault
returns-in_err-channels_fault c =
    let x = c.args in
    let e : c.from_residual-in_err-channels_fault.result ≡ Err c.in_err-channels_fault.field-0.0 = search rules in
    subst (λ r. Tested (All x.ids.now x.ports x.channels.now x.channel_count x.entries.now x.entry_count x.first) r) (sym e) (at-channels x.ids.now x.ports x.channels.now x.channel_count x.entries.now x.entry_count x.first c.in_ok-ports_fault.ensures c.in_err-channels_fault.ensures)

pub returns-in_err-entries_fault : goal.returns-in_err-entries_fault
returns-in_err-entries_fault c =
    let x = c.args in
    let e : c.from_residual-in_err-entries_fault.result ≡ Err c.in_err-entries_fault.field-0.0 = search rules in
    subst (λ r. Tested (All x.ids.now x.ports x.channels.now x.channel_count x.entries.now x.entry_count x.first) r) (sym e) (at-entries x.ids.now x.ports x.channels.now x.channel_count x.entries.now x.entry_count x.first c.in_ok-ports_fault.ensures c.in_ok-channels_fault.ensures c.in_err-entries_fault.ensures)

pub returns-then-not-first_ok : goal.returns-then-not-first_ok
returns-then-not-first_ok c =
    let x = c.args in
    let f = err-fails _ _ (sym c.first_ok.ensures ∙ c.if-not-first_ok.true) refl c.fault_at.ensures in
    (at_first x.ids.now x.ports x.channels.now x.channel_count x.entries.now x.entry_count x.first c.in_ok-ports_fault.ensures c.in_ok-channels_fault.ensures c.in_ok-entries_fault.ensures f.0, f.1)

pub returns : goal.returns
returns c =
    let x = c.args in
    at_first x.ids.now x.ports x.channels.now x.channel_count x.entries.now x.entry_count x.first c.in_ok-ports_fault.ensures c.in_ok-channels_fault.ensures c.in_ok-entries_fault.ensures
    (names_on _ _ (sym c.first_ok.ensures ∙ c.if-not-first_ok.false) (names-none refl))
