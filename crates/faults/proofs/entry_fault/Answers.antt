use mathlib.Core.Path.{refl, sym, ap, ◌∙◌}
use Rattle.flows.specs.Flows.{known_family}
use Rattle.lists.specs.declared.Entry.{Entry}
use Rattle.tables.specs.Tables.{known_list, within_address}
use Rattle.faults.specs.Faults.{entry_checks}
use Rattle.faults.proofs.Lists.{names-none, names_on, err-fails, err_on}
use Rattle.faults.proofs.entry_fault.Goals as goal

pub returns-then-not-known_family : goal.returns-then-not-known_family
unfolding entry_checks
returns-then-not-known_family c =
    err-fails _ _ (ap (λ (e : Entry). known_family e.family) (sym c.entry_at-e.ensures) ∙ sym c.known_family.ensures ∙ c.if-not-known_family.true) refl c.fault_at.ensures

pub returns-then-not-known_list : goal.returns-then-not-known_list
unfolding entry_checks
returns-then-not-known_list c =
    err_on _ _ (ap (λ (e : Entry). known_family e.family) (sym c.entry_at-e.ensures) ∙ sym c.known_family.ensures ∙ c.if-not-known_family.false)
    (err-fails _ _ (ap (λ (e : Entry). known_list e.list) (sym c.entry_at-e.ensures) ∙ sym c.known_list.ensures ∙ c.if-not-known_list.true) refl c.fault_at-then-not-known_list.ensures)

pub returns-then-not-within_address : goal.returns-then-not-within_address
unfolding entry_checks
returns-then-not-within_address c =
    err_on _ _ (ap (λ (e : Entry). known_family e.family) (sym c.entry_at-e.ensures) ∙ sym c.known_family.ensures ∙ c.if-not-known_family.false)
    (err_on _ _ (ap (λ (e : Entry). known_list e.list) (sym c.entry_at-e.ensures) ∙ sym c.known_list.ensures ∙ c.if-not-known_list.false)
    (err-fails _ _ (ap (λ (e : Entry). within_address e.family e.group_length) (sym c.entry_at-e.ensures) ∙ sym c.within_address.ensures ∙ c.if-not-within_address.true) refl c.fault_at-then-not-within_address.ensures))

pub returns-then-not-within_address-2 : goal.returns-then-not-within_address-2
unfolding entry_checks
returns-then-not-within_address-2 c =
    err_on _ _ (ap (λ (e : Entry). known_family e.family) (sym c.entry_at-e.ensures) ∙ sym c.known_family.ensures ∙ c.if-not-known_family.false)
    (err_on _ _ (ap (λ (e : Entry). known_list e.list) (sym c.entry_at-e.ensures) ∙ sym c.known_list.ensures ∙ c.if-not-known_list.false)
    (err_on _ _ (ap (λ (e : Entry). within_address e.family e.group_length) (sym c.entry_at-e.ensures) ∙ sym c.within_address.ensures ∙ c.if-not-within_address.false)
    (err-fails _ _ (ap (λ (e : Entry). within_address e.family e.source_length) (sym c.entry_at-e.ensures) ∙ sym c.within_address-2.ensures ∙ c.if-not-within_address-2.true) refl c.fault_at-then-not-within_address-2.ensures)))

pub returns : goal.returns
unfolding entry_checks
returns c =
    names_on _ _ (ap (λ (e : Entry). known_family e.family) (sym c.entry_at-e.ensures) ∙ sym c.known_family.ensures ∙ c.if-not-known_family.false)
    (names_on _ _ (ap (λ (e : Entry). known_list e.list) (sym c.entry_at-e.ensures) ∙ sym c.known_list.ensures ∙ c.if-not-known_list.false)
    (names_on _ _ (ap (λ (e : Entry). within_address e.family e.group_length) (sym c.entry_at-e.ensures) ∙ sym c.within_address.ensures ∙ c.if-not-within_address.false)
    (names_on _ _ (ap (λ (e : Entry). within_address e.family e.source_length) (sym c.entry_at-e.ensures) ∙ sym c.within_address-2.ensures ∙ c.if-not-within_address-2.false)
    (names-none refl))))
