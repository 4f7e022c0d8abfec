use mathlib.Core.Bool.{not}
use Rattle.std.specs.Prelude.{is_none}
use mathlib.Core.Path.{refl, sym, ap, ◌∙◌}
use native.Mathlib.Omega.{arith}
use borrow.Author.Tests.{le-leb, lt-leb}
use Rattle.octets.specs.Tests.{every}
use Rattle.flows.specs.Flows.{known_family, good_group, good_source}
use Rattle.flows.specs.declared.Flow.{Flow}
use Rattle.channels.specs.Channels.{rate_at, channel_at, channel_of}
use Rattle.tables.proofs.Tables.{unused_channel}
use Rattle.faults.specs.Faults.{channel_checks}
use Rattle.faults.proofs.Lists.{names-none, names_on, err-fails, err_on}
use Rattle.faults.proofs.channel_fault.Goals as goal

pub returns-then-rate-lt1 : goal.returns-then-rate-lt1
unfolding channel_checks every
returns-then-rate-lt1 c =
    let a = c.args in
    let t = a.channels.now in
    err-fails _ _ (simp (lt-leb 1 (rate_at t a.i) (omega (arith, c.rate_at-rate.ensures, c.if-rate-lt1.true)))) refl c.fault_at.ensures

pub returns-then-rate-gt10000000 : goal.returns-then-rate-gt10000000
unfolding channel_checks every
returns-then-rate-gt10000000 c =
    let a = c.args in
    let t = a.channels.now in
    err-fails _ _ (simp (le-leb 1 (rate_at t a.i) (omega (arith, c.rate_at-rate.ensures, c.if-rate-lt1.false)), lt-leb (rate_at t a.i) 10000000 (omega (arith, c.rate_at-rate.ensures, c.if-rate-gt10000000.true)))) refl c.fault_at-then-rate-gt10000000.ensures

pub returns-then-not-known_family : goal.returns-then-not-known_family
unfolding channel_checks every
returns-then-not-known_family c =
    let a = c.args in
    let t = a.channels.now in
    err_on _ _ (simp (le-leb 1 (rate_at t a.i) (omega (arith, c.rate_at-rate.ensures, c.if-rate-lt1.false)), le-leb (rate_at t a.i) 10000000 (omega (arith, c.rate_at-rate.ensures, c.if-rate-gt10000000.false))))
    (err-fails _ _ (ap (λ (f : Flow). known_family f.family) (sym c.channel_at-f.ensures) ∙ sym c.known_family.ensures ∙ c.if-not-known_family.true) refl c.fault_at-then-not-known_family.ensures)

pub returns-then-not-good_group : goal.returns-then-not-good_group
unfolding channel_checks every
returns-then-not-good_group c =
    let a = c.args in
    let t = a.channels.now in
    err_on _ _ (simp (le-leb 1 (rate_at t a.i) (omega (arith, c.rate_at-rate.ensures, c.if-rate-lt1.false)), le-leb (rate_at t a.i) 10000000 (omega (arith, c.rate_at-rate.ensures, c.if-rate-gt10000000.false))))
    (err_on _ _ (ap (λ (f : Flow). known_family f.family) (sym c.channel_at-f.ensures) ∙ sym c.known_family.ensures ∙ c.if-not-known_family.false)
    (err-fails _ _ (ap (λ (f : Flow). good_group f.family f.group) (sym c.channel_at-f.ensures) ∙ sym c.good_group.ensures ∙ c.if-not-good_group.true) refl c.fault_at-then-not-good_group.ensures))

pub returns-then-not-good_source : goal.returns-then-not-good_source
unfolding channel_checks every
returns-then-not-good_source c =
    let a = c.args in
    let t = a.channels.now in
    err_on _ _ (simp (le-leb 1 (rate_at t a.i) (omega (arith, c.rate_at-rate.ensures, c.if-rate-lt1.false)), le-leb (rate_at t a.i) 10000000 (omega (arith, c.rate_at-rate.ensures, c.if-rate-gt10000000.false))))
    (err_on _ _ (ap (λ (f : Flow). known_family f.family) (sym c.channel_at-f.ensures) ∙ sym c.known_family.ensures ∙ c.if-not-known_family.false)
    (err_on _ _ (ap (λ (f : Flow). good_group f.family f.group) (sym c.channel_at-f.ensures) ∙ sym c.good_group.ensures ∙ c.if-not-good_group.false)
    (err-fails _ _ (ap (λ (f : Flow). good_source f.family f.sourced f.source) (sym c.channel_at-f.ensures) ∙ sym c.good_source.ensures ∙ c.if-not-good_source.true) refl c.fault_at-then-not-good_source.ensures)))

pub returns-then-is_some : goal.returns-then-is_some
unfolding channel_checks every
returns-then-is_some c =
    let a = c.args in
    let t = a.channels.now in
    err_on _ _ (simp (le-leb 1 (rate_at t a.i) (omega (arith, c.rate_at-rate.ensures, c.if-rate-lt1.false)), le-leb (rate_at t a.i) 10000000 (omega (arith, c.rate_at-rate.ensures, c.if-rate-gt10000000.false))))
    (err_on _ _ (ap (λ (f : Flow). known_family f.family) (sym c.channel_at-f.ensures) ∙ sym c.known_family.ensures ∙ c.if-not-known_family.false)
    (err_on _ _ (ap (λ (f : Flow). good_group f.family f.group) (sym c.channel_at-f.ensures) ∙ sym c.good_group.ensures ∙ c.if-not-good_group.false)
    (err_on _ _ (ap (λ (f : Flow). good_source f.family f.sourced f.source) (sym c.channel_at-f.ensures) ∙ sym c.good_source.ensures ∙ c.if-not-good_source.false)
    (err-fails _ _ (sym (ap not c.is_some.ensures ∙ ap is_none (c.channel_of.ensures ∙ ap (channel_of t a.i) c.channel_at-f.ensures) ∙ unused_channel t (channel_at t a.i) a.i (omega arith)) ∙ ap not c.if-is_some.true) refl c.fault_at-then-is_some.ensures))))

pub returns : goal.returns
unfolding channel_checks every
returns c =
    let a = c.args in
    let t = a.channels.now in
    names_on _ _ (simp (le-leb 1 (rate_at t a.i) (omega (arith, c.rate_at-rate.ensures, c.if-rate-lt1.false)), le-leb (rate_at t a.i) 10000000 (omega (arith, c.rate_at-rate.ensures, c.if-rate-gt10000000.false))))
    (names_on _ _ (ap (λ (f : Flow). known_family f.family) (sym c.channel_at-f.ensures) ∙ sym c.known_family.ensures ∙ c.if-not-known_family.false)
    (names_on _ _ (ap (λ (f : Flow). good_group f.family f.group) (sym c.channel_at-f.ensures) ∙ sym c.good_group.ensures ∙ c.if-not-good_group.false)
    (names_on _ _ (ap (λ (f : Flow). good_source f.family f.sourced f.source) (sym c.channel_at-f.ensures) ∙ sym c.good_source.ensures ∙ c.if-not-good_source.false)
    (names_on _ _ (sym (ap not c.is_some.ensures ∙ ap is_none (c.channel_of.ensures ∙ ap (channel_of t a.i) c.channel_at-f.ensures) ∙ unused_channel t (channel_at t a.i) a.i (omega arith)) ∙ ap not c.if-is_some.false)
    (names-none refl)))))
