use Prim.Native.Nat.{ℕ}
use mathlib.Core.Path.{◌≡◌}
use native.Mathlib.Omega.{arith}
use lib.ListN.{length}
use borrow.Author.Tests.{ne_eqb}
use Rattle.card.specs.Cards.{Areas, no_areas, with_pool, with_areas}
use Rattle.card.proofs.Parts.{areas_kept, areas_as}
use Rattle.demand3.specs.Calls.{outcome_of}
use Rattle.calls.specs.Calls.{hosted}
use Rattle.calls.proofs.Cases.{of_number}
use Rattle.calls.proofs.host_in.Goals as goal

pub returns-in-0 : goal.returns-in-0
unfolding outcome_of hosted
returns-in-0 c =
    let areas : Areas = no_areas in
    let a = c.args in
    areas_as (areas_kept (c.port_up_in.ensures a.pool.now a.reply.now) areas)
    (λ card t. of_number (with_areas (with_pool card a.pool.now) areas) a.ids.now a.channels.now a.entries.now a.call (length a.reply.now) 0 (omega (arith, c.in-0.is)))

pub returns-in-1 : goal.returns-in-1
unfolding outcome_of hosted
returns-in-1 c =
    let areas : Areas = no_areas in
    let a = c.args in
    areas_as (areas_kept (c.port_down_in.ensures.comes a.reply.now) areas)
    (λ card t. of_number (with_areas (with_pool card a.pool.now) areas) a.ids.now a.channels.now a.entries.now a.call (length a.reply.now) 1 (omega (arith, c.in-1.is)))

pub returns-in-2 : goal.returns-in-2
unfolding outcome_of hosted
returns-in-2 c =
    let areas : Areas = no_areas in
    let a = c.args in
    areas_as (areas_kept (c.set_delegation_in.ensures a.reply.now) areas)
    (λ card t. of_number (with_areas (with_pool card a.pool.now) areas) a.ids.now a.channels.now a.entries.now a.call (length a.reply.now) 2 (omega (arith, c.in-2.is)))

pub returns-in-3 : goal.returns-in-3
unfolding outcome_of hosted
returns-in-3 c =
    let areas : Areas = no_areas in
    let a = c.args in
    areas_as (areas_kept c.join_in.ensures areas)
    (λ card t. of_number (with_areas (with_pool card a.pool.now) areas) a.ids.now a.channels.now a.entries.now a.call (length a.reply.now) 3 (omega (arith, c.in-3.is)))

pub returns-in-4 : goal.returns-in-4
unfolding outcome_of hosted
returns-in-4 c =
    let areas : Areas = no_areas in
    let a = c.args in
    areas_as (areas_kept (c.leave_in.ensures.comes a.reply.now) areas)
    (λ card t. of_number (with_areas (with_pool card a.pool.now) areas) a.ids.now a.channels.now a.entries.now a.call (length a.reply.now) 4 (omega (arith, c.in-4.is)))

-- the last of them: the number is none of the others
pub returns-in_default : goal.returns-in_default
unfolding outcome_of hosted
returns-in_default c =
    let areas : Areas = no_areas in
    let which : ℕ = c.args.call.which in
    let n0 : which ≡ 0 → ⊥ = λ z. omega arith in
    let n1 : which ≡ 1 → ⊥ = λ z. omega arith in
    let n2 : which ≡ 2 → ⊥ = λ z. omega arith in
    let n3 : which ≡ 3 → ⊥ = λ z. omega arith in
    let n4 : which ≡ 4 → ⊥ = λ z. omega arith in
    areas_as (areas_kept (c.ask_in.ensures c.args.pool.now) areas)
    (λ card t. rw (ne_eqb which 0 n0, ne_eqb which 1 n1, ne_eqb which 2 n2, ne_eqb which 3 n3, ne_eqb which 4 n4))
