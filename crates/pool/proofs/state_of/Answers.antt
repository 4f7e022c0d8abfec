use Rattle.std.proofs.Common.{rules, ◌≡◌, ℕ, List, Bool, Option, Some, None, true, false, get_or, eqb, refl, sym, ap, ◌∙◌}
use borrow.Author.Tests.{eq-eqb, ne_eqb}
use Rattle.rows.specs.Rows.{first_row}
use Rattle.pool.specs.Pool.{is_held, state_at, state_in, active_in}
use Rattle.pool.specs.declared.FlowState.{FlowState}
use Rattle.pool.proofs.Places.{first_of, records-mine, records-first, turn-mine, turn-later, turn-first, end-first}
use Rattle.pool.proofs.States.{state_active}
use Rattle.pool.proofs.state_of.Goals as goal

abbrev of_channel : List ℕ → ℕ → ℕ → Bool
of_channel channel k i = eqb (get_or channel i 0) k

-- what was found, as the two clauses have it
module _ (owner channel : List ℕ) (charged : List Bool) (accounting : List ℕ) (p k : ℕ) {r : FlowState} {found : Option ℕ} where
  gives : r ≡ state_at charged accounting found → found ≡ first_row 512 (is_held owner channel p k)
      → (r ≡ state_in owner channel charged accounting p k) × (r.active ≡ active_in owner channel p k)
  unfolding state_in
  gives e f =
      let s : r ≡ state_in owner channel charged accounting p k = e ∙ ap (state_at charged accounting) f in
      (s, ap (λ (x : FlowState). x.active) s ∙ state_active owner channel p k charged accounting)

pub loop-i-init : goal.loop-i-init
loop-i-init c =
    let a = c.args in
    let e = c.into_iter-i-iterator.ensures.into_iter_gives ∙ c.records-i-items.ensures in
    let test = of_channel a.channel.now a.k in
    (records-mine a.owner.now a.p c.told-owner e, records-first a.owner.now a.p a.channel.now a.k ∙ ap (first_of test) (sym e))

pub bounds-channel-i : goal.bounds-channel-i
bounds-channel-i c = (turn-mine c.in-Some.ensures.steps c.loop-i.invariant.0).0

pub returns-then-channel-i : goal.returns-then-channel-i
returns-then-channel-i c =
    let a = c.args in
    let i : ℕ = c.in-Some.i in
    let test = of_channel a.channel.now a.k in
    let first = c.loop-i.invariant.1 ∙ turn-first c.in-Some.ensures.steps test in
    let t : test i ≡ true = eq-eqb (get_or a.channel.now i 0) a.k c.if-channel-i.true in
    let all = gives a.owner.now a.channel.now a.charged.now a.accounting.now a.p a.k {found = Some i} refl (sym (simp t at first)) in
    record { state = all.0; active = all.1 }

pub loop-i-preserved : goal.loop-i-preserved
loop-i-preserved c =
    let a = c.args in
    let i : ℕ = c.in-Some.i in
    let s = c.in-Some.ensures.steps in
    let test = of_channel a.channel.now a.k in
    let first = c.loop-i.invariant.1 ∙ turn-first s test in
    let t : test i ≡ false = ne_eqb (get_or a.channel.now i 0) a.k c.if-channel-i.false in
    (turn-later s c.loop-i.invariant.0, simp t at first)

pub returns : goal.returns
returns c =
    let a = c.args in
    let first = c.loop-i.invariant.1 ∙ end-first c.in-None.ensures.steps.0 (of_channel a.channel.now a.k) in
    let all = gives a.owner.now a.channel.now a.charged.now a.accounting.now a.p a.k {found = None} c.none.ensures (sym first) in
    record { state = all.0; active = all.1 }
