use Rattle.std.proofs.Common.{rules}
use Prim.Native.Nat.{ℕ, min}
use mathlib.Core.Path.{◌≡◌, refl, sym, ap, ◌∙◌}
use native.Mathlib.Omega.{arith}
use Rattle.lists.specs.Lists.{matching, list_decision}
use Rattle.lists.specs.declared.Rank.{Rank}
use Rattle.lists.specs.Ranks.{highest, decision_of}
use Rattle.lists.proofs.Laws.{laws}
use Rattle.lists.proofs.Ranks.{decision_is, above_less, turn_other, turn_raise, turn_low}
use Rattle.lists.proofs.list_decision.Goals.{then-row_matches+then-lt, then-row_matches+else-lt, else-row_matches}
use Rattle.lists.proofs.list_decision.Goals as goal

pub loop-i-init : goal.loop-i-init
unfolding matching highest
loop-i-init c = refl

pub loop-i-preserved : goal.loop-i-preserved
loop-i-preserved c =
    let h = c.loop-i in
    let a = c.args in
    let m = c.row_matches in
    let t = a.entries.now in
    elim c.if-row_matches.branch [
      | then-row_matches+then-lt w ↦ w.best-is ∙ turn_raise t a.f h.i h.best h.invariant (sym m.ensures ∙ w.if-row_matches.true) w.entry_at.result w.rank_of-rank.result w.entry_at.ensures w.rank_of-rank.ensures (sym (above_less w.rank_of-rank.result h.best) ∙ sym w.lt.ensures ∙ w.if-lt.true)
      | then-row_matches+else-lt w ↦ w.best-is ∙ turn_low t a.f h.i h.best h.invariant (sym m.ensures ∙ w.if-row_matches.true) w.entry_at.result w.rank_of-rank.result w.entry_at.ensures w.rank_of-rank.ensures (sym (above_less w.rank_of-rank.result h.best) ∙ sym w.lt.ensures ∙ w.if-lt.false)
      | else-row_matches w ↦ w.best-is ∙ turn_other t a.f h.i h.best h.invariant (sym m.ensures ∙ w.if-row_matches.false)
    ]

pub returns : goal.returns
unfolding list_decision
returns c =
    let h = c.loop-i in
    let a = c.args in
    let most : c.min-rows.result ≡ min a.n 128 = search rules in
    let e : h.i ≡ min a.n 128 = omega (arith, most, c.loop-i-test.false) in
    let t = a.entries.now in
    record {
      value = c.decision_of.ensures ∙ ap (λ (r : Rank). decision_of r.strength) (h.invariant ∙ ap (λ (k : ℕ). highest (matching t a.f k)) e) ∙ decision_is (matching t a.f (min a.n 128));
      laws = laws;
    }
