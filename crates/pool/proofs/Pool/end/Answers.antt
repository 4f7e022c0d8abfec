use mathlib.Core.Path.{◌≡◌, sym, ap, ◌∙◌}
use lib.ListN.{get_or}
use Rattle.flows.specs.declared.Flow.{Flow}
use Rattle.flows.specs.Flows.{same_flow}
use Rattle.channels.specs.Channels.{is_row}
use Rattle.pool.proofs.Lent.{ending_start, ending_hit, ending_miss, ending_end, ended-none}
use borrow.Author.Rules.{rules}
use Rattle.pool.proofs.Pool.end.Goals.{then-same_flow, else-same_flow}
use Rattle.pool.proofs.Pool.end.Goals as goal

pub loop-i-init : goal.loop-i-init
loop-i-init c = let a = c.args in ending_start a.self.now a.p (is_row a.channels.now a.f) (search rules) c.next_of-i.ensures

pub loop-i-preserved : goal.loop-i-preserved
loop-i-preserved c =
    let a = c.args in
    let h = c.loop-i in
    let l = c.loop-i-test.true in
    let x = c.next_of-i-in-loop-i.ensures in
    let sel = is_row a.channels.now a.f in
    let told : c.same_flow.result ≡ sel (get_or h.self.channel h.i 0) =
    c.same_flow.ensures ∙ ap (λ (g : Flow). same_flow g a.f) c.channel_at.ensures in
    elim c.if-same_flow.branch [ then-same_flow w ↦ ending_hit a.self.now a.p sel h.invariant l x (sym told ∙ w.if-same_flow.true) w.self-is w.found-is | else-same_flow w ↦ ending_miss a.self.now a.p sel h.invariant l x (sym told ∙ w.if-same_flow.false) w.self-is w.found-is ]

pub returns : goal.returns
returns c =
    let a = c.args in
    let sel = is_row a.channels.now a.f in
    let all = ending_end a.self.now a.p sel c.loop-i.invariant c.loop-i-test.false in
    record { was = all.0; ends = all.1; none = λ e. all.1 ∙ ended-none a.self.now a.p sel (search rules) (sym all.0 ∙ e) }
