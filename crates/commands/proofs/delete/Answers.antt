use mathlib.Core.Path.{sym, ◌∙◌}
use native.Mathlib.Omega.{arith}
use Rattle.card.specs.Cards.{with_pool}
use Rattle.commands.proofs.Rows.{delete-active, delete_idle}
use Rattle.commands.proofs.Runs.{runs_ok, runs_err}
use Rattle.commands.proofs.delete.Goals as goal

pub returns-then-end : goal.returns-then-end
returns-then-end c =
    let a = c.args in
    runs_ok c.end.ensures.ends
    (λ card h. delete-active a.channels.now (with_pool card a.pool.now) a.terms.at a.f (sym c.end.ensures.was ∙ c.if-end.true))

pub returns : goal.returns
returns c =
    let a = c.args in
    runs_err 0x66 (λ z. omega arith) (c.end.ensures.none c.if-end.false)
    (λ card h. delete_idle a.channels.now (with_pool card a.pool.now) a.terms.at a.f (sym c.end.ensures.was ∙ c.if-end.false))
