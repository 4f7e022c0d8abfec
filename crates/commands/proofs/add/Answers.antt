use mathlib.Core.Path.{refl, sym, ap}
use native.Mathlib.Omega.{arith}
use Rattle.card.specs.Cards.{with_pool}
use Rattle.commands.specs.Commands.{add_row}
use Rattle.commands.proofs.Runs.{runs_err, runs_as, listed}
use Rattle.commands.proofs.add.Goals as goal

pub returns-in-None : goal.returns-in-None
unfolding add_row
returns-in-None c =
    let a = c.args in
    runs_err 0x66 (λ z. omega arith) refl
    (λ card h. ap (add_row a.channels.now (with_pool card a.pool.now) a.terms.at a.value) (sym (listed h a.channels.now a.f c.channel_of-found.ensures c.in-None.is)))

pub returns-in-Some : goal.returns-in-Some
returns-in-Some c =
    let a = c.args in
    runs_as c.add_channel.ensures
    (λ card h. ap (add_row a.channels.now (with_pool card a.pool.now) a.terms.at a.value) (sym (listed h a.channels.now a.f c.channel_of-found.ensures c.in-Some.is)))
