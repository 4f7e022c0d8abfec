use native.Mathlib.Omega.{arith}
use mathlib.Core.Path.{refl, ap}
use mathlib.Core.List.{List}
use Prim.Native.Nat.{ℕ}
use lib.ListN.{length}
use Rattle.circuits.proofs.Circuits.{id_short}
use Rattle.replies.specs.Replies.{amount_reply}
use Rattle.ports.specs.declared.Change.TheVariants.{Delegated}
use Rattle.ports.specs.Ports.{changed_by}
use Rattle.card.specs.Cards.{with_pool}
use Rattle.card.specs.Outcome.{writes}
use Rattle.card.specs.Parts.{changed_at}
use Rattle.card.proofs.Parts.{comes-wrote}
use Rattle.transfers.specs.Transfers.{transfer_gives}
use borrow.Author.Rules.{rules}
use Rattle.transfers.proofs.give.Goals as goal

pub put_amount-n-requires : goal.put_amount-n-requires
put_amount-n-requires c = (search rules, omega (arith, id_short c.args.ids.now c.args.terms.at, ap length c.id_at.ensures))

pub returns : goal.returns
unfolding transfer_gives changed_by
returns c = λ pool. let a = c.args in comes-wrote refl (Delegated a.amount) c.changed.ensures c.put_amount-n.ensures (λ card t.
    ap (λ (id : List ℕ). writes (changed_at (with_pool card pool) a.terms.at (Delegated a.amount)) (amount_reply a.h 147 3 0 id a.amount)) c.id_at.ensures)
