use mathlib.Core.Path.{refl, sym, ap, ap₂}
use mathlib.Core.List.{List}
use Prim.Native.Nat.{ℕ}
use native.Mathlib.Omega.{arith}
use lib.ListN.{length}
use Rattle.circuits.proofs.Circuits.{id_short}
use Rattle.replies.specs.Replies.{amount_reply}
use Rattle.ports.specs.declared.Port.{Port}
use Rattle.card.specs.Cards.{with_pool}
use Rattle.card.specs.Outcome.{writes}
use Rattle.card.proofs.Parts.{record_is, comes_replied}
use Rattle.queries.specs.Queries.{delegation_query}
use Rattle.queries.proofs.query_delegation.Goals as goal

pub put_amount-n-requires : goal.put_amount-n-requires
put_amount-n-requires c = (omega arith, omega (arith, id_short c.args.ids.now c.args.terms.at, ap length c.id_at.ensures))

pub returns : goal.returns
unfolding delegation_query
returns c =
    λ pool.
    let a = c.args in
    comes_replied refl c.changed.ensures c.put_amount-n.ensures
    (λ card t. ap₂ (λ (id : List ℕ) (y : Port). writes (with_pool card pool) (amount_reply a.h a.h.kind 3 0 id y.delegation)) c.id_at.ensures (sym (record_is t)))
