-- The cases of port up, port down, set delegation and leave, each from the tests that lead to it. Assumes nothing.
use mathlib.Core.Path.{◌≡◌, ◌∙◌}
use mathlib.Core.Bool.{true, false, cond}
use mathlib.Core.List.{List}
use Prim.Native.Nat.{ℕ}
use lib.Dec.{leb}
use Rattle.octets.proofs.Tests.{taken, left}
use Rattle.flows.specs.declared.Flow.{Flow}
use Rattle.flows.specs.Flows.{good_flow}
use Rattle.ports.specs.declared.Change.TheVariants.{BroughtUp, TakenDown, Delegated}
use Rattle.ports.specs.Ports.{changed_by}
use Rattle.pool.specs.Pool.{has_flow, committed_of, ended_flow, ended_all}
use Rattle.card.specs.Cards.{Card, has_port, port_at, with_pool}
use Rattle.card.specs.Outcome.{Outcome, keeps, becomes}
use Rattle.card.specs.Calls.{port_up_of, port_down_of, set_delegation_of, leave_flow, leave_of}
use Rattle.card.specs.Parts.{changed_at}

-- ---- port up, port down
module _ (card : Card) (p : ℕ) where
  pub up_7 : has_port card p ≡ false → keeps card 7 ≡ port_up_of card p
  unfolding port_up_of changed_by
  up_7 h = left (has_port card p) (becomes (changed_at card p BroughtUp)) (keeps card 7) h

  pub up-goes : has_port card p ≡ true → becomes (changed_at card p BroughtUp) ≡ port_up_of card p
  unfolding port_up_of changed_by
  up-goes h = taken (has_port card p) (becomes (changed_at card p BroughtUp)) (keeps card 7) h

  -- its flows end, and its record changes
  abbrev down : Outcome
  down = becomes (changed_at (with_pool card (ended_all card.pool p)) p TakenDown)

  abbrev down_by : Outcome
  down_by = cond (port_at card p).up down (keeps card 0)

  pub down_7 : has_port card p ≡ false → keeps card 7 ≡ port_down_of card p
  unfolding port_down_of changed_by
  down_7 h = left (has_port card p) down_by (keeps card 7) h

  module _ (here : has_port card p ≡ true) where
    pub down-was : (port_at card p).up ≡ false → keeps card 0 ≡ port_down_of card p
    unfolding port_down_of changed_by
    down-was h = left (port_at card p).up down (keeps card 0) h ∙ taken (has_port card p) down_by (keeps card 7) here

    pub down-goes : (port_at card p).up ≡ true → down ≡ port_down_of card p
    unfolding port_down_of changed_by
    down-goes h = taken (port_at card p).up down (keeps card 0) h ∙ taken (has_port card p) down_by (keeps card 7) here

-- ---- set delegation
module _ (channels : List ℕ) (card : Card) (p amount : ℕ) where
  abbrev enough : Outcome
  enough = cond (leb (committed_of channels card.pool p) amount) (becomes (changed_at card p (Delegated amount))) (keeps card 11)

  pub delegation_7 : has_port card p ≡ false → keeps card 7 ≡ set_delegation_of channels card p amount
  unfolding set_delegation_of changed_by
  delegation_7 h = left (has_port card p) enough (keeps card 7) h

  module _ (here : has_port card p ≡ true) where
    pub delegation_11 : leb (committed_of channels card.pool p) amount ≡ false → keeps card 11 ≡ set_delegation_of channels card p amount
    unfolding set_delegation_of changed_by
    delegation_11 h = left (leb (committed_of channels card.pool p) amount) (becomes (changed_at card p (Delegated amount))) (keeps card 11) h ∙ taken (has_port card p) enough (keeps card 7) here

    pub delegation-set : leb (committed_of channels card.pool p) amount ≡ true → becomes (changed_at card p (Delegated amount)) ≡ set_delegation_of channels card p amount
    unfolding set_delegation_of changed_by
    delegation-set h = taken (leb (committed_of channels card.pool p) amount) (becomes (changed_at card p (Delegated amount))) (keeps card 11) h ∙ taken (has_port card p) enough (keeps card 7) here

-- ---- leave
module _ (table : List ℕ) (card : Card) (p : ℕ) (f : Flow) where
  abbrev good : Outcome
  good = cond (good_flow f) (leave_flow table card p f) (keeps card 8)

  abbrev up : Outcome
  up = cond (port_at card p).up good (keeps card 6)

  pub leave_7 : has_port card p ≡ false → keeps card 7 ≡ leave_of table card p f
  unfolding leave_of
  leave_7 n = left (has_port card p) up (keeps card 7) n

  module _ (h : has_port card p ≡ true) where
    pub leave_6 : (port_at card p).up ≡ false → keeps card 6 ≡ leave_of table card p f
    unfolding leave_of
    leave_6 n = left (port_at card p).up good (keeps card 6) n ∙ taken (has_port card p) up (keeps card 7) h

    module _ (u : (port_at card p).up ≡ true) where
      pub leave_8 : good_flow f ≡ false → keeps card 8 ≡ leave_of table card p f
      unfolding leave_of
      leave_8 n = left (good_flow f) (leave_flow table card p f) (keeps card 8) n ∙ taken (port_at card p).up good (keeps card 6) u ∙ taken (has_port card p) up (keeps card 7) h

      pub leave_on : good_flow f ≡ true → leave_flow table card p f ≡ leave_of table card p f
      unfolding leave_of
      leave_on g = taken (good_flow f) (leave_flow table card p f) (keeps card 8) g ∙ taken (port_at card p).up good (keeps card 6) u ∙ taken (has_port card p) up (keeps card 7) h

  pub leave_10 : has_flow table card.pool p f ≡ false → keeps card 10 ≡ leave_flow table card p f
  unfolding leave_flow
  leave_10 n = left (has_flow table card.pool p f) (becomes (with_pool card (ended_flow table card.pool p f))) (keeps card 10) n

  pub leave_ends : has_flow table card.pool p f ≡ true → becomes (with_pool card (ended_flow table card.pool p f)) ≡ leave_flow table card p f
  unfolding leave_flow
  leave_ends h = taken (has_flow table card.pool p f) (becomes (with_pool card (ended_flow table card.pool p f))) (keeps card 10) h
