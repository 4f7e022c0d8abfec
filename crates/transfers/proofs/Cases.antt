-- The cases of a reallocation request and of a transfer, each from the tests that lead to it. Assumes nothing.
use mathlib.Core.Path.{◌≡◌, sym, ap, ◌∙◌}
use mathlib.Core.Bool.{true, false}
use mathlib.Core.List.{List}
use Prim.Native.Nat.{ℕ, ◌≤◌, ◌<◌, min, max}
use lib.Dec.{eqb, ltb}
use borrow.Author.Tests.{lt-ltb, le-ltb}
use Rattle.header.specs.declared.Header.{Header}
use Rattle.fields.specs.declared.Request.{Request}
use Rattle.ports.specs.declared.Port.{Port}
use Rattle.ports.specs.declared.Change.TheVariants.{Delegated, Closed}
use Rattle.ports.specs.Ports.{changed_by, answers, within}
use Rattle.pool.specs.Pool.{committed_of}
use Rattle.card.specs.Cards.{Card, port_at}
use Rattle.card.specs.Outcome.{Outcome, keeps, becomes}
use Rattle.card.specs.Parts.{changed_at}
use Rattle.transfers.specs.Transfers.{reduced_to, transfer_fails, transfer_gives, reallocated, transferred}

-- ---- 146
module _ (ids channels : List ℕ) (card : Card) (h : Header) (p : ℕ) (r : Request) where
  abbrev answer : Outcome
  answer = reallocated ids channels card h p r

  pub more_preferred : ltb r.required r.preferred ≡ true → transfer_fails ids card h p 0x67 ≡ answer
  unfolding reallocated
  more_preferred t = rw t

  -- m is what is committed
  module _ (ordered : ltb r.required r.preferred ≡ false) {m : ℕ} (e : m ≡ committed_of channels card.pool p) where
    pub under_committed : r.required < m → transfer_fails ids card h p 0 ≡ answer
    unfolding reallocated
    under_committed l = rw (ordered, ← e, lt-ltb r.required m l)

    -- x is the port's record
    pub gives_up : m ≤ r.required → {x : Port} → port_at card p ≡ x → {amount : ℕ} → amount ≡ max m (min r.preferred x.delegation)
        → transfer_gives ids card h p amount ≡ answer
    unfolding reallocated reduced_to
    gives_up l s k =
        rw (ordered, ← e, le-ltb r.required m l) (ap (transfer_gives ids card h p) (k ∙ ap (λ (y : Port). max m (min r.preferred y.delegation)) (sym s)))

-- ---- 147: x is the port's record
module _ (card : Card) (h : Header) (p amount : ℕ) {x : Port} (s : port_at card p ≡ x) where
  abbrev comes : Outcome
  comes = transferred card h p amount

  pub none_answered : answers x h.transaction ≡ false → keeps card 16 ≡ comes
  unfolding transferred
  none_answered t = rw (s, t)

  module _ (asked : answers x h.transaction ≡ true) where
    pub refused : eqb h.result 4 ≡ true → becomes (changed_at card p Closed) ≡ comes
    unfolding transferred changed_by
    refused t = rw (s, asked, t)

    module _ (success : eqb h.result 4 ≡ false) where
      pub outside : within x amount ≡ false → keeps card 16 ≡ comes
      unfolding transferred
      outside t = rw (s, asked, success, t)

      pub taken-up : within x amount ≡ true → becomes (changed_at card p (Delegated amount)) ≡ comes
      unfolding transferred changed_by
      taken-up t = rw (s, asked, success, t)
