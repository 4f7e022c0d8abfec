-- What an Add of the flow of channel k and a Delete come to, case by case, from the tests that lead there. Assumes nothing.
use Rattle.std.specs.Prelude.{Some}
use mathlib.Core.Path.{◌≡◌, sym, ◌∙◌}
use mathlib.Core.Bool.{true, false}
use mathlib.Core.List.{List}
use Prim.Native.Nat.{ℕ}
use lib.Dec.{eqb}
use borrow.Author.Tests.{eq-eqb, ne_eqb}
use Rattle.octets.proofs.Tests.{taken, left}
use Rattle.flows.specs.declared.Flow.{Flow}
use Rattle.pool.specs.Pool.{is_active, has_flow, began, accounted, ended_flow}
use Rattle.card.specs.Cards.{Card, with_pool}
use Rattle.joins.specs.Joins.{admit_number}
use Rattle.commands.specs.Commands.{Ran, fails, succeeds, add_new, add_row, delete_flow}

module _ (channels : List ℕ) (card : Card) (p : ℕ) (f : Flow) where
  abbrev ends : Ran
  ends = succeeds (with_pool card (ended_flow channels card.pool p f))

  pub delete-active : has_flow channels card.pool p f ≡ true → ends ≡ delete_flow channels card p f
  unfolding delete_flow
  delete-active h = taken (has_flow channels card.pool p f) ends (fails card 0x66) h

  pub delete_idle : has_flow channels card.pool p f ≡ false → fails card 0x66 ≡ delete_flow channels card p f
  unfolding delete_flow
  delete_idle h = left (has_flow channels card.pool p f) ends (fails card 0x66) h

module _ (card : Card) (p k : ℕ) where
  module _ (channels : List ℕ) (accounting : ℕ) where
    abbrev again : Ran
    again = succeeds (with_pool card (accounted card.pool p k accounting))

    abbrev begins : Ran
    begins = succeeds (with_pool card (began card.pool p k card.head.add_cac accounting))

    abbrev number : ℕ
    number = admit_number channels card card.head.add_cac p k

    pub add-active : is_active card.pool p k ≡ true → again ≡ add_row channels card p accounting (Some k)
    unfolding add_row
    add-active h = taken (is_active card.pool p k) again (add_new channels card p k accounting) h

    -- n is what admission answers
    module _ (idle : is_active card.pool p k ≡ false) {n : ℕ} (e : n ≡ number) where
      new : add_new channels card p k accounting ≡ add_row channels card p accounting (Some k)
      unfolding add_row
      new = left (is_active card.pool p k) again (add_new channels card p k accounting) idle

      pub add-refused : (n ≡ 0 → ⊥) → fails card 0x13 ≡ add_row channels card p accounting (Some k)
      unfolding add_new
      add-refused h = left (eqb number 0) begins (fails card 0x13) (ne_eqb number 0 (λ q. h (e ∙ q))) ∙ new

      pub add-begins : n ≡ 0 → begins ≡ add_row channels card p accounting (Some k)
      unfolding add_new
      add-begins h = taken (eqb number 0) begins (fails card 0x13) (eq-eqb number 0 (sym e ∙ h)) ∙ new
