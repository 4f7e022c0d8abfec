-- A request with transaction 0 is refused with 0x2 before anything after its header is looked at. Assumes nothing.
use Prim.Native.Nat.{ℕ, ◌≤◌}
use mathlib.Core.Path.{◌≡◌, refl}
use mathlib.Core.Logic.{◌⊎◌, ⊎_elim}
use mathlib.Core.Bool.{true, false, ◌&&◌}
use mathlib.Core.List.{List, []}
use lib.Dec.{eqb}
use borrow.Author.Tests.{le-ltb}
use Rattle.header.specs.Header.{size_ok, usable, header_in, head_in, message_of}
use Rattle.writers.specs.Tlvs.{status_of}
use Rattle.replies.specs.Replies.{reply_header, refusal_of}
use Rattle.card.specs.Cards.{Card}
use Rattle.card.specs.Outcome.{Outcome, writes}
use Rattle.rules.specs.Rules.{handled, result_ok, transaction_ok, is_among}
use Rattle.checks.specs.Table.{table_of, enclosed_of}
use Rattle.messages.specs.Messages.{is_answer, is_notice, requested, by_result, by_head, received_of}
use Rattle.demand3.specs.Calls.{Tables, outcome_of}
use Rattle.demand3.specs.Calls.Call.{message}
use Rattle.demand3.specs.Reads.{kind_in, result_in, transaction_in}
use Rattle.demand3.specs.Corollaries.{RightResult}

module _ (t : Tables) (card : Card) (m : List ℕ) (size : size_ok m ≡ true) (header : usable m ≡ true) (space : ℕ) (k : 4608 ≤ space)
    (zero : transaction_in m ≡ 0) where
  abbrev refusal : Outcome
  refusal = writes card (message_of (reply_header (header_in m) 91 4 0x2) (status_of (kind_in m) []))

  -- a type that is handled, but 147, and a Result that it asks for
  module _ (kind result : ℕ) (is_kind : kind_in m ≡ kind) (is_result : result_in m ≡ result) where
    zero-comes : handled kind ≡ true → result_ok kind result ≡ true → eqb kind 147 ≡ false → is_answer result ≡ false
        → (eqb kind 144 && eqb result 0) ≡ false → outcome_of t card (message m space) ≡ refusal
    unfolding outcome_of received_of head_in by_head by_result is_notice requested table_of transaction_ok enclosed_of refusal_of kind_in result_in transaction_in
    zero-comes known ok other request carried =
        rw (le-ltb space 4608 k, size, header, is_kind, is_result, other, request, carried, known, ok, zero)

  pub zero-refused : RightResult m → outcome_of t card (message m space) ≡ refusal
  unfolding handled is_among result_ok is_answer
  zero-refused =
      ⊎_elim
      (λ (a : (kind_in m ≡ 144) × ((result_in m ≡ 1) ⊎ (result_in m ≡ 2))). ⊎_elim
      (λ (e : result_in m ≡ 1). zero-comes 144 1 a.0 e refl refl refl refl refl)
      (λ (e : result_in m ≡ 2). zero-comes 144 2 a.0 e refl refl refl refl refl) a.1)
      (⊎_elim
      (λ (b : (kind_in m ≡ 146) × (result_in m ≡ 0)). zero-comes 146 0 b.0 b.1 refl refl refl refl refl)
      (λ (c : ((kind_in m ≡ 148) ⊎ (kind_in m ≡ 149)) × (result_in m ≡ 2)). ⊎_elim
      (λ (e : kind_in m ≡ 148). zero-comes 148 2 e c.1 refl refl refl refl refl)
      (λ (e : kind_in m ≡ 149). zero-comes 149 2 e c.1 refl refl refl refl refl) c.0))
