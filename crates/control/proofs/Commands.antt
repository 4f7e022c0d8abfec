-- The commands of a 144.
--     from_none, from_next, from_fail    no command is left, the next one succeeds, the next one fails
--     all_written, all_silent            all good, for Result 2 and for any other
--     commands_end, .. commands_hit      the Commands among the TLVs that are left
--     controlled-by                      all of them, with the port's circuit id
-- Assumes nothing.
use mathlib.Core.Path.{◌≡◌, refl, sym, ap, ◌∙◌}
use mathlib.Core.List.{List, [], ◌∷◌}
use mathlib.Core.Bool.{cond}
use Prim.Native.Nat.{ℕ, ◌+◌}
use lib.Dec.{eqb}
use borrow.Author.Tests.{eq-eqb, ne_eqb}
use Rattle.octets.proofs.Tests.{taken, left}
use Rattle.header.specs.declared.Header.{Header}
use Rattle.items.specs.Items.{Item, of_type}
use Rattle.items.proofs.Types.{of_hit, of_miss}
use Rattle.replies.specs.Replies.{success_of}
use Rattle.circuits.specs.Circuits.{id_at}
use Rattle.card.specs.Cards.{Card}
use Rattle.card.specs.Outcome.{Outcome, becomes, writes}
use Rattle.commands.specs.Commands.{Ran, ran_of}
use Rattle.control.specs.Control.{failure_of, all_good, commands_from, commands_in, controlled}

module _ (channels : List ℕ) (h : Header) (id : List ℕ) (p : ℕ) (card : Card) (seq : ℕ) where
  pub from_none : commands_from channels h id p card seq [] ≡ all_good h card
  unfolding commands_from
  from_none = refl

  -- r is what the first command comes to
  module _ (c : List ℕ) (cs : List (List ℕ)) {r : Ran} (e : r ≡ ran_of channels card p c) where
    abbrev rest : Ran → Outcome
    rest x = commands_from channels h id p x.card (seq + 1) cs

    abbrev fail : Ran → Outcome
    fail x = writes card (failure_of h x.code id seq c)

    by-ran : cond (eqb r.code 0) (rest r) (fail r) ≡ commands_from channels h id p card seq (c ∷ cs)
    unfolding commands_from
    by-ran = ap (λ (x : Ran). cond (eqb x.code 0) (rest x) (fail x)) e

    pub from_next : r.code ≡ 0 → commands_from channels h id p card seq (c ∷ cs) ≡ commands_from channels h id p r.card (seq + 1) cs
    from_next z = sym (taken (eqb r.code 0) (rest r) (fail r) (eq-eqb r.code 0 z) ∙ by-ran)

    pub from_fail : (r.code ≡ 0 → ⊥) → commands_from channels h id p card seq (c ∷ cs) ≡ writes card (failure_of h r.code id seq c)
    from_fail z = sym (left (eqb r.code 0) (rest r) (fail r) (ne_eqb r.code 0 z) ∙ by-ran)

module _ (h : Header) (card : Card) where
  pub all_written : h.result ≡ 2 → writes card (success_of h) ≡ all_good h card
  unfolding all_good
  all_written e = taken (eqb h.result 2) (writes card (success_of h)) (becomes card) (eq-eqb h.result 2 e)

  pub all_silent : (h.result ≡ 2 → ⊥) → becomes card ≡ all_good h card
  unfolding all_good
  all_silent e = left (eqb h.result 2) (writes card (success_of h)) (becomes card) (ne_eqb h.result 2 e)

-- the Commands among the TLVs that are left, by what stands first there
pub commands_end : {is : List Item} → is ≡ [] → of_type 0x0011 is ≡ []
unfolding of_type
commands_end e = ap (of_type 0x0011) e

module _ {is rest : List Item} {i : Item} (e : is ≡ i ∷ rest) where
  pub commands_miss : (i.kind ≡ 0x0011 → ⊥) → of_type 0x0011 is ≡ of_type 0x0011 rest
  commands_miss k = ap (of_type 0x0011) e ∙ of_miss i rest k

  pub commands_hit : i.kind ≡ 0x0011 → of_type 0x0011 is ≡ i.content ∷ of_type 0x0011 rest
  commands_hit k = ap (of_type 0x0011) e ∙ of_hit i rest k

pub controlled-by : (ids channels : List ℕ) (card : Card) (h : Header) (p : ℕ) (s : List ℕ) {id : List ℕ} → id ≡ id_at ids p
    → commands_from channels h id p card 1 (commands_in s) ≡ controlled ids channels card h p s
unfolding controlled
controlled-by ids channels card h p s e = ap (λ (i : List ℕ). commands_from channels h i p card 1 (commands_in s)) e
