-- What the ledger enters for a message that was answered by a reply, case by case. Assumes nothing.
use Rattle.std.specs.Prelude.{Option, Some, None}
use Prim.Native.Nat.{ℕ}
use mathlib.Core.Path.{◌≡◌, refl, sym, ap, subst}
use mathlib.Core.Bool.{Bool, true, false, ◌&&◌, ◌||◌}
use mathlib.Core.List.{List, []}
use native.Mathlib.Omega.{arith}
use lib.ListN.{drop}
use lib.Dec.{eqb}
use borrow.Author.Tests.{eqb-true, eq-eqb, ne_eqb}
use Rattle.octets.proofs.Tests.{both}
use Rattle.header.specs.declared.Header.{Header}
use Rattle.header.specs.Header.{header_in}
use Rattle.items.specs.Items.{count_of}
use Rattle.checks.specs.Table.{enclosed_of, refused_of}
use Rattle.control.specs.Control.{commands_in}
use Rattle.card.specs.Cards.{Card}
use Rattle.demand3.specs.Calls.{Tables}
use Rattle.demand3.specs.Reads.{kind_in, result_in, port_in, amount_in, enclosed_in}
use Rattle.demand3.specs.Ledger.{Line, Ledger, write, with_delegation, acted_in, acts_all, write_at, message_entry}
use Rattle.demand3.proofs.Agree.{Agree, agree_as, write-back}
use Rattle.demand3.proofs.Replies.{kind-refusal, result-refusal, refused_unnumbered}
use Rattle.demand3.proofs.Views.{Other}

-- the ledger's tests: a 147 that gives the delegation, a 144 whose commands are carried out
abbrev gives : List ℕ → Bool
gives m = eqb (kind_in m) 147 && eqb (result_in m) 3

abbrev orders : List ℕ → Bool
orders m = eqb (kind_in m) 144 && (eqb (result_in m) 1 || eqb (result_in m) 2)

module _ (t : Tables) (l : Ledger) (m reply : List ℕ) where
  pub entry-given : kind_in reply ≡ 147 → message_entry t l m reply ≡ write_at l (port_in t reply) (λ x. with_delegation x (amount_in reply))
  unfolding message_entry
  entry-given e = rw (eq-eqb (kind_in reply) 147 e)

  module _ (other : Other (kind_in reply) 147) where
    pub entry-taken : kind_in m ≡ 147 → result_in m ≡ 3 → message_entry t l m reply ≡ write_at l (port_in t m) (λ x. with_delegation x (amount_in m))
    unfolding message_entry
    entry-taken k r = rw (ne_eqb (kind_in reply) 147 other, k, r)

    pub entry-ordered : kind_in m ≡ 144 → (eqb (result_in m) 1 || eqb (result_in m) 2) ≡ true
        → message_entry t l m reply ≡ write_at l (port_in t m) (λ x. acts_all t x (acted_in reply (commands_in (drop 16 m))))
    unfolding message_entry
    entry-ordered k r = rw (ne_eqb (kind_in reply) 147 other, k, r)

    pub entry_kept : gives m ≡ false → orders m ≡ false → message_entry t l m reply ≡ l
    unfolding message_entry
    entry_kept g o = rw (ne_eqb (kind_in reply) 147 other, g, o)

    -- as of any other type
    pub entry_other : Other (kind_in m) 147 → Other (kind_in m) 144 → message_entry t l m reply ≡ l
    entry_other g o = entry_kept (rw (ne_eqb (kind_in m) 147 g)) (rw (ne_eqb (kind_in m) 144 o))

-- ---- a refusal by the table changes no line
acted-refused : (h : Header) (s : List ℕ) (code : ℕ) (cs : List (List ℕ)) → h.kind ≡ 144 → acted_in (refused_of h s code) cs ≡ []
unfolding acted_in
acted-refused h s code cs k =
    rw (
      eq-eqb (result_in (refused_of h s code)) 4 (result-refusal h code (enclosed_of h.kind s code)),
      eq-eqb (count_of 0x0022 (enclosed_in (refused_of h s code))) 0 (refused_unnumbered h s code k),
    )

module _ (t : Tables) (card : Card) (l : Ledger) (a : Agree t card l) where
  -- a line rewritten to itself
  unchanged : (r : Option ℕ) (change : Line → Line) → ((x : Line) → change x ≡ x) → Agree t card (write_at l r change)
  unfolding write_at
  unchanged None change e = a
  unchanged (Some p) change e = subst (λ (x : Line). Agree t card (write l p x)) (sym (e (l p))) (agree_as t (λ q. sym (write-back l p q)) a)

  module _ (m : List ℕ) (code : ℕ) (other : Other (kind_in m) 147) where
    abbrev reply : List ℕ
    reply = refused_of (header_in m) (drop 16 m) code

    reply_other : Other (kind_in reply) 147
    reply_other e = omega (arith, kind-refusal (header_in m) code (enclosed_of (header_in m).kind (drop 16 m) code))

    pub refused_agrees : Agree t card (message_entry t l m reply)
    unfolding kind_in acts_all
    refused_agrees = go (orders m) refl
      where
        go : (b : Bool) → orders m ≡ b → Agree t card (message_entry t l m reply)
        go false o = subst (Agree t card) (sym (entry_kept t l m reply reply_other (rw (ne_eqb (kind_in m) 147 other)) o)) a
        go true o =
            let b = both (eqb (kind_in m) 144) (eqb (result_in m) 1 || eqb (result_in m) 2) o in
            let k = eqb-true (kind_in m) 144 b.0 in
            subst (Agree t card) (sym (entry-ordered t l m reply reply_other k b.1))
            (unchanged (port_in t m) (λ x. acts_all t x (acted_in reply (commands_in (drop 16 m))))
            (λ x. ap (acts_all t x) (acted-refused (header_in m) (drop 16 m) code (commands_in (drop 16 m)) k)))
