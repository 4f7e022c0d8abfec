-- The cases of a message, each from the tests that lead to it.
--     size_least, rest_short     how long a message that is handed in is, and what follows its header
--     named_size, .., right_by   the port that a message is about, by size and header
--     no_room, unusable_is       13, and 15 for size and header
--     passed-at                  a message that passes the table is about the port at the terms' place
--     verdict_offered            a transfer, by what the table gives
--     answer-taken, ..           by type and Result
--     verdict_requested, of_144, ..   a request, by what the table gives and by type
-- Assumes nothing.
use mathlib.Core.Path.{◌≡◌, refl, sym, ap, subst, ◌∙◌}
use mathlib.Core.Bool.{Bool, true, false, cond}
use mathlib.Core.List.{List, [], ◌∷◌}
use Prim.Native.Nat.{ℕ, ◌≤◌, ◌<◌}
use native.Mathlib.Omega.{arith}
use lib.ListN.{length, drop, length-drop}
use lib.Dec.{eqb, ltb, leb}
use borrow.Author.Tests.{leb-true}
use Rattle.std.specs.Prelude.{Option, Some, None, Result, Ok}
use Rattle.octets.proofs.Tests.{each}
use Rattle.header.specs.declared.Header.{Header}
use Rattle.header.specs.Header.{size_ok, usable, header_in, head_in}
use Rattle.items.specs.Items.{items_of, first_of}
use Rattle.fields.specs.declared.Request.{Request}
use Rattle.fields.specs.Fields.{request_in}
use Rattle.circuits.specs.Circuits.{port_of}
use Rattle.circuits.proofs.Circuits.{port_found}
use Rattle.pool.specs.declared.Pool.{Pool}
use Rattle.card.specs.Cards.{Card, with_pool}
use Rattle.card.specs.declared.Terms.{Terms}
use Rattle.card.specs.Outcome.{Outcome, keeps}
use Rattle.card.specs.Parts.{HasTerms}
use Rattle.checks.specs.Table.{id_in, number_of, port_named, table_of}
use Rattle.checks.proofs.Rows.{passed-tells, passed_named, located-by}
use Rattle.control.specs.Control.{controlled}
use Rattle.transfers.specs.Transfers.{reallocated}
use Rattle.queries.specs.Queries.{delegation_query, flow_query}
use Rattle.messages.specs.Messages.{is_answer, is_notice, by_type, requested, offered, by_result, by_head, received_of, named_by, named_in}

-- ---- size and header
module _ (m : List ℕ) (size : size_ok m ≡ true) where
  pub size_least : 16 ≤ length m
  unfolding size_ok
  size_least = leb-true 16 (length m) (each (leb 16 (length m) ∷ leb (length m) 4096 ∷ []) size).0

  pub rest_short : length (drop 16 m) ≤ 4096
  unfolding size_ok
  rest_short =
      let h = leb-true (length m) 4096 (each (leb 16 (length m) ∷ leb (length m) 4096 ∷ []) size).1.0 in
      simp length-drop (omega arith)

by-usable : (m : List ℕ) (b : Bool) → usable m ≡ b → head_in m ≡ cond b (Some (header_in m)) None
unfolding head_in
by-usable m b e = ap (λ (x : Bool). cond x (Some (header_in m)) None) e

-- ---- the port that a message is about: it is looked for where size and header are right
most_named : (r : Option ℕ) → ((p : ℕ) → r ≡ Some p → p < 64) → number_of r ≤ 64
unfolding number_of
most_named None small = omega arith
most_named (Some p) small = omega (arith, small p refl)

module _ (ids : List ℕ) (count : ℕ) (m : List ℕ) where
  pub named_size : size_ok m ≡ false → 65 ≡ named_in ids count m
  unfolding named_in
  named_size s = rw s

  module _ (size : size_ok m ≡ true) where
    pub named_unusable : head_in m ≡ None → 65 ≡ named_in ids count m
    unfolding named_in named_by
    named_unusable e = rw (size, e)

    pub named_usable : {h : Header} → head_in m ≡ Some h → port_named ids count (drop 16 m) ≡ named_in ids count m
    unfolding named_in named_by
    named_usable e = rw (size, e)

  named_most : port_named ids count (drop 16 m) ≤ 64
  unfolding port_named
  named_most = most_named (port_of ids count (id_in (drop 16 m))) (λ p e. (port_found ids count (id_in (drop 16 m)) e).small)

  -- they are right where it is at most 64
  pub right_by : {p : ℕ} → p ≡ named_in ids count m → p ≤ 64 → (size_ok m ≡ true) × (head_in m ≡ Some (header_in m))
  right_by {p} e l = go (size_ok m) refl (usable m) refl
    where
      go : (b : Bool) → size_ok m ≡ b → (u : Bool) → usable m ≡ u → (size_ok m ≡ true) × (head_in m ≡ Some (header_in m))
      go true s true u = (s, by-usable m true u)
      go true s false u = absurd (omega (arith, e, named_unusable s (by-usable m false u)))
      go false s u v = absurd (omega (arith, e, named_size s))

-- ---- 13, 15
module _ (ids channels : List ℕ) (card : Card) (m : List ℕ) (space : ℕ) where
  abbrev comes : Outcome
  comes = received_of ids channels card m space

  pub no_room : ltb space 4608 ≡ true → keeps card 13 ≡ comes
  unfolding received_of
  no_room t = rw t

  module _ (full : ltb space 4608 ≡ false) where
    pub usable_is : {h : Header} → size_ok m ≡ true → head_in m ≡ Some h → by_result ids channels card h (drop 16 m) ≡ comes
    unfolding received_of by_head
    usable_is size e = rw (full, size, e)

    bad_size : size_ok m ≡ false → keeps card 15 ≡ comes
    unfolding received_of
    bad_size t = rw (full, t)

    bad_header : size_ok m ≡ true → head_in m ≡ None → keeps card 15 ≡ comes
    unfolding received_of by_head
    bad_header size e = rw (full, size, e)

    pub unusable_is : (count : ℕ) {p : ℕ} → p ≡ named_in ids count m → 64 < p → keeps card 15 ≡ comes
    unusable_is count {p} e l = go (size_ok m) refl (usable m) refl
      where
        go : (b : Bool) → size_ok m ≡ b → (u : Bool) → usable m ≡ u → keeps card 15 ≡ comes
        go true s true u = absurd (omega (arith, e, named_usable ids count m s (by-usable m true u), named_most ids count m))
        go true s false u = bad_header s (by-usable m false u)
        go false s u v = bad_size s

-- ---- the table, on a card with these terms; p is the port that the Target names
module _ (ids s : List ℕ) {card : Card} {p : ℕ} {terms : Terms} (pool : Pool) (g : HasTerms card p terms) (e : p ≡ port_named ids terms.head.port_count s) where
  -- a message that passes is about the port at the terms' place
  pub passed-at : (h : Header) {q : ℕ} → table_of ids (with_pool card pool) h s ≡ Ok q → q ≡ terms.at
  passed-at h {q} t =
      let named : p ≡ q = (located-by pool g e).port ∙ passed_named ids (with_pool card pool) h s t in
      sym (g.place (subst (λ (n : ℕ). n < 64) (sym named) (passed-tells ids (with_pool card pool) h s t).small) ∙ named)

-- ---- a transfer; v is what the table gives, s what follows the header
pub verdict_offered : (card : Card) (h : Header) (s : List ℕ) {t x v : Result ℕ ℕ} → x ≡ t → x ≡ v → offered card h s v ≡ offered card h s t
verdict_offered card h s e g = ap (offered card h s) (sym g ∙ e)

-- ---- type and Result
module _ (ids channels : List ℕ) (card : Card) (h : Header) (s : List ℕ) where
  abbrev table : Result ℕ ℕ
  table = table_of ids card h s

  abbrev result : Outcome
  result = by_result ids channels card h s

  module _ (transfer : eqb h.kind 147 ≡ true) where
    pub answer-taken : is_answer h.result ≡ true → offered card h s table ≡ result
    unfolding by_result
    answer-taken t = rw (transfer, t)

    pub answer_needed : is_answer h.result ≡ false → keeps card 15 ≡ result
    unfolding by_result
    answer_needed t = rw (transfer, t)

  module _ (other : eqb h.kind 147 ≡ false) where
    pub answer_unasked : is_answer h.result ≡ true → keeps card 15 ≡ result
    unfolding by_result
    answer_unasked t = rw (other, t)

    module _ (request : is_answer h.result ≡ false) where
      pub notice_taken : is_notice h ≡ true → keeps card 0 ≡ result
      unfolding by_result
      notice_taken t = rw (other, request, t)

      pub request_checked : is_notice h ≡ false → requested ids channels card h s table ≡ result
      unfolding by_result
      request_checked t = rw (other, request, t)

  -- v is what the table gives
  pub verdict_requested : {x v : Result ℕ ℕ} → x ≡ table → x ≡ v → requested ids channels card h s v ≡ requested ids channels card h s table
  verdict_requested e g = ap (requested ids channels card h s) (sym g ∙ e)

  -- past the table
  module _ (p : ℕ) where
    abbrev answer : Outcome
    answer = by_type ids channels card h s p

    pub of_144 : eqb h.kind 144 ≡ true → controlled ids channels card h p s ≡ answer
    unfolding by_type
    of_144 t = rw t

    module _ (n₁ : eqb h.kind 144 ≡ false) where
      pub of_146 : eqb h.kind 146 ≡ true → {r : Request} → r ≡ request_in (first_of 0x0016 (items_of s)) → reallocated ids channels card h p r ≡ answer
      unfolding by_type
      of_146 t e = rw (n₁, t) (ap (reallocated ids channels card h p) e)

      module _ (n₂ : eqb h.kind 146 ≡ false) where
        pub of_148 : eqb h.kind 148 ≡ true → delegation_query ids card h p ≡ answer
        unfolding by_type
        of_148 t = rw (n₁, n₂, t)

        pub of_149 : eqb h.kind 148 ≡ false → flow_query ids channels card h p ≡ answer
        unfolding by_type
        of_149 t = rw (n₁, n₂, t)
