-- What a message comes to, taken apart once: the answers that there are, each with what the tests before it showed.
--     port_below   a port that is found is below the count, and below 64
--     Came, came   the kinds of answer, and that there are no others
-- Assumes nothing.
use Prim.Native.Nat.{ℕ, ◌<◌}
use mathlib.Core.Path.{◌≡◌, refl}
use mathlib.Core.Bool.{Bool, true, false, cond, false≢true, ◌&&◌, ◌||◌}
use mathlib.Core.List.{List}
use native.Mathlib.Omega.{arith}
use lib.ListN.{drop}
use lib.Dec.{eqb, ltb}
use borrow.Author.Tests.{eqb-true, eqb-false, ne_eqb}
use Rattle.std.specs.Prelude.{Some, None, Result, Ok, Err}
use Rattle.octets.proofs.Tests.{both}
use Rattle.header.specs.declared.Header.{Header}
use Rattle.header.specs.Header.{size_ok, usable, header_in, head_in}
use Rattle.items.specs.Items.{items_of, first_of}
use Rattle.fields.specs.Fields.{allocation_in, request_in}
use Rattle.circuits.specs.Circuits.{id_at, port_of}
use Rattle.circuits.proofs.Circuits.{port_found}
use Rattle.card.specs.Cards.{Card, port_at}
use Rattle.card.specs.Outcome.{Outcome, keeps, writes}
use Rattle.rules.specs.Rules.{handled, is_among}
use Rattle.checks.specs.Table.{table_of, refused_of}
use Rattle.checks.proofs.Rows.{TablePassed, passed-tells}
use Rattle.control.specs.Control.{controlled}
use Rattle.transfers.specs.Transfers.{reallocated, transferred}
use Rattle.queries.specs.Queries.{delegation_query, flow_query}
use Rattle.listing.specs.Listing.{rows_in_order}
use Rattle.messages.specs.Messages.{is_answer, is_notice, by_type, requested, refused_number, offered, by_result, by_head, received_of}
use Rattle.demand3.specs.Reads.{kind_in}
use Rattle.demand3.proofs.Replies.{kind-amount, kind-flows}

-- a port that is found is one of them, and below 64
pub port_below : (ids : List ℕ) (n : ℕ) (id : List ℕ) {p : ℕ} → port_of ids n id ≡ Some p → (p < n) × (p < 64)
port_below ids n id e = let f = port_found ids n id e in (f.below, f.small)

-- ---- the answers
abbrev pub Other : ℕ → ℕ → Type 0
Other a b = a ≡ b → ⊥

-- of the types that are handled the queries are left, 148 and 149
query_kind : (k : ℕ) → handled k ≡ true → Other k 144 → Other k 146 → Other k 147 → 147 < k
unfolding handled is_among
query_kind k h a b c = go (eqb k 148) (eqb k 149) refl refl (rw (ne_eqb k 144 a, ne_eqb k 146 b, ne_eqb k 147 c) at h)
  where
    go : (d e : Bool) → eqb k 148 ≡ d → eqb k 149 ≡ e → (d || (e || false)) ≡ true → 147 < k
    go true e p q r = omega (arith, eqb-true k 148 p)
    go false true p q r = omega (arith, eqb-true k 149 q)
    go false false p q r = absurd (false≢true r)

module _ (ids channels : List ℕ) (card : Card) (m : List ℕ) where
  abbrev pub head : Header
  head = header_in m

  abbrev pub rest : List ℕ
  rest = drop 16 m

  pub data Came : Outcome → Type 0 where
    -- a number that is not 0
    kept : (n : ℕ) → Other n 0 → Came (keeps card n)
    -- the server's reject notice
    notice : head.kind ≡ 144 → head.result ≡ 0 → Came (keeps card 0)
    -- a row of the table
    refused : (code : ℕ) → Other head.kind 147 → Came (writes card (refused_of head rest code))
    -- and past the table, by type
    ordered : (p : ℕ) → head.kind ≡ 144 → TablePassed ids card head rest p → Came (controlled ids channels card head p rest)
    reduced : (p : ℕ) → head.kind ≡ 146 → TablePassed ids card head rest p
        → Came (reallocated ids channels card head p (request_in (first_of 0x0016 (items_of rest))))
    -- a query (148, 149), answered by its own type
    queried : (reply : List ℕ) → 147 < head.kind → kind_in reply ≡ head.kind → Came (writes card reply)
    answered : (p : ℕ) → head.kind ≡ 147 → is_answer head.result ≡ true → TablePassed ids card head rest p
        → Came (transferred card head p (allocation_in (first_of 0x0015 (items_of rest))))

  pick : (b : Bool) (x y : Outcome) → (b ≡ true → Came x) → (b ≡ false → Came y) → Came (cond b x y)
  pick true x y f g = f refl
  pick false x y f g = g refl

  came_type : (p : ℕ) → Other head.kind 147 → TablePassed ids card head rest p → Came (by_type ids channels card head rest p)
  unfolding by_type delegation_query flow_query
  came_type p n a =
      pick (eqb head.kind 144) _ _ (λ e. ordered p (eqb-true head.kind 144 e) a)
      (λ e. pick (eqb head.kind 146) _ _ (λ f. reduced p (eqb-true head.kind 146 f) a)
      (λ f. let query = query_kind head.kind a.known (eqb-false head.kind 144 e) (eqb-false head.kind 146 f) n in
      pick (eqb head.kind 148) _ _
      (λ g. queried _ query (kind-amount head head.kind 3 0 (id_at ids p) (port_at card p).delegation))
      (λ g. queried _ query (kind-flows head (id_at ids p) channels (rows_in_order channels card.pool p)))))

  came-requested : Other head.kind 147 → (v : Result ℕ ℕ) → table_of ids card head rest ≡ v → Came (requested ids channels card head rest v)
  unfolding requested
  came-requested n (Err code) e = refused code n
  came-requested n (Ok p) e = came_type p n (passed-tells ids card head rest e)

  not_zero : (code : ℕ) → Other (refused_number code) 0
  unfolding refused_number
  not_zero code e = go (eqb code 0x500 || eqb code 0x6) e
    where
      go : (b : Bool) → ◌≡◌ {A = ℕ} (cond b 16 15) 0 → ⊥
      go true e = omega arith
      go false e = omega arith

  came-offered : head.kind ≡ 147 → is_answer head.result ≡ true → (v : Result ℕ ℕ) → table_of ids card head rest ≡ v → Came (offered card head rest v)
  unfolding offered
  came-offered k a (Err code) e = kept (refused_number code) (not_zero code)
  came-offered k a (Ok p) e = answered p k a (passed-tells ids card head rest e)

  came_result : Came (by_result ids channels card head rest)
  unfolding by_result is_notice
  came_result =
      let fifteen : Came (keeps card 15) = kept 15 (λ e. omega arith) in
      pick (eqb head.kind 147) _ _
      (λ k. pick (is_answer head.result) _ _ (λ a. came-offered (eqb-true head.kind 147 k) a (table_of ids card head rest) refl) (λ a. fifteen))
      (λ k. pick (is_answer head.result) _ _ (λ a. fifteen)
      (λ a. pick (eqb head.kind 144 && eqb head.result 0) _ _
      (λ b. let c = both (eqb head.kind 144) (eqb head.result 0) b in notice (eqb-true head.kind 144 c.0) (eqb-true head.result 0 c.1))
      (λ b. came-requested (eqb-false head.kind 147 k) (table_of ids card head rest) refl)))

  came_head : Came (by_head ids channels card m (head_in m))
  unfolding head_in by_head
  came_head = go (usable m)
    where
      go : (b : Bool) → Came (by_head ids channels card m (cond b (Some (header_in m)) None))
      go true = came_result
      go false = kept 15 (λ e. omega arith)

  pub came : (space : ℕ) → Came (received_of ids channels card m space)
  unfolding received_of
  came space =
      pick (ltb space 4608) _ _ (λ a. kept 13 (λ e. omega arith))
      (λ a. pick (size_ok m) _ _ (λ b. came_head) (λ b. kept 15 (λ e. omega arith)))
