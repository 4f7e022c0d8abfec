-- A 146 and a 147 past the table keep agreement: the delegation that they leave is what the ledger reads, and not under what is
-- committed. Assumes nothing.
use Rattle.std.specs.Prelude.{Option, Some}
use Prim.Native.Nat.{ℕ, ◌≤◌, ◌<◌}
use mathlib.Core.Path.{◌≡◌, refl, sym, ap, subst, ◌∙◌}
use mathlib.Core.Bool.{Bool, true, false, cond, ◌||◌, false≢true}
use mathlib.Core.List.{List, [], ◌∷◌}
use native.Mathlib.Omega.{arith}
use lib.Dec.{eqb, leb, ltb}
use borrow.Author.Tests.{eqb-true, eqb-false, leb-true}
use Rattle.octets.proofs.Tests.{each}
use Rattle.header.specs.declared.Header.{Header}
use Rattle.header.specs.Header.{header_in}
use Rattle.fields.specs.declared.Request.{Request}
use Rattle.replies.specs.Replies.{amount_reply}
use Rattle.circuits.specs.Circuits.{id_at}
use Rattle.ports.specs.Ports.{closed, delegated, answers, within}
use Rattle.pool.specs.Pool.{committed_of}
use Rattle.card.specs.Cards.{Card, port_at, with_port}
use Rattle.card.specs.Outcome.{Outcome, keeps, becomes, writes}
use Rattle.transfers.specs.Transfers.{reduced_to, transfer_fails, transfer_gives, reallocated, transferred}
use Rattle.messages.specs.Messages.{is_answer}
use Rattle.demand3.specs.Calls.{Tables}
use Rattle.demand3.specs.Reads.{kind_in, result_in, port_in, amount_in}
use Rattle.demand3.specs.Ledger.{Ledger, write, with_delegation, write_at, message_entry}
use Rattle.demand3.specs.Claim.{charges}
use Rattle.demand3.proofs.Agree.{Agree, TablesTaken, agree_as, write-back}
use Rattle.demand3.proofs.Steps.{port_step}
use Rattle.demand3.proofs.Figures.{committed_is}
use Rattle.demand3.proofs.Replies.{kind-none, kind-amount, amount-back, port_back}
use Rattle.demand3.proofs.Entries.{entry-given, entry-taken, entry_kept}

-- the ledger after an answer to m
unfoldable pub ledger_after_answer : Tables → Ledger → List ℕ → Outcome → Ledger
ledger_after_answer t l m o = cond (eqb o.number 0) (message_entry t l m o.reply) l

-- an answer to m whose card agrees with it
abbrev pub Agreed : Tables → Ledger → List ℕ → Outcome → Type 0
Agreed t l m o = Agree t o.card (ledger_after_answer t l m o)

agreed_by : (t : Tables) (l : Ledger) (m : List ℕ) (b : Bool) (x y : Outcome) → (b ≡ true → Agreed t l m x) → (b ≡ false → Agreed t l m y) → Agreed t l m (cond b x y)
agreed_by t l m true x y f g = f refl
agreed_by t l m false x y f g = g refl

module _ (t : Tables) (card : Card) (l : Ledger) (a : Agree t card l) (p : ℕ) (below : p < 64) where
  -- ---- the record of port p with another delegation, or with its request closed
  delegated-agrees : (amount : ℕ) → charges t (l p) ≤ amount → Agree t (with_port card p (delegated (port_at card p) amount)) (write l p (with_delegation (l p) amount))
  delegated-agrees amount c =
      let b = a.at p below in
      port_step t card l a p below (delegated (port_at card p) amount) (l p).is_up amount
      (record { is_up = b.is_up; delegation = refl; bounded = c; idle = b.idle; asks-more = λ e. absurd (false≢true e) })

  closed_agrees : Agree t (with_port card p (closed (port_at card p))) l
  closed_agrees =
      let b = a.at p below in
      agree_as t (write-back l p)
      (port_step t card l a p below (closed (port_at card p)) (l p).is_up (l p).delegation
      (record { is_up = b.is_up; delegation = b.delegation; bounded = b.bounded; idle = b.idle; asks-more = λ e. absurd (false≢true e) }))

  -- ---- 146
  module _ (taken : TablesTaken t) (port : p < t.ports) (h : Header) (m : List ℕ) where
    -- a Bandwidth Transfer that carries the delegation of a card
    carries : (result code amount : ℕ) (next : Card) → Agree t next (write l p (with_delegation (l p) amount))
        → Agreed t l m (writes next (amount_reply h 147 result code (id_at t.ids p) amount))
    unfolding ledger_after_answer write_at
    carries result code amount next b =
        let reply : List ℕ = amount_reply h 147 result code (id_at t.ids p) amount in
        subst (Agree t next)
        (sym (entry-given t l m reply (kind-amount h 147 result code (id_at t.ids p) amount)
        ∙ ap (λ (r : Option ℕ). write_at l r (λ x. with_delegation x (amount_in reply))) (port_back t h 147 result code p amount taken port)
        ∙ ap (λ (n : ℕ). write l p (with_delegation (l p) n)) (amount-back t h 147 result code p amount)))
        b

    fails : (code : ℕ) → Agreed t l m (transfer_fails t.ids card h p code)
    unfolding transfer_fails
    fails code =
        carries 4 code (port_at card p).delegation card
        (subst (λ (n : ℕ). Agree t card (write l p (with_delegation (l p) n))) (sym (a.at p below).delegation) (agree_as t (λ q. sym (write-back l p q)) a))

    gives : (preferred : ℕ) → Agreed t l m (transfer_gives t.ids card h p (reduced_to t.channels card p preferred))
    unfolding transfer_gives reduced_to
    gives preferred =
        let amount : ℕ = reduced_to t.channels card p preferred in
        carries 3 0 amount (with_port card p (delegated (port_at card p) amount))
        (delegated-agrees amount (omega (arith, committed_is t card l a p below)))

    pub reallocated_agreed : (r : Request) → Agreed t l m (reallocated t.ids t.channels card h p r)
    unfolding reallocated
    reallocated_agreed r =
        agreed_by t l m (ltb r.required r.preferred) _ _ (λ e. fails 0x67)
        (λ e. agreed_by t l m (ltb r.required (committed_of t.channels card.pool p)) _ _ (λ f. fails 0) (λ f. gives r.preferred))

  -- ---- 147, which is read off m
  module _ (m : List ℕ) (kind : kind_in m ≡ 147) (answer : is_answer (result_in m) ≡ true) (port : port_in t m ≡ Some p) where
    silent : kind_in [] ≡ 147 → ⊥
    silent e = omega (arith, kind-none)

    success : (result_in m ≡ 4 → ⊥) → result_in m ≡ 3
    unfolding is_answer
    success n = go (eqb (result_in m) 3) refl answer
      where
        go : (b : Bool) → eqb (result_in m) 3 ≡ b → (b || eqb (result_in m) 4) ≡ true → result_in m ≡ 3
        go true e h = eqb-true (result_in m) 3 e
        go false e h = absurd (n (eqb-true (result_in m) 4 h))

    refuses : Agreed t l m (keeps card 16)
    unfolding ledger_after_answer
    refuses = a

    closes : result_in m ≡ 4 → Agreed t l m (becomes (with_port card p (closed (port_at card p))))
    unfolding ledger_after_answer
    closes r =
        subst (Agree t (with_port card p (closed (port_at card p)))) (sym (entry_kept t l m [] silent (rw (kind, r)) (rw kind))) closed_agrees

    sets : (result_in m ≡ 4 → ⊥) → answers (port_at card p) (header_in m).transaction ≡ true → within (port_at card p) (amount_in m) ≡ true
        → Agreed t l m (becomes (with_port card p (delegated (port_at card p) (amount_in m))))
    unfolding ledger_after_answer write_at answers within
    sets n s w =
        let asking = (each ((port_at card p).asking ∷ eqb (port_at card p).transaction (header_in m).transaction ∷ []) s).0 in
        let least = leb-true (port_at card p).required (amount_in m) (each (leb (port_at card p).required (amount_in m) ∷ leb (amount_in m) (port_at card p).preferred ∷ []) w).0 in
        let more = (a.at p below).asks-more asking in
        subst (Agree t (with_port card p (delegated (port_at card p) (amount_in m))))
        (sym (entry-taken t l m [] silent kind (success n) ∙ ap (λ (r : Option ℕ). write_at l r (λ x. with_delegation x (amount_in m))) port))
        (delegated-agrees (amount_in m) (omega (arith, (a.at p below).bounded, (a.at p below).delegation)))

    pub transferred_agreed : Agreed t l m (transferred card (header_in m) p (amount_in m))
    unfolding transferred result_in
    transferred_agreed =
        agreed_by t l m (answers (port_at card p) (header_in m).transaction) _ _
        (λ s. agreed_by t l m (eqb (header_in m).result 4) _ _ (λ e. closes (eqb-true (header_in m).result 4 e))
        (λ e. agreed_by t l m (within (port_at card p) (amount_in m)) _ _ (λ w. sets (eqb-false (header_in m).result 4 e) s w) (λ w. refuses)))
        (λ s. refuses)
