-- A 147 that is taken closes the request of its port: no other is taken until the card has written another 146 for it.
-- Assumes nothing.
use Rattle.std.specs.Prelude.{Some}
use Prim.Native.Nat.{ℕ, ◌<◌}
use mathlib.Core.Path.{◌≡◌, refl, sym, ap, subst, ◌∙◌}
use mathlib.Core.Bool.{Bool, true, false, cond, false≢true}
use mathlib.Core.List.{List, [], ◌∷◌, ◌++◌}
use native.Mathlib.Omega.{arith}
use lib.ListN.{drop}
use lib.Dec.{eqb}
use Rattle.header.specs.declared.Header.{Header}
use Rattle.header.specs.Header.{header_in}
use Rattle.items.specs.Items.{items_of, first_of}
use Rattle.fields.specs.Fields.{allocation_in}
use Rattle.circuits.specs.Circuits.{port_of}
use Rattle.ports.specs.declared.Port.{Port}
use Rattle.ports.specs.Ports.{closed, delegated, answers, within}
use Rattle.card.specs.Cards.{Card, port_at, with_port}
use Rattle.card.specs.Outcome.{Outcome, keeps, becomes}
use Rattle.checks.specs.Table.{id_in}
use Rattle.transfers.specs.Transfers.{transferred}
use Rattle.messages.specs.Messages.{received_of}
use Rattle.demand3.specs.Calls.{Tables, Call, ours, outcome_of, card_after, seen}
use Rattle.demand3.specs.Calls.Call.{message}
use Rattle.demand3.specs.Reads.{kind_in, port_in}
use Rattle.demand3.specs.Ledger.{Ledger, entered}
use Rattle.demand3.proofs.Agree.{Agree, TablesTaken}
use Rattle.demand3.proofs.Steps.{port_set}
use Rattle.demand3.proofs.Views.{Came, kept, notice, refused, ordered, reduced, queried, answered, came}
use Rattle.demand3.proofs.Transfers.{at_eq}
use Rattle.demand3.proofs.Each.{call_step}
use Rattle.demand3.proofs.Calls.{calls_agree}
use Rattle.demand3.proofs.Counter.{InRange, call_range}
use Rattle.grants.specs.Grants.{written_from, IsRequest, NoRequest, IsTaken, taken_by}
use Rattle.grants.proofs.Last.{Since, open_since, last_in, calls_last, taken_open}

-- ---- the request is closed
module _ (t : Tables) (card : Card) (l : Ledger) (a : Agree t card l) (p : ℕ) (below : p < 64) where
  closed_at : (y : Port) → y.asking ≡ false → (port_at (with_port card p y) p).asking ≡ false
  closed_at y e = ap (λ (z : Port). z.asking) (port_set t card l a p below y) ∙ e

  transferred-shut : (h : Header) (amount : ℕ) → (transferred card h p amount).number ≡ 0 → (port_at (transferred card h p amount).card p).asking ≡ false
  unfolding transferred
  transferred-shut h amount e = go (answers (port_at card p) h.transaction) (eqb h.result 4) (within (port_at card p) amount) e
    where
      by : Bool → Bool → Bool → Outcome
      by b c d =
          cond b (cond c (becomes (with_port card p (closed (port_at card p)))) (cond d (becomes (with_port card p (delegated (port_at card p) amount))) (keeps card 16))) (keeps card 16)

      go : (b c d : Bool) → (by b c d).number ≡ 0 → (port_at (by b c d).card p).asking ≡ false
      go true true d e = closed_at (closed (port_at card p)) refl
      go true false true e = closed_at (delegated (port_at card p) amount) refl
      go true false false e = absurd (omega arith)
      go false c d e = absurd (omega arith)

  came-shut : (m : List ℕ) → kind_in m ≡ 147 → port_in t m ≡ Some p → (o : Outcome) → Came t.ids t.channels card m o → o.number ≡ 0 → (port_at o.card p).asking ≡ false
  unfolding kind_in port_in
  came-shut m kind port o (kept n z) e = absurd (z e)
  came-shut m kind port o (notice k r) e = absurd (omega arith)
  came-shut m kind port o (refused code n) e = absurd (n kind)
  came-shut m kind port o (ordered q k s) e = absurd (omega arith)
  came-shut m kind port o (reduced q k s) e = absurd (omega arith)
  came-shut m kind port o (queried reply q k) e = absurd (omega arith)
  came-shut m kind port o (answered q k r s) e =
      let amount : ℕ = allocation_in (first_of 0x0015 (items_of (drop 16 m))) in
      let same : q ≡ p = at_eq (sym s.found ∙ ap (λ (n : ℕ). port_of t.ids n (id_in (drop 16 m))) a.ports ∙ port) in
      subst (λ (i : ℕ). (transferred card (header_in m) i amount).number ≡ 0 → (port_at (transferred card (header_in m) i amount).card p).asking ≡ false) (sym same)
      (transferred-shut (header_in m) amount) e

  taken-shut : (m : List ℕ) → port_in t m ≡ Some p → (k : IsTaken t card m) → (port_at (taken_by k) p).asking ≡ false
  unfolding outcome_of
  taken-shut m port k =
      came-shut m k.kind port (received_of t.ids t.channels card m k.space) (came t.ids t.channels card m k.space) k.done

-- ---- and stays closed until the card writes another
none_here : (t : Tables) (p : ℕ) (m : List ℕ) (before after : List (List ℕ)) → NoRequest t p (before ++ m ∷ after) → IsRequest t p m → ⊥
unfolding NoRequest
none_here t p m [] after n = n.0
none_here t p m (w ∷ before) after n = none_here t p m before after n.1

not_since : (t : Tables) (p : ℕ) (card : Card) (n : ℕ) (ws : List (List ℕ)) → (port_at card p).asking ≡ false → NoRequest t p ws → Since t p card n ws → ⊥
not_since t p card n ws shut none (open_since e k d) = false≢true (sym shut ∙ e)
not_since t p card n ws shut none (last_in k) =
    none_here t p k.request k.before k.after (subst (NoRequest t p) k.among none) k.is_request

module _ (t : Tables) (tables : TablesTaken t) (card : Card) (l : Ledger) (a : Agree t card l) (range : InRange card) (p : ℕ) (m : List ℕ) (port : port_in t m ≡ Some p) (k : IsTaken t card m) where
  pub taken-once : (more : List Call) → NoRequest t p (written_from t (taken_by k) more)
      → (n : List ℕ) → port_in t n ≡ Some p → IsTaken t (card_after ours t (taken_by k) more) n → ⊥
  taken-once more none n names j =
      let x : Call = message m k.space in
      let b : Agree t (taken_by k) (entered t l (seen ours t card x)) = call_step t tables card l a x in
      let o = taken_open t (card_after ours t (taken_by k) more) (calls_agree t tables more (taken_by k) _ b).ports n j.kind j.space j.done in
      let same : o.p ≡ p = at_eq (sym o.port ∙ names) in
      let below : p < 64 = subst (λ (i : ℕ). i < 64) same o.below in
      not_since t p (taken_by k) _ (written_from t (taken_by k) more) (taken-shut t card l a p below m port k) none
      (calls_last t tables p below more (taken_by k) _ b (call_range t card x range)
      (subst (λ (i : ℕ). (port_at (card_after ours t (taken_by k) more) i).asking ≡ true) same o.is_open))
