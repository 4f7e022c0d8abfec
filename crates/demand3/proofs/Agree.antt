-- The invariant of any list of calls: a card agrees with a ledger. Every figure of a port is one sum over its records (`pool_sum`), and the
-- whole link is that this sum is the same over the line's flows, for every weight.
--     write_same, write_other, write-back, write-write      one line written
--     written                                               a fact of every port, of a ledger with one line written
--     agree_as, starts_as, succeeds_as                      ledgers with the same lines
--     again                                                 one line written twice
-- Assumes nothing.
use Prim.Native.Nat.{ℕ, ◌≤◌, ◌<◌}
use mathlib.Core.Path.{◌≡◌, refl, sym, ap, subst, fun_ext, ◌∙◌}
use mathlib.Core.Bool.{Bool, true, false, cond}
use mathlib.Core.List.{[]}
use lib.ListN.{length}
use lib.Dec.{eqb}
use borrow.Author.Tests.{eqb-true, eqb-false, eq-eqb, ne_eqb}
use Rattle.flows.specs.declared.Flow.{Flow}
use Rattle.commands.specs.Directives.{Directive}
use Rattle.pool.specs.Pool.{pool_sum, extras_of}
use Rattle.pool.proofs.Whole.{Whole}
use Rattle.pool.proofs.Law.{Owned}
use Rattle.tables.proofs.Tables.{Taken}
use Rattle.card.specs.Cards.{Card, port_at}
use Rattle.demand3.specs.Calls.{Tables}
use Rattle.demand3.specs.Ledger.{Line, Ledger, write}
use Rattle.demand3.specs.Claim.{charges, Once, Starts, Succeeds}
use Rattle.demand3.proofs.Rows.{flow_sum, AllListed}

-- port p of the card agrees with a line
pub record PortAgrees (t : Tables) (card : Card) (x : Line) (p : ℕ) : Type 0 where
  pub is_up : (port_at card p).up ≡ x.is_up
  pub delegation : (port_at card p).delegation ≡ x.delegation
  pub flows : (w : ℕ → Bool → ℕ) → pool_sum card.pool p w ≡ flow_sum t w x.flows
  pub rows : AllListed t x.flows
  pub once : Once x.flows
  pub few : length x.flows ≤ 16
  pub bounded : charges t x ≤ x.delegation
  -- a port that is down has no flows
  pub idle : x.is_up ≡ false → x.flows ≡ []
  -- an open request asks for more than there is, so that its answer cannot lower the delegation
  pub asks-more : (port_at card p).asking ≡ true → (port_at card p).delegation < (port_at card p).required

pub record Agree (t : Tables) (card : Card) (l : Ledger) : Type 0 where
  pub ports : card.head.port_count ≡ t.ports
  pub channels : card.head.channel_count ≡ t.channel_count
  pub entries : card.head.entry_count ≡ t.entry_count
  pub white : card.head.white_cac ≡ t.white_cac
  pub add : card.head.add_cac ≡ t.add_cac
  pub records : length card.ports ≡ 64
  pub whole : Whole card.pool
  pub owned : Owned card.pool.owner
  pub extras : extras_of card.pool ≤ 256
  pub at : (p : ℕ) → p < 64 → PortAgrees t card (l p) p

-- what start takes of its tables
abbrev pub TablesTaken : Tables → Type 0
TablesTaken t = Taken t.ids t.ports t.channels t.channel_count t.entries t.entry_count

-- ---- one line written

-- the test q = p, decided, with what follows in each case
pub same_or_not : (q p : ℕ) {A : Type 0} → (q ≡ p → A) → ((q ≡ p → ⊥) → A) → A
same_or_not q p {A} f g = go (eqb q p) refl
  where
    go : (b : Bool) → eqb q p ≡ b → A
    go true e = f (eqb-true q p e)
    go false e = g (eqb-false q p e)

module _ (l : Ledger) (p : ℕ) where
  module _ (x : Line) where
    pub write_same : write l p x p ≡ x
    unfolding write
    write_same = ap (λ (b : Bool). cond b x (l p)) (eq-eqb p p refl)

    pub write_other : (q : ℕ) → (q ≡ p → ⊥) → write l p x q ≡ l q
    unfolding write
    write_other q n = ap (λ (b : Bool). cond b x (l q)) (ne_eqb q p n)

    -- a fact of every port holds of the written ledger where it holds of the new line at p, and of the others
    pub written : (R : ℕ → Line → Type 0) → R p x → ((q : ℕ) → q < 64 → (q ≡ p → ⊥) → R q (l q)) → (q : ℕ) → q < 64 → R q (write l p x q)
    written R a b q h =
        same_or_not q p
        (λ e. subst (λ (z : ℕ). R z (write l p x z)) (sym e) (subst (R p) (sym write_same) a))
        (λ n. subst (R q) (sym (write_other q n)) (b q h n))

  pub write-back : (q : ℕ) → write l p (l p) q ≡ l q
  write-back q = same_or_not q p (λ e. ap (write l p (l p)) e ∙ write_same (l p) ∙ ap l (sym e)) (write_other (l p) q)

pub write-write : (l : Ledger) (p : ℕ) (x y : Line) (q : ℕ) → write (write l p x) p y q ≡ write l p y q
write-write l p x y q =
    same_or_not q p
    (λ e. ap (write (write l p x) p y) e ∙ write_same (write l p x) p y ∙ sym (ap (write l p y) e ∙ write_same l p y))
    (λ n. write_other (write l p x) p y q n ∙ write_other l p x q n ∙ sym (write_other l p y q n))

-- ---- ledgers with the same lines
module _ (t : Tables) {l l' : Ledger} (e : (q : ℕ) → l q ≡ l' q) where
  pub agree_as : {card : Card} → Agree t card l → Agree t card l'
  agree_as {card} a = subst (Agree t card) (fun_ext e) a

  pub starts_as : (cac : Bool) (p : ℕ) (f : Flow) → Starts t cac l p f → Starts t cac l' p f
  starts_as cac p f s = subst (λ (m : Ledger). Starts t cac m p f) (fun_ext e) s

  pub succeeds_as : (p : ℕ) (o : Directive) → Succeeds t l p o → Succeeds t l' p o
  succeeds_as p o s = subst (λ (m : Ledger). Succeeds t m p o) (fun_ext e) s

-- a line written twice, the second time from what the first left there
pub again : (t : Tables) (card : Card) (l : Ledger) (p : ℕ) (x : Line) (change : Line → Line)
    → Agree t card (write (write l p x) p (change (write l p x p))) → Agree t card (write l p (change x))
again t card l p x change a =
    agree_as t (write-write l p x (change x)) (subst (λ (y : Line). Agree t card (write (write l p x) p (change y))) (write_same l p x) a)
