-- What the entry of a call leaves as it is of port p's line (`Frame`).
--     kept_frame, line_frame, set-frame      where it is the ledger itself, a line written, a delegation set
--     message_frame                          of a message
-- Assumes nothing.
use Rattle.std.specs.Prelude.{Option, Some, None}
use Prim.Native.Nat.{ℕ}
use mathlib.Core.Path.{◌≡◌, refl, sym, ap, subst, ◌∙◌}
use mathlib.Core.Bool.{Bool, true, false, cond, ◌&&◌, ◌||◌}
use mathlib.Core.List.{List}
use mathlib.Core.Logic.{inl, inr}
use lib.ListN.{drop}
use lib.Dec.{eqb}
use borrow.Author.Tests.{eqb-true}
use Rattle.octets.proofs.Tests.{both}
use Rattle.control.specs.Control.{commands_in}
use Rattle.card.specs.Cards.{Card}
use Rattle.demand3.specs.Calls.{Tables, Call, outcome_of, by_call}
use Rattle.demand3.specs.Calls.Call.{set_delegation, message}
use Rattle.demand3.specs.Reads.{kind_in, result_in, port_in, amount_in, IsAbout}
use Rattle.demand3.specs.Ledger.{Line, Ledger, write, with_delegation, acted_in, acts_all, write_at, message_entry, entry}
use Rattle.demand3.specs.Corollaries.{Moves}
use Rattle.demand3.proofs.Agree.{Agree, TablesTaken, same_or_not, write_same, write_other}
use Rattle.demand3.proofs.Command.{all_keep}
use Rattle.demand3.proofs.Transfers.{reply_147}

-- ---- a line written
module _ (l : Ledger) (p : ℕ) where
  -- another's line
  at_other : (r : Option ℕ) (change : Line → Line) → (r ≡ Some p → ⊥) → write_at l r change p ≡ l p
  unfolding write_at
  at_other None change n = refl
  at_other (Some q) change n = write_other l q (change (l q)) p (λ e. n (ap Some (sym e)))

  -- a line with the delegation that it had
  delegation-written : (q : ℕ) (x : Line) → x.delegation ≡ (l q).delegation → (write l q x p).delegation ≡ (l p).delegation
  delegation-written q x e =
      same_or_not p q
      (λ (s : p ≡ q). subst (λ (i : ℕ). (write l q x i).delegation ≡ (l i).delegation) (sym s) (ap (λ (y : Line). y.delegation) (write_same l q x) ∙ e))
      (λ n. ap (λ (y : Line). y.delegation) (write_other l q x p n))

  at-delegation : (r : Option ℕ) (change : Line → Line) → ((x : Line) → (change x).delegation ≡ x.delegation) → (write_at l r change p).delegation ≡ (l p).delegation
  unfolding write_at
  at-delegation None change e = refl
  at-delegation (Some q) change e = delegation-written q (change (l q)) (e (l q))

-- x is no set delegation for port p, and no message that may set a delegation
abbrev pub NotSet : Call → ℕ → Type 0
NotSet x p = (amount : ℕ) → x ≡ set_delegation p amount → ⊥

abbrev pub NotMoved : Call → Type 0
NotMoved x = (m : List ℕ) (space : ℕ) → x ≡ message m space → Moves m → ⊥

pub record Frame (t : Tables) (l : Ledger) (x : Call) (reply : List ℕ) (p : ℕ) : Type 0 where
  pub other : (IsAbout t x p → ⊥) → entry t l x reply p ≡ l p
  pub delegation : NotSet x p → NotMoved x → (entry t l x reply p).delegation ≡ (l p).delegation

module _ (t : Tables) (l : Ledger) (x : Call) (reply : List ℕ) (p : ℕ) where
  pub kept_frame : entry t l x reply ≡ l → Frame t l x reply p
  kept_frame e = record { other = λ n. ap (λ (m : Ledger). m p) e; delegation = λ s m. ap (λ (m : Ledger). (m p).delegation) e }

  -- the call is about port q
  module _ (q : ℕ) (names : q ≡ p → IsAbout t x p) (y : Line) (e : entry t l x reply ≡ write l q y) where
    another : (IsAbout t x p → ⊥) → entry t l x reply p ≡ l p
    another n = ap (λ (m : Ledger). m p) e ∙ write_other l q y p (λ s. n (names (sym s)))

    pub line_frame : y.delegation ≡ (l q).delegation → Frame t l x reply p
    line_frame d = record { other = another; delegation = λ s m. ap (λ (m : Ledger). (m p).delegation) e ∙ delegation-written l p q y d }

    pub set-frame : (amount : ℕ) → x ≡ set_delegation q amount → Frame t l x reply p
    set-frame amount is =
        record {
          other = another;
          delegation = λ s m. ap (λ (m : Ledger). (m p).delegation) e
              ∙ ap (λ (z : Line). z.delegation) (write_other l q y p (λ (k : p ≡ q). s amount (is ∙ ap (λ (i : ℕ). set_delegation i amount) (sym k))));
        }

module _ (t : Tables) (taken : TablesTaken t) (p : ℕ) where
  module _ (card : Card) (l : Ledger) (a : Agree t card l) where
    -- ---- a message: its three entries, and none
    module _ (m : List ℕ) (space : ℕ) where
      abbrev reply : List ℕ
      reply = (outcome_of t card (message m space)).reply

      abbrev given : Ledger
      given = write_at l (port_in t reply) (λ x. with_delegation x (amount_in reply))

      abbrev taken-up : Ledger
      taken-up = write_at l (port_in t m) (λ x. with_delegation x (amount_in m))

      abbrev acted : Ledger
      acted = write_at l (port_in t m) (λ x. acts_all t x (acted_in reply (commands_in (drop 16 m))))

      abbrev sets : Bool
      sets = eqb (kind_in m) 147 && eqb (result_in m) 3

      message_other : (port_in t m ≡ Some p → ⊥) → message_entry t l m reply p ≡ l p
      unfolding message_entry
      message_other n = go (eqb (kind_in reply) 147) refl sets (eqb (kind_in m) 144 && (eqb (result_in m) 1 || eqb (result_in m) 2))
        where
          go : (b : Bool) → eqb (kind_in reply) 147 ≡ b → (c d : Bool) → cond b given (cond c taken-up (cond d acted l)) p ≡ l p
          go true e c d = at_other l p (port_in t reply) _ (λ s. n (sym (reply_147 t card l a taken m space (eqb-true (kind_in reply) 147 e)).port ∙ s))
          go false e true d = at_other l p (port_in t m) _ n
          go false e false true = at_other l p (port_in t m) _ n
          go false e false false = refl

      message-delegation : (Moves m → ⊥) → (message_entry t l m reply p).delegation ≡ (l p).delegation
      unfolding message_entry
      message-delegation n = go (eqb (kind_in reply) 147) refl sets refl (eqb (kind_in m) 144 && (eqb (result_in m) 1 || eqb (result_in m) 2))
        where
          go : (b : Bool) → eqb (kind_in reply) 147 ≡ b → (c : Bool) → sets ≡ c → (d : Bool)
              → (cond b given (cond c taken-up (cond d acted l)) p).delegation ≡ (l p).delegation
          go true e c s d = absurd (n (inl (reply_147 t card l a taken m space (eqb-true (kind_in reply) 147 e)).kind))
          go false e true s d =
              let b = both (eqb (kind_in m) 147) (eqb (result_in m) 3) s in
              absurd (n (inr (eqb-true (kind_in m) 147 b.0, eqb-true (result_in m) 3 b.1)))
          go false e false s true =
              at-delegation l p (port_in t m) _ (λ x. all_keep t (λ (y : Line). y.delegation) (λ y hs. refl) x (acted_in reply (commands_in (drop 16 m))))
          go false e false s false = refl

      -- a message's
      pub message_frame : Frame t l (message m space) reply p
      unfolding entry IsAbout by_call
      message_frame = record { other = message_other; delegation = λ set moved. message-delegation (moved m space refl) }
