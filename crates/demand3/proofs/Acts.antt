-- The commands of a 144 on port p, in the ledger's terms.
--     commands_agree     the card after them agrees with the ledger after those that acted
--     After, succeeded   commands that succeed in the ledger's terms act
--     add-acts           and an Add that is wanted after them acts exactly where it starts
-- Assumes nothing.
use Prim.Native.Nat.{ℕ, suc, ◌+◌, ◌≤◌, ◌<◌}
use mathlib.Core.Path.{◌≡◌, refl, sym, ap, subst, ◌∙◌}
use mathlib.Core.Logic.{◌⊎◌, inr, ◌↔◌, ⊎_elim}
use mathlib.Core.Bool.{Bool, true, false, cond, false≢true}
use mathlib.Core.List.{List, [], ◌∷◌, ◌++◌}
use native.Mathlib.Omega.{arith}
use native.Mathlib.Nat.{zero-add}
use lib.ListN.{length, take}
use lib.Dec.{eqb}
use borrow.Author.Tests.{eqb-true, eq-eqb}
use Rattle.header.specs.declared.Header.{Header}
use Rattle.flows.specs.declared.Flow.{Flow}
use Rattle.replies.specs.Replies.{success_of}
use Rattle.card.specs.Cards.{Card}
use Rattle.card.specs.Outcome.{Outcome, becomes, writes}
use Rattle.commands.specs.Directives.{Directive, directive_of}
use Rattle.commands.specs.Directives.Directive.{add}
use Rattle.commands.specs.Commands.{carried_out, ran_of}
use Rattle.control.specs.Control.{failure_of, all_good, commands_from}
use Rattle.demand3.specs.Calls.{Tables}
use Rattle.demand3.specs.Ledger.{Line, Ledger, write, holds, acts, acts_all}
use Rattle.demand3.specs.Claim.{Starts, Succeeds, AllSucceed, Wanted}
use Rattle.demand3.proofs.Agree.{Agree, write_same, again}
use Rattle.demand3.proofs.Command.{acts-up, carried_out_agrees, carried_out_code}
use Rattle.demand3.proofs.Commands.{ran}

good-card : (h : Header) (card : Card) → (all_good h card).card ≡ card
unfolding all_good
good-card h card = go (eqb h.result 2)
  where
    go : (b : Bool) → (cond b (writes card (success_of h)) (becomes card)).card ≡ card
    go true = refl
    go false = refl

-- the first of some commands acts exactly if its code is 0
module _ (channels : List ℕ) (p : ℕ) (card : Card) (c : List ℕ) (cs : List (List ℕ)) where
  first-acts : (ran_of channels card p c).code ≡ 0 → ran channels p card (c ∷ cs) ≡ suc (ran channels p (ran_of channels card p c).card cs)
  unfolding ran
  first-acts e = rw (eq-eqb (ran_of channels card p c).code 0 e)

  acts-first : 1 ≤ ran channels p card (c ∷ cs) → (ran_of channels card p c).code ≡ 0
  unfolding ran
  acts-first l = go (eqb (ran_of channels card p c).code 0) refl l
    where
      go : (b : Bool) → eqb (ran_of channels card p c).code 0 ≡ b → 1 ≤ cond b (suc (ran channels p (ran_of channels card p c).card cs)) 0
          → (ran_of channels card p c).code ≡ 0
      go true e l = eqb-true (ran_of channels card p c).code 0 e
      go false e l = absurd (omega arith)

module _ (t : Tables) (p : ℕ) (port : p < 64) (l : Ledger) where
  -- a card that agrees where port p has line x, which is up
  record Stands (card : Card) (x : Line) : Type 0 where
    pub agrees : Agree t card (write l p x)
    pub is_up : x.is_up ≡ true

  written-up : (card : Card) (x : Line) → Stands card x → (write l p x p).is_up ≡ true
  written-up card x s = ap (λ (y : Line). y.is_up) (write_same l p x) ∙ s.is_up

  -- one command that acts
  stands-next : (card : Card) (x : Line) (o : Directive) → Stands card x → (carried_out t.channels card p o).code ≡ 0
      → Stands (carried_out t.channels card p o).card (acts t x o)
  stands-next card x o s e =
      record {
        agrees = again t (carried_out t.channels card p o).card l p x (λ y. acts t y o)
            (carried_out_agrees t card (write l p x) s.agrees p port (written-up card x s) o e);
        is_up = acts-up t x o ∙ s.is_up;
      }

  pub commands_agree : (h : Header) (id : List ℕ) (card : Card) (x : Line) (seq : ℕ) (cs : List (List ℕ)) → Agree t card (write l p x) → x.is_up ≡ true
      → Agree t (commands_from t.channels h id p card seq cs).card (write l p (acts_all t x (take (ran t.channels p card cs) cs)))
  unfolding commands_from ran acts_all
  commands_agree h id card x seq [] a u = subst (λ (d : Card). Agree t d (write l p x)) (sym (good-card h card)) a
  commands_agree h id card x seq (c ∷ cs) a u =
      go (eqb (ran_of t.channels card p c).code 0) refl
      (λ e. let s = stands-next card x (directive_of c) (record { agrees = a; is_up = u }) e in
      commands_agree h id (ran_of t.channels card p c).card (acts t x (directive_of c)) (seq + 1) cs s.agrees s.is_up)
    where
      next : Outcome
      next = commands_from t.channels h id p (ran_of t.channels card p c).card (seq + 1) cs

      many : ℕ
      many = ran t.channels p (ran_of t.channels card p c).card cs

      go : (b : Bool) → eqb (ran_of t.channels card p c).code 0 ≡ b
          → ((ran_of t.channels card p c).code ≡ 0 → Agree t next.card (write l p (acts_all t (acts t x (directive_of c)) (take many cs))))
          → Agree t (cond b next (writes card (failure_of h (ran_of t.channels card p c).code id seq c))).card
          (write l p (acts_all t x (take (cond b (suc many) 0) (c ∷ cs))))
      go true e ih = ih (eqb-true (ran_of t.channels card p c).code 0 e)
      go false e ih = a

  -- ---- commands that succeed in the ledger's terms
  -- all of `before` act, and the next is met by the card `later`
  record AfterCommands (card : Card) (x : Line) (before : List (List ℕ)) : Type 0 where
    pub later : Card
    pub stands : Stands later (acts_all t x before)
    pub many : (cs : List (List ℕ)) → ran t.channels p card (before ++ cs) ≡ length before + ran t.channels p later cs

  succeeded : (card : Card) (x : Line) (before : List (List ℕ)) → Stands card x → AllSucceed t l p x before → AfterCommands card x before
  unfolding AllSucceed acts_all
  succeeded card x [] s a = record { later = card; stands = s; many = λ cs. sym (zero-add (ran t.channels p card cs)) }
  succeeded card x (c ∷ cs) s a =
      let e = (carried_out_code t card (write l p x) s.agrees p port (written-up card x s) c).1 a.0 in
      let b = succeeded (ran_of t.channels card p c).card (acts t x (directive_of c)) cs (stands-next card x (directive_of c) s e) a.1 in
      record {
        later = b.later;
        stands = b.stands;
        many = λ ds. omega (arith, first-acts t.channels p card c (cs ++ ds) e, b.many ds);
      }

  module _ (card : Card) (x : Line) (before : List (List ℕ)) (a : Agree t card (write l p x)) (u : x.is_up ≡ true) (succeed : AllSucceed t l p x before) where
    after_card : AfterCommands card x before
    after_card = succeeded card x before (record { agrees = a; is_up = u }) succeed

    pub before_act : (cs : List (List ℕ)) → length before ≤ ran t.channels p card (before ++ cs)
    before_act cs = omega (arith, after_card.many cs)

    -- and a wanted Add after them acts exactly where it starts
    module _ (here : List ℕ) (after : List (List ℕ)) (f : Flow) (accounting : ℕ) (is_add : directive_of here ≡ add f accounting)
        (wanted : Wanted t (write l p (acts_all t x before)) p f) where
      add-code : ((ran_of t.channels after_card.later p here).code ≡ 0) ↔ Starts t t.add_cac (write l p (acts_all t x before)) p f
      unfolding Succeeds
      add-code =
          let y : Line = acts_all t x before in
          let d : Card = after_card.later in
          let o = carried_out_code t d (write l p y) after_card.stands.agrees p port (written-up d y after_card.stands) here in (
            λ e. ⊎_elim (λ (h : holds f (write l p y p).flows ≡ true). absurd (false≢true (sym wanted.idle ∙ h))) (λ s. s)
                (subst (Succeeds t (write l p y) p) is_add (o.0 e)).1,
            λ s. o.1 (subst (Succeeds t (write l p y) p) (sym is_add) (wanted.is_listed, inr s)),
          )

      pub add-acts : (suc (length before) ≤ ran t.channels p card (before ++ (here ∷ after))) ↔ Starts t t.add_cac (write l p (acts_all t x before)) p f
      add-acts = (
        λ k. add-code.0 (acts-first t.channels p after_card.later here after (omega (arith, after_card.many (here ∷ after)))),
        λ s. omega (arith, after_card.many (here ∷ after), first-acts t.channels p after_card.later here after (add-code.1 s)),
      )
