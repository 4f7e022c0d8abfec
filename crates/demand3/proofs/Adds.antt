-- An Add that is reached acts exactly where the rule says that it starts, and as the last command leaves its flow active.
-- Assumes nothing.
use Prim.Native.Nat.{ℕ, suc, ◌+◌, ◌≤◌, ◌<◌}
use mathlib.Core.Path.{◌≡◌, refl, sym, ap, subst, ◌∙◌}
use mathlib.Core.Logic.{◌↔◌}
use mathlib.Core.Bool.{Bool, true, false, cond, ◌||◌, false≢true}
use mathlib.Core.List.{List, [], ◌∷◌, ◌++◌}
use native.Mathlib.Omega.{arith}
use lib.ListN.{length, take, drop, length-append}
use lib.Seq.{length-take-le, take_all, take_at}
use lib.Dec.{leb}
use borrow.Author.Tests.{leb-true, leb-false}
use Rattle.header.specs.Header.{header_in}
use Rattle.flows.specs.declared.Flow.{Flow}
use Rattle.flows.proofs.Same.{same-flow_refl}
use Rattle.card.specs.Cards.{Card}
use Rattle.card.specs.Outcome.{Outcome}
use Rattle.listing.specs.Listing.{active_at}
use Rattle.commands.specs.Directives.{Directive, directive_of}
use Rattle.commands.specs.Directives.Directive.{add}
use Rattle.control.specs.Control.{commands_in, controlled}
use Rattle.demand3.specs.Calls.{Tables, outcome_of}
use Rattle.demand3.specs.Calls.Call.{message}
use Rattle.demand3.specs.Ledger.{Line, Ledger, write, holds, begins, acts, acts_all, acted_in}
use Rattle.demand3.specs.Claim.{Starts, ledger_after, Reaches, Acted}
use Rattle.demand3.proofs.Agree.{Agree, TablesTaken, agree_as, write_same, write-back}
use Rattle.demand3.proofs.Figures.{reads-active}
use Rattle.demand3.proofs.Commands.{ran, told_size}
use Rattle.demand3.proofs.Acts.{before_act, add-acts}
use Rattle.demand3.proofs.Messages.{controlled_tells, controlled-acts, controlled_agrees}
use Rattle.demand3.proofs.Reached.{reached_below, reached_up, reached}

-- ---- the line after a last Add
acts-last : (t : Tables) (x : Line) (before : List (List ℕ)) (c : List ℕ) → acts_all t x (before ++ (c ∷ [])) ≡ acts t (acts_all t x before) (directive_of c)
unfolding acts_all
acts-last t x [] c = refl
acts-last t x (b ∷ before) c = acts-last t (acts t x (directive_of b)) before c

add_holds : (t : Tables) (x : Line) (f : Flow) (accounting : ℕ) → holds f (acts t x (add f accounting)).flows ≡ true
unfolding acts holds
add_holds t x f accounting = go (holds f x.flows) refl
  where
    go : (b : Bool) → holds f x.flows ≡ b → holds f (cond b x (begins x f t.add_cac)).flows ≡ true
    go true e = e
    go false e = ap (λ (s : Bool). s || holds f x.flows) (same-flow_refl f)

module _ (t : Tables) (card : Card) (l : Ledger) (a : Agree t card l) (m : List ℕ) (space p : ℕ) (f : Flow) (before after : List (List ℕ))
    (r : Reaches t l m p f before after) (enough : 4608 ≤ space) where
  abbrev commands : List (List ℕ)
  commands = commands_in (drop 16 m)

  -- how many of them act
  abbrev many : ℕ
  many = ran t.channels p card commands

  below : p < 64
  below = (reached_below t card l a m p f before after r).1

  up : (l p).is_up ≡ true
  up = reached_up t card l a m p f before after r

  answer : outcome_of t card (message m space) ≡ controlled t.ids t.channels card (header_in m) p (drop 16 m)
  unfolding outcome_of
  answer = reached t card l a m p f before after r space enough

  here_agrees : Agree t card (write l p (l p))
  here_agrees = agree_as t (λ q. sym (write-back l p q)) a

  size : length commands ≡ length before + suc (length after)
  size = ap length r.commands ∙ length-append before (r.here ∷ after)

  most : many ≤ length commands
  most = told_size (controlled_tells t card l a m p below up).told

  least : length before ≤ many
  least =
      subst (λ (cs : List (List ℕ)). length before ≤ ran t.channels p card cs) (sym r.commands)
      (before_act t p below l card (l p) before here_agrees up r.succeed (r.here ∷ after))

  acts_exactly : (suc (length before) ≤ many) ↔ Starts t t.add_cac (ledger_after t l p before) p f
  acts_exactly =
      subst (λ (cs : List (List ℕ)). (suc (length before) ≤ ran t.channels p card cs) ↔ Starts t t.add_cac (ledger_after t l p before) p f) (sym r.commands)
      (add-acts t p below l card (l p) before here_agrees up r.succeed r.here after f r.accounting r.is_add r.wanted)

  adds_exactly : Acted (outcome_of t card (message m space)) m (suc (length before)) ↔ Starts t t.add_cac (ledger_after t l p before) p f
  adds_exactly =
      let acted : length (acted_in (controlled t.ids t.channels card (header_in m) p (drop 16 m)).reply commands) ≡ many =
      ap length (controlled-acts t card l a m p below up) ∙ length-take-le many commands most in
      subst (λ (o : Outcome). Acted o m (suc (length before)) ↔ Starts t t.add_cac (ledger_after t l p before) p f) (sym answer)
      (λ h. acts_exactly.0 (omega (arith, h.1, acted)), λ s. ((controlled_tells t card l a m p below up).number, omega (arith, acted, acts_exactly.1 s)))

  -- the flow is active after them exactly if the ledger holds it
  active-after : TablesTaken t → active_at t.channels (outcome_of t card (message m space)).card p f ≡ holds f (acts_all t (l p) (take many commands)).flows
  active-after taken =
      ap (λ (o : Outcome). active_at t.channels o.card p f) answer
      ∙ reads-active t (controlled t.ids t.channels card (header_in m) p (drop 16 m)).card (write l p (acts_all t (l p) (take many commands)))
      (controlled_agrees t card l a m p below up) taken p (reached_below t card l a m p f before after r).0 f
      ∙ ap (λ (x : Line). holds f x.flows) (write_same l p (acts_all t (l p) (take many commands)))

  -- not where it fails
  fails_idle : many ≤ length before → holds f (acts_all t (l p) (take many commands)).flows ≡ false
  fails_idle k =
      ap (λ (cs : List (List ℕ)). holds f (acts_all t (l p) cs).flows)
      (ap (take many) r.commands ∙ take_at before (r.here ∷ after) many (omega (arith, least)))
      ∙ ap (λ (x : Line). holds f x.flows) (sym (write_same l p (acts_all t (l p) before)))
      ∙ r.wanted.idle

  -- and where it acts, and is the last
  acts-held : after ≡ [] → suc (length before) ≤ many → holds f (acts_all t (l p) (take many commands)).flows ≡ true
  acts-held e k =
      let n : length after ≡ 0 = ap length e in
      ap (λ (cs : List (List ℕ)). holds f (acts_all t (l p) cs).flows)
      (take_all many commands (omega (arith, size)) ∙ r.commands ∙ ap (λ (cs : List (List ℕ)). before ++ (r.here ∷ cs)) e)
      ∙ ap (λ (x : Line). holds f x.flows) (acts-last t (l p) before r.here)
      ∙ ap (λ (o : Directive). holds f (acts t (acts_all t (l p) before) o).flows) r.is_add
      ∙ add_holds t (acts_all t (l p) before) f r.accounting

  last_exactly : TablesTaken t → after ≡ []
      → (active_at t.channels (outcome_of t card (message m space)).card p f ≡ true) ↔ Starts t t.add_cac (ledger_after t l p before) p f
  last_exactly taken e = (there (leb (suc (length before)) many) refl, λ s. active-after taken ∙ acts-held e (acts_exactly.1 s))
    where
      there : (b : Bool) → leb (suc (length before)) many ≡ b → active_at t.channels (outcome_of t card (message m space)).card p f ≡ true
          → Starts t t.add_cac (ledger_after t l p before) p f
      there true k h = acts_exactly.0 (leb-true (suc (length before)) many k)
      there false k h =
          absurd (false≢true (sym (active-after taken ∙ fails_idle (omega (arith, leb-false (suc (length before)) many k))) ∙ h))

-- ---- the two clauses of demand 3
module _ (t : Tables) (taken : TablesTaken t) (card : Card) (l : Ledger) (a : Agree t card l) where
  pub adds : (m : List ℕ) (space p : ℕ) (f : Flow) (before after : List (List ℕ)) → Reaches t l m p f before after → 4608 ≤ space
      → Acted (outcome_of t card (message m space)) m (suc (length before)) ↔ Starts t t.add_cac (ledger_after t l p before) p f
  adds m space p f before after r k = adds_exactly t card l a m space p f before after r k

  pub last-add : (m : List ℕ) (space p : ℕ) (f : Flow) (before : List (List ℕ)) → Reaches t l m p f before [] → 4608 ≤ space
      → (active_at t.channels (outcome_of t card (message m space)).card p f ≡ true) ↔ Starts t t.add_cac (ledger_after t l p before) p f
  last-add m space p f before r k = last_exactly t card l a m space p f before [] r k taken refl
