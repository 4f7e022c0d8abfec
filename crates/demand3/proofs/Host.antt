-- A host's call on a card that agrees with a ledger leaves both in agreement: up, down, set delegation, leave, ask (join: Join.antt).
--     Goes, goes_by      what an outcome leaves agrees with the ledger, changed where its number is 0; by cases
--     on_port            a port of the card is one of 64
--     up_step, down_step, delegation_step, leave_step, ask_step
-- Assumes nothing.
use Rattle.std.specs.Prelude.{Option, Some, None}
use Prim.Native.Nat.{ℕ, ◌≤◌, ◌<◌}
use mathlib.Core.Path.{◌≡◌, refl, sym, ap, ap₂, subst, ◌∙◌}
use mathlib.Core.Bool.{Bool, true, false, cond, not, false≢true}
use mathlib.Core.List.{List, [], ◌∷◌}
use lib.Dec.{eqb, ltb, leb}
use borrow.Author.Tests.{ltb-true, leb-true}
use Rattle.octets.proofs.Tests.{each}
use Rattle.flows.specs.declared.Flow.{Flow}
use Rattle.flows.specs.Flows.{good_flow}
use Rattle.channels.specs.Channels.{channel_of}
use Rattle.ports.specs.declared.Port.{Port}
use Rattle.ports.specs.Ports.{brought_up, taken_down, delegated, asked, may_ask}
use Rattle.ports.specs.Transactions.{taken_from}
use Rattle.pool.specs.Pool.{has_flow, committed_of, ended_flow, ended_all}
use Rattle.card.specs.Cards.{Card, is_port, has_port, port_at, with_port, with_pool}
use Rattle.card.specs.Outcome.{Outcome, keeps, becomes}
use Rattle.card.specs.Calls.{port_up_of, port_down_of, set_delegation_of, leave_flow, leave_of}
use Rattle.joins.specs.Asks.{asked_of, ask_of}
use Rattle.demand3.specs.Calls.{Tables, ours, outcome_of, seen}
use Rattle.demand3.specs.Calls.Call.{port_up, port_down, set_delegation, leave, ask}
use Rattle.demand3.specs.Ledger.{Held, Line, Ledger, write, without, with_flows, entry, entered}
use Rattle.demand3.proofs.Rows.{found}
use Rattle.demand3.proofs.Agree.{Agree, agree_as, again, write_same, write-back}
use Rattle.demand3.proofs.Figures.{committed_is}
use Rattle.demand3.proofs.Steps.{line_of, counter_step, port_step}
use Rattle.demand3.proofs.Admit.{flow_ends, all_end}

-- what an outcome leaves agrees with the ledger m where its number is 0, and else with l
abbrev pub Goes : Tables → Ledger → Ledger → Outcome → Type 0
Goes t l m o = Agree t o.card (cond (eqb o.number 0) m l)

module _ (t : Tables) (l m : Ledger) where
  pub goes_by : (b : Bool) (x y : Outcome) → (b ≡ true → Goes t l m x) → (b ≡ false → Goes t l m y) → Goes t l m (cond b x y)
  goes_by true x y f g = f refl
  goes_by false x y f g = g refl

pub on_port : (card : Card) (p : ℕ) → has_port card p ≡ true → p < 64
unfolding is_port
on_port card p h = ltb-true p 64 (each (ltb p 64 ∷ ltb p card.head.port_count ∷ []) h).0

-- a port that was up is down, and its request closed
abbrev down : Port → Port
down x = record { up = false; asking = false; delegation = x.delegation; required = 0; preferred = 0; transaction = 0 }

down_is : (x : Port) → x.up ≡ true → down x ≡ taken_down x
unfolding taken_down
down_is x e = ap (λ (b : Bool). cond b (down x) x) (sym e)

module _ (t : Tables) (card : Card) (l : Ledger) (a : Agree t card l) (p : ℕ) where
  -- ---- up
  pub up_step : Agree t (outcome_of t card (port_up p)).card (entered t l (seen ours t card (port_up p)))
  unfolding outcome_of entered entry port_up_of
  up_step =
      goes_by t l (write l p (line_of true (l p).delegation (l p).flows)) (has_port card p) (becomes (with_port card p (brought_up (port_at card p)))) (keeps card 7)
      (λ h. let b = a.at p (on_port card p h) in
      port_step t card l a p (on_port card p h) (brought_up (port_at card p)) true (l p).delegation
      (record { is_up = refl; delegation = b.delegation; bounded = b.bounded; idle = λ e. absurd (false≢true (sym e)); asks-more = b.asks-more }))
      (λ h. a)

  -- ---- down
  module _ (port : p < 64) where
    was-down : (port_at card p).up ≡ false → Agree t card (write l p (line_of false (l p).delegation []))
    was-down e =
        let s : (l p).is_up ≡ false = sym (a.at p port).is_up ∙ e in
        subst (λ (x : Line). Agree t card (write l p x)) (ap₂ (λ (u : Bool) (hs : List Held). line_of u (l p).delegation hs) s ((a.at p port).idle s))
        (agree_as t (λ q. sym (write-back l p q)) a)

    goes_down : (port_at card p).up ≡ true
        → Agree t (with_pool (with_port card p (taken_down (port_at card p))) (ended_all card.pool p)) (write l p (line_of false (l p).delegation []))
    goes_down e =
        let none = with_flows (l p) [] in
        let b = all_end t card l a p port in
        let s = b.at p port in
        subst (λ (y : Port). Agree t (with_pool (with_port card p y) (ended_all card.pool p)) (write l p (line_of false (l p).delegation []))) (down_is (port_at card p) e)
        (again t (with_pool (with_port card p (down (port_at card p))) (ended_all card.pool p)) l p none (λ x. line_of false x.delegation x.flows)
        (port_step t (with_pool card (ended_all card.pool p)) (write l p none) b p port (down (port_at card p)) false (write l p none p).delegation
        (record { is_up = refl; delegation = s.delegation; bounded = s.bounded; idle = λ z. ap (λ (x : Line). x.flows) (write_same l p none); asks-more = λ z. absurd (false≢true z) })))

  pub down_step : Agree t (outcome_of t card (port_down p)).card (entered t l (seen ours t card (port_down p)))
  unfolding outcome_of entered entry port_down_of
  down_step =
      let m = write l p (line_of false (l p).delegation []) in
      let gone = becomes (with_pool (with_port card p (taken_down (port_at card p))) (ended_all card.pool p)) in
      goes_by t l m (has_port card p) (cond (port_at card p).up gone (keeps card 0)) (keeps card 7)
      (λ h. goes_by t l m (port_at card p).up gone (keeps card 0) (goes_down (on_port card p h)) (was-down (on_port card p h)))
      (λ h. a)

  -- ---- set delegation
  pub delegation_step : (amount : ℕ) → Agree t (outcome_of t card (set_delegation p amount)).card (entered t l (seen ours t card (set_delegation p amount)))
  unfolding outcome_of entered entry set_delegation_of
  delegation_step amount =
      let m = write l p (line_of (l p).is_up amount (l p).flows) in
      let set = becomes (with_port card p (delegated (port_at card p) amount)) in
      let fits = leb (committed_of t.channels card.pool p) amount in
      goes_by t l m (has_port card p) (cond fits set (keeps card 11)) (keeps card 7)
      (λ h. let port = on_port card p h in let b = a.at p port in
      goes_by t l m fits set (keeps card 11)
      (λ s. port_step t card l a p port (delegated (port_at card p) amount) (l p).is_up amount
      (record {
        is_up = b.is_up;
        delegation = refl;
        bounded = subst (λ (n : ℕ). n ≤ amount) (committed_is t card l a p port) (leb-true (committed_of t.channels card.pool p) amount s);
        idle = b.idle;
        asks-more = λ z. absurd (false≢true z);
      }))
      (λ s. a))
      (λ h. a)

  -- ---- leave
  leave-flow : (port : p < 64) (f : Flow) → Goes t l (write l p (with_flows (l p) (without f (l p).flows))) (leave_flow t.channels card p f)
  unfolding leave_flow
  leave-flow port f =
      goes_by t l (write l p (with_flows (l p) (without f (l p).flows))) (has_flow t.channels card.pool p f) (becomes (with_pool card (ended_flow t.channels card.pool p f))) (keeps card 10)
      (λ h. flow_ends t card l a p port f)
      (λ h. a)

  pub leave_step : (f : Flow) → Agree t (outcome_of t card (leave p f)).card (entered t l (seen ours t card (leave p f)))
  unfolding outcome_of entered entry leave_of
  leave_step f =
      let m = write l p (with_flows (l p) (without f (l p).flows)) in
      let good = cond (good_flow f) (leave_flow t.channels card p f) (keeps card 8) in
      let up = cond (port_at card p).up good (keeps card 6) in
      goes_by t l m (has_port card p) up (keeps card 7)
      (λ h. goes_by t l m (port_at card p).up good (keeps card 6)
      (λ u. goes_by t l m (good_flow f) (leave_flow t.channels card p f) (keeps card 8)
      (λ g. leave-flow (on_port card p h) f)
      (λ g. a)) (λ u. a)) (λ h. a)

  -- ---- ask
  module _ (required preferred : ℕ) where
    asked-step : p < 64 → may_ask (port_at card p) required preferred ≡ true → Agree t (asked_of t.ids card p required preferred).card l
    unfolding asked_of may_ask
    asked-step port may =
        let b = a.at p port in
        let y = asked (port_at card p) required preferred (taken_from card.head.counter).number in
        let more = ltb-true (port_at card p).delegation required (each (ltb (port_at card p).delegation required ∷ leb required preferred ∷ not (port_at card p).asking ∷ []) may).0 in
        counter_step t (with_port card p y) l
        (agree_as t (write-back l p)
        (port_step t card l a p port y (l p).is_up (l p).delegation
        (record { is_up = b.is_up; delegation = b.delegation; bounded = b.bounded; idle = b.idle; asks-more = λ z. more })))
        (taken_from card.head.counter).next

    pub ask_step : (space : ℕ) → Agree t (outcome_of t card (ask p required preferred space)).card (entered t l (seen ours t card (ask p required preferred space)))
    unfolding outcome_of entered entry ask_of asked_of
    ask_step space =
        let may = cond (may_ask (port_at card p) required preferred) (asked_of t.ids card p required preferred) (keeps card 12) in
        let up = cond (port_at card p).up may (keeps card 6) in
        goes_by t l l (ltb space 4608) (keeps card 13) (cond (has_port card p) up (keeps card 7)) (λ r. a)
        (λ r. goes_by t l l (has_port card p) up (keeps card 7)
        (λ h. goes_by t l l (port_at card p).up may (keeps card 6)
        (λ u. goes_by t l l (may_ask (port_at card p) required preferred) (asked_of t.ids card p required preferred) (keeps card 12)
        (asked-step (on_port card p h))
        (λ n. a)) (λ u. a)) (λ h. a))
