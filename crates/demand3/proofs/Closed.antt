-- What closes a port's request: after set delegation, port down and a successful 146 no Bandwidth Transfer for the port is taken, until
-- the host asks for it. Assumes nothing.
use Rattle.std.specs.Prelude.{Some}
use Prim.Native.Nat.{ℕ, ◌<◌}
use mathlib.Core.Path.{◌≡◌, sym, ap, subst, ◌∙◌}
use mathlib.Core.Bool.{Bool, true, false, cond}
use mathlib.Core.List.{List}
use native.Mathlib.Omega.{arith}
use lib.ListN.{drop}
use lib.Dec.{leb}
use borrow.Author.Tests.{eq-eqb}
use Rattle.header.specs.Header.{header_in}
use Rattle.items.specs.Items.{items_of, first_of}
use Rattle.fields.specs.Fields.{request_in}
use Rattle.circuits.specs.Circuits.{id_at}
use Rattle.ports.specs.declared.Port.{Port}
use Rattle.ports.specs.Ports.{delegated}
use Rattle.pool.specs.Pool.{committed_of}
use Rattle.card.specs.Cards.{Card, has_port, port_at, with_port}
use Rattle.card.specs.Outcome.{Outcome, keeps, becomes}
use Rattle.card.specs.Calls.{set_delegation_of}
use Rattle.checks.specs.Table.{enclosed_of}
use Rattle.transfers.specs.Transfers.{transfer_fails, transfer_gives}
use Rattle.messages.specs.Messages.{received_of}
use Rattle.demand3.specs.Calls.{Tables, ours, outcome_of, card_after, seen}
use Rattle.demand3.specs.Calls.Call.{port_down, set_delegation, message}
use Rattle.demand3.specs.Reads.{kind_in, result_in, port_in}
use Rattle.demand3.specs.Ledger.{Line, Ledger, entry, entered}
use Rattle.demand3.specs.Corollaries.{NoneUntilAsked}
use Rattle.demand3.proofs.Agree.{Agree, TablesTaken, write_same}
use Rattle.demand3.proofs.Steps.{port_set}
use Rattle.demand3.proofs.Replies.{kind-none, kind-refusal, result-amount}
use Rattle.demand3.proofs.Views.{Came, kept, notice, refused, ordered, reduced, queried, answered, came}
use Rattle.demand3.proofs.Messages.{names_port}
use Rattle.demand3.proofs.Transfers.{Reallocation, fails, gives, reallocation, at_eq, takes_none}
use Rattle.demand3.proofs.Requests.{Closed, DownClosed, stays_closed, down_closes}
use Rattle.demand3.proofs.Each.{call_step}
use Rattle.demand3.proofs.Calls.{calls_agree}

module _ (t : Tables) (taken : TablesTaken t) (card : Card) (l : Ledger) (a : Agree t card l) (p : ℕ) where
  -- with no open request no answer is taken, until the host asks
  pub closed_none : (p < 64 → Closed (port_at card p)) → NoneUntilAsked t card p
  closed_none c ys n =
      takes_none t (card_after ours t card ys) (calls_agree t taken ys card l a).ports p (λ h. stays_closed t taken p h ys n card l a (c h))

module _ (t : Tables) (taken : TablesTaken t) (card : Card) (l : Ledger) (a : Agree t card l) (p : ℕ) where
  -- a record with another delegation has no open request
  delegated-closed : (amount : ℕ) → p < 64 → (port_at (with_port card p (delegated (port_at card p) amount)) p).asking ≡ false
  delegated-closed amount h = ap (λ (x : Port). x.asking) (port_set t card l a p h (delegated (port_at card p) amount))

  -- ---- set delegation
  set-closes : (amount : ℕ) → (outcome_of t card (set_delegation p amount)).number ≡ 0 → p < 64 → (port_at (outcome_of t card (set_delegation p amount)).card p).asking ≡ false
  unfolding outcome_of set_delegation_of
  set-closes amount e h = go (has_port card p) (leb (committed_of t.channels card.pool p) amount) e
    where
      by : Bool → Bool → Outcome
      by b c = cond b (cond c (becomes (with_port card p (delegated (port_at card p) amount))) (keeps card 11)) (keeps card 7)

      go : (b c : Bool) → (by b c).number ≡ 0 → (port_at (by b c).card p).asking ≡ false
      go true true e = delegated-closed amount h
      go true false e = absurd (omega arith)
      go false c e = absurd (omega arith)

  pub host_none : (amount : ℕ) → (outcome_of t card (set_delegation p amount)).number ≡ 0 → NoneUntilAsked t (outcome_of t card (set_delegation p amount)).card p
  host_none amount e = closed_none t taken _ _ (call_step t taken card l a (set_delegation p amount)) p (set-closes amount e)

  -- ---- port down
  line_down : (outcome_of t card (port_down p)).number ≡ 0 → (entered t l (seen ours t card (port_down p)) p).is_up ≡ false
  unfolding entered entry
  line_down e = rw (eq-eqb (outcome_of t card (port_down p)).number 0 e) (ap (λ (x : Line). x.is_up) (write_same l p _))

  -- on a port that is down none is open, also where it was down before
  pub portdown_none : (p < 64 → DownClosed (port_at card p)) → (outcome_of t card (port_down p)).number ≡ 0 → NoneUntilAsked t (outcome_of t card (port_down p)).card p
  portdown_none d e =
      let b = call_step t taken card l a (port_down p) in
      closed_none t taken _ _ b p (λ h. down_closes t taken p h card l a (d h) (port_down p) ((b.at p h).is_up ∙ line_down e))

  -- ---- a successful 146
  module _ (m : List ℕ) (kind : kind_in m ≡ 146) (port : port_in t m ≡ Some p) where
    given-closes : (o : Outcome) → Reallocation t.ids t.channels card (header_in m) p o → result_in o.reply ≡ 3 → p < 64 → (port_at o.card p).asking ≡ false
    unfolding transfer_fails transfer_gives
    given-closes o (fails code) r h = absurd (omega (arith, result-amount (header_in m) 147 4 code (id_at t.ids p) (port_at card p).delegation (omega arith)))
    given-closes o (gives amount) r h = delegated-closed amount h

    came-closes : (o : Outcome) → Came t.ids t.channels card m o → kind_in o.reply ≡ 147 → result_in o.reply ≡ 3 → p < 64 → (port_at o.card p).asking ≡ false
    unfolding kind_in
    came-closes o (kept n z) k r h = absurd (omega (arith, kind-none))
    came-closes o (notice e s) k r h = absurd (omega arith)
    came-closes o (refused code n) k r h = absurd (omega (arith, kind-refusal (header_in m) code (enclosed_of (header_in m).kind (drop 16 m) code)))
    came-closes o (ordered q e s) k r h = absurd (omega arith)
    came-closes o (reduced q e s) k r h =
        subst (λ (i : ℕ). Reallocation t.ids t.channels card (header_in m) i o → (port_at o.card p).asking ≡ false)
        (sym (at_eq (sym (names_port t card l a m s) ∙ port)))
        (λ v. given-closes o v r h)
        (reallocation t.ids t.channels card (header_in m) q (request_in (first_of 0x0016 (items_of (drop 16 m)))))
    came-closes o (queried reply q e) k r h = absurd (omega arith)
    came-closes o (answered q e c s) k r h = absurd (omega arith)

    pub reduction_none : (space : ℕ) → kind_in (outcome_of t card (message m space)).reply ≡ 147 → result_in (outcome_of t card (message m space)).reply ≡ 3
        → NoneUntilAsked t (outcome_of t card (message m space)).card p
    unfolding outcome_of
    reduction_none space k r =
        closed_none t taken _ _ (call_step t taken card l a (message m space)) p
        (came-closes (received_of t.ids t.channels card m space) (came t.ids t.channels card m space) k r)
