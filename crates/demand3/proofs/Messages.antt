-- A card that agrees with the ledger still does after any message. Assumes nothing.
use Rattle.std.specs.Prelude.{Option, Some}
use Prim.Native.Nat.{ℕ, ◌<◌}
use mathlib.Core.Path.{◌≡◌, sym, ap, subst, ◌∙◌}
use mathlib.Core.Bool.{Bool, true, cond, ◌||◌}
use mathlib.Core.List.{List, []}
use native.Mathlib.Omega.{arith}
use lib.ListN.{length, take, drop}
use lib.Dec.{eqb}
use borrow.Author.Tests.{ne_eqb}
use Rattle.header.specs.declared.Header.{Header}
use Rattle.header.specs.Header.{header_in}
use Rattle.items.specs.Items.{items_of, first_of}
use Rattle.fields.specs.Fields.{request_in}
use Rattle.circuits.specs.Circuits.{id_at, port_of}
use Rattle.card.specs.Cards.{Card}
use Rattle.card.specs.Outcome.{Outcome}
use Rattle.rules.specs.Rules.{result_ok}
use Rattle.checks.specs.Table.{id_in}
use Rattle.control.specs.Control.{commands_in, controlled}
use Rattle.messages.specs.Messages.{received_of}
use Rattle.demand3.specs.Calls.{Tables, ours, seen, outcome_of}
use Rattle.demand3.specs.Calls.Call.{message}
use Rattle.demand3.specs.Reads.{kind_in, result_in, tlvs_in, port_in, amount_in}
use Rattle.demand3.specs.Ledger.{Ledger, write, acted_in, acts_all, write_at, message_entry, entry, entered}
use Rattle.demand3.proofs.Agree.{Agree, TablesTaken, agree_as, write-back}
use Rattle.demand3.proofs.Replies.{kind-none}
use Rattle.checks.proofs.Rows.{TablePassed}
use Rattle.demand3.proofs.Views.{port_below, Came, kept, notice, refused, ordered, reduced, queried, answered, came}
use Rattle.demand3.proofs.Commands.{ran, Tells, commands_tell, acted-told}
use Rattle.demand3.proofs.Acts.{commands_agree}
use Rattle.demand3.proofs.Entries.{entry-ordered, entry_kept, entry_other, refused_agrees}
use Rattle.demand3.proofs.Delegations.{ledger_after_answer, Agreed, reallocated_agreed, transferred_agreed}

module _ (t : Tables) (card : Card) (l : Ledger) (a : Agree t card l) (m : List ℕ) where
  -- ---- what a message that passes the table has, in the ledger's terms
  module _ {p : ℕ} (s : TablePassed t.ids card (header_in m) (drop 16 m) p) where
    pub names_port : port_in t m ≡ Some p
    unfolding port_in
    names_port = ap (λ (n : ℕ). port_of t.ids n (id_in (drop 16 m))) (sym a.ports) ∙ s.found

    pub port_one : p < t.ports
    unfolding port_in
    port_one = (port_below t.ids t.ports (id_in (drop 16 m)) names_port).0

    pub port_below_64 : p < 64
    port_below_64 = (port_below t.ids card.head.port_count (id_in (drop 16 m)) s.found).1

    line_up : (l p).is_up ≡ true
    line_up = sym (a.at p port_below_64).is_up ∙ s.up

  -- ---- commands on a port that is up: the ledger reads how many acted
  module _ (p : ℕ) (below : p < 64) (up : (l p).is_up ≡ true) where
    abbrev commands : List (List ℕ)
    commands = commands_in (drop 16 m)

    abbrev many : ℕ
    many = ran t.channels p card commands

    abbrev answer : Outcome
    answer = controlled t.ids t.channels card (header_in m) p (drop 16 m)

    pub controlled_tells : Tells answer 1 (length commands) many
    unfolding controlled
    controlled_tells = commands_tell t.channels (header_in m) (id_at t.ids p) p card 1 commands

    pub controlled-acts : acted_in answer.reply commands ≡ take many commands
    controlled-acts = acted-told answer.reply commands many controlled_tells.told

    pub controlled_agrees : Agree t answer.card (write l p (acts_all t (l p) (take many commands)))
    unfolding controlled
    controlled_agrees =
        commands_agree t p below l (header_in m) (id_at t.ids p) card (l p) 1 commands (agree_as t (λ q. sym (write-back l p q)) a) up

    controlled_agreed : kind_in m ≡ 144 → (eqb (result_in m) 1 || eqb (result_in m) 2) ≡ true → port_in t m ≡ Some p → Agreed t l m answer
    unfolding ledger_after_answer write_at
    controlled_agreed k r port =
        subst (Agree t answer.card)
        (sym (ap (λ (n : ℕ). cond (eqb n 0) (message_entry t l m answer.reply) l) controlled_tells.number
        ∙ entry-ordered t l m answer.reply (λ e. omega (arith, controlled_tells.generic)) k r
        ∙ ap (λ (f : Option ℕ). write_at l f (λ x. acts_all t x (acted_in answer.reply commands))) port
        ∙ ap (λ (cs : List (List ℕ)). write l p (acts_all t (l p) cs)) controlled-acts))
        controlled_agrees

  -- ---- any answer
  result_ok_lem : (h : Header) → h.kind ≡ 144 → result_ok h.kind h.result ≡ true → (eqb h.result 1 || eqb h.result 2) ≡ true
  unfolding result_ok
  result_ok_lem h k r = ap (λ (n : ℕ). result_ok n h.result) (sym k) ∙ r

  came_agreed : TablesTaken t → (o : Outcome) → Came t.ids t.channels card m o → Agreed t l m o
  unfolding ledger_after_answer kind_in result_in amount_in tlvs_in
  came_agreed taken o (kept n z) = subst (λ (b : Bool). Agree t card (cond b (message_entry t l m []) l)) (sym (ne_eqb n 0 z)) a
  came_agreed taken o (notice k r) = subst (Agree t card) (sym (entry_kept t l m [] (λ e. omega (arith, kind-none)) (rw k) (rw (k, r)))) a
  came_agreed taken o (refused code n) = refused_agrees t card l a m code n
  came_agreed taken o (ordered p k s) = controlled_agreed p (port_below_64 s) (line_up s) k (result_ok_lem (header_in m) k s.result) (names_port s)
  came_agreed taken o (reduced p k s) =
      reallocated_agreed t card l a p (port_below_64 s) taken (port_one s) (header_in m) m (request_in (first_of 0x0016 (items_of (drop 16 m))))
  came_agreed taken o (queried reply q e) =
      subst (Agree t card) (sym (entry_other t l m reply (λ k. omega arith) (λ k. omega arith) (λ k. omega arith))) a
  came_agreed taken o (answered p k r s) = transferred_agreed t card l a p (port_below_64 s) m k r (names_port s)

  pub message_step : TablesTaken t → (space : ℕ) → Agree t (outcome_of t card (message m space)).card (entered t l (seen ours t card (message m space)))
  unfolding outcome_of entered entry ledger_after_answer
  message_step taken space = came_agreed taken (received_of t.ids t.channels card m space) (came t.ids t.channels card m space)
