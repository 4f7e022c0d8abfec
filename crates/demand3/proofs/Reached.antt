-- A message that is sound by its octets and the ledger passes the table: one Target with one circuit id is no fault, and nothing is missing.
--     reached_below, reached_up, reached      a 144 that reaches an Add
--     flows_queried                           a Multicast Flow Query (149)
-- Assumes nothing.
use Prim.Native.Nat.{ℕ, suc, ◌+◌, ◌≤◌, ◌<◌}
use mathlib.Core.Path.{◌≡◌, refl, sym, ap, subst, ◌∙◌}
use mathlib.Core.Logic.{◌⊎◌, ⊎_elim}
use mathlib.Core.Bool.{Bool, true, false, cond, ◌&&◌, ◌||◌}
use mathlib.Core.List.{List, [], ◌∷◌}
use native.Mathlib.Omega.{arith}
use lib.ListN.{length, drop, length-append}
use lib.Dec.{eqb}
use borrow.Author.Tests.{eq-eqb, ne_eqb, le-ltb, lt-ltb}
use Rattle.std.specs.Prelude.{Ok, Err}
use Rattle.octets.proofs.Tests.{taken, left}
use Rattle.header.specs.declared.Header.{Header}
use Rattle.header.specs.Header.{header_in, head_in}
use Rattle.flows.specs.declared.Flow.{Flow}
use Rattle.tlv.specs.Depth.{depth_of}
use Rattle.items.specs.Items.{Item, items_of, of_type, count_of}
use Rattle.circuits.specs.Circuits.{port_of}
use Rattle.card.specs.Cards.{Card}
use Rattle.rules.specs.Rules.{handled, result_ok, transaction_ok, rule, rules_of, is_among, rules_among}
use Rattle.rules.specs.Named.{lacks, missing, stood, at_fault}
use Rattle.rules.proofs.Faults.{no_fault_lem, commands-free}
use Rattle.checks.specs.Table.{id_in, located, faults, named_rows, table_of}
use Rattle.control.specs.Control.{controlled}
use Rattle.queries.specs.Queries.{flow_query}
use Rattle.messages.specs.Messages.{is_answer, is_notice, by_type, requested, by_result, by_head, received_of}
use Rattle.demand3.specs.Calls.{Tables}
use Rattle.demand3.specs.Reads.{kind_in, result_in, transaction_in, tlvs_in, port_in}
use Rattle.demand3.specs.Ledger.{Line, Ledger, acts_all}
use Rattle.demand3.specs.Claim.{Sound, Reaches}
use Rattle.demand3.proofs.Agree.{Agree, write_same}
use Rattle.demand3.proofs.Command.{all_up}
use Rattle.demand3.proofs.Views.{port_below}

-- ---- past the table
module _ (ids channels : List ℕ) (card : Card) (h : Header) (s : List ℕ) (p : ℕ) where
  carried_out_lem : (h.kind ≡ 147 → ⊥) → is_answer h.result ≡ false → is_notice h ≡ false → table_of ids card h s ≡ Ok p
      → by_result ids channels card h s ≡ by_type ids channels card h s p
  unfolding by_result requested
  carried_out_lem other n z v =
      sym (left (eqb h.kind 147) _ _ (ne_eqb h.kind 147 other))
      ∙ sym (left (is_answer h.result) _ _ n)
      ∙ sym (left (is_notice h) _ _ z)
      ∙ ap (requested ids channels card h s) v

-- ---- a sound message
module _ (t : Tables) (card : Card) (l : Ledger) (a : Agree t card l) (m : List ℕ) (kind p : ℕ) (r : Sound t m kind p) where
  abbrev s : List ℕ
  s = drop 16 m

  pub sound_below : (p < t.ports) × (p < 64)
  unfolding port_in
  sound_below = port_below t.ids t.ports (id_in s) r.port

  some_target : count_of 0x1000 (items_of s) ≡ 0 → ⊥
  unfolding tlvs_in
  some_target e = omega (arith, r.target)

  module _ (up : (l p).is_up ≡ true) where
    located_there : located card (port_of t.ids card.head.port_count (id_in s)) ≡ Ok p
    unfolding located port_in
    located_there =
        ap (λ (n : ℕ). located card (port_of t.ids n (id_in s))) a.ports
        ∙ ap (located card) r.port
        ∙ ap (λ (b : Bool). cond b (Ok p) (Err 0x6)) ((a.at p sound_below.1).is_up ∙ up)

    module _ (complete : length (missing (rules_of kind) (items_of s)) ≡ 0) (faultless : faults kind s ≡ []) where
      is_numbered : (kind ≡ 147 → ⊥) → transaction_ok kind (header_in m).transaction ≡ true
      unfolding transaction_ok transaction_in
      is_numbered other = rw (ne_eqb kind 147 other) (lt-ltb 0 (header_in m).transaction r.transaction)

      passed : handled kind ≡ true → result_ok kind (result_in m) ≡ true → (kind ≡ 147 → ⊥) → depth_of (result_in m) ≡ 3
          → table_of t.ids card (header_in m) s ≡ Ok p
      unfolding table_of named_rows kind_in result_in
      passed known ok other depth =
          rw r.is_kind
          (rw (
            known,
            ok,
            is_numbered other,
            depth,
            r.lengths,
            eq-eqb (length (missing (rules_of kind) (items_of s))) 0 complete,
            eq-eqb (length (faults kind s)) 0 (ap length faultless),
          ) located_there)

      -- with the right Result, with all that it needs and nothing at fault, it is carried out
      pub sound-comes : handled kind ≡ true → result_ok kind (result_in m) ≡ true → depth_of (result_in m) ≡ 3
          → (kind ≡ 147 → ⊥) → is_answer (result_in m) ≡ false → (eqb kind 144 && eqb (result_in m) 0) ≡ false → (space : ℕ) → 4608 ≤ space
          → received_of t.ids t.channels card m space ≡ by_type t.ids t.channels card (header_in m) s p
      unfolding received_of head_in by_head kind_in result_in is_notice
      sound-comes known ok depth other n z space k =
          rw (le-ltb space 4608 k, r.size, r.header)
          (carried_out_lem t.ids t.channels card (header_in m) s p (λ e. other (sym r.is_kind ∙ e)) n
          (ap (λ (j : ℕ). eqb j 144 && eqb (header_in m).result 0) r.is_kind ∙ z) (passed known ok other depth))

-- ---- what a message that reaches an Add comes to
module _ (t : Tables) (card : Card) (l : Ledger) (a : Agree t card l) (m : List ℕ) (p : ℕ) (f : Flow) (before after : List (List ℕ))
    (r : Reaches t l m p f before after) where
  pub reached_below : (p < t.ports) × (p < 64)
  reached_below = sound_below t card l a m 144 p r.sound

  pub reached_up : (l p).is_up ≡ true
  reached_up =
      sym (all_up t (l p) before) ∙ ap (λ (x : Line). x.is_up) (sym (write_same l p (acts_all t (l p) before))) ∙ r.wanted.is_up

  -- Result 1 or 2
  result_by : (C : ℕ → Type 0) → C 1 → C 2 → C (result_in m)
  result_by C x y = ⊎_elim (λ (e : result_in m ≡ 1). subst C (sym e) x) (λ (e : result_in m ≡ 2). subst C (sym e) y) r.result

  none-missing : length (missing (rules_of 144) (items_of (drop 16 m))) ≡ 0
  unfolding missing lacks rules_of rules_among count_of
  none-missing =
      let is : List Item = items_of (drop 16 m) in
      let n : length (of_type 0x0011 is) ≡ length before + suc (length after) = ap length r.commands ∙ length-append before (r.here ∷ after) in
      rw (ne_eqb (length (of_type 0x1000 is)) 0 (some_target t card l a m 144 p r.sound), ne_eqb (length (of_type 0x0011 is)) 0 (λ e. omega arith))

  none_faulty : faults 144 (drop 16 m) ≡ []
  unfolding rules_of rules_among tlvs_in stood
  none_faulty =
      no_fault_lem (rule 0x0011 true false ∷ []) commands-free [] (items_of (drop 16 m)) refl r.sound.target r.sound.circuit

  pub reached : (space : ℕ) → 4608 ≤ space → received_of t.ids t.channels card m space ≡ controlled t.ids t.channels card (header_in m) p (drop 16 m)
  unfolding handled is_among result_ok is_answer by_type kind_in
  reached space k =
      sound-comes t card l a m 144 p r.sound reached_up none-missing none_faulty refl (result_by (λ n. (eqb n 1 || eqb n 2) ≡ true) refl refl)
      (result_by (λ n. depth_of n ≡ 3) refl refl) (λ e. omega arith) (result_by (λ n. is_answer n ≡ false) refl refl)
      (result_by (λ n. eqb n 0 ≡ false) refl refl) space k
      ∙ sym (taken (eqb (header_in m).kind 144) _ _ (eq-eqb (header_in m).kind 144 r.sound.is_kind))

-- ---- what a Multicast Flow Query comes to
module _ (t : Tables) (card : Card) (l : Ledger) (a : Agree t card l) (m : List ℕ) (p : ℕ) (r : Sound t m 149 p) (two : result_in m ≡ 2)
    (up : (l p).is_up ≡ true) where
  none-missing_149 : length (missing (rules_of 149) (items_of (drop 16 m))) ≡ 0
  unfolding missing lacks rules_of rules_among
  none-missing_149 = rw (ne_eqb (count_of 0x1000 (items_of (drop 16 m))) 0 (some_target t card l a m 149 p r))

  none_faulty_149 : faults 149 (drop 16 m) ≡ []
  unfolding rules_of rules_among tlvs_in stood at_fault
  none_faulty_149 = no_fault_lem [] (λ before i n. refl) [] (items_of (drop 16 m)) refl r.target r.circuit

  pub flows_queried : (space : ℕ) → 4608 ≤ space → received_of t.ids t.channels card m space ≡ flow_query t.ids t.channels card (header_in m) p
  unfolding handled is_among result_ok is_answer by_type kind_in
  flows_queried space k =
      let by : (C : ℕ → Type 0) → C 2 → C (result_in m) = λ C x. subst C (sym two) x in
      let other : (n : ℕ) → (149 ≡ n → ⊥) → eqb (header_in m).kind n ≡ false = λ n d. ne_eqb (header_in m).kind n (λ e. d (sym r.is_kind ∙ e)) in
      sound-comes t card l a m 149 p r up none-missing_149 none_faulty_149 refl (by (λ n. eqb n 2 ≡ true) refl) (by (λ n. depth_of n ≡ 3) refl)
      (λ e. omega arith) (by (λ n. is_answer n ≡ false) refl) refl space k
      ∙ sym (left (eqb (header_in m).kind 144) _ _ (other 144 (λ e. omega arith)))
      ∙ sym (left (eqb (header_in m).kind 146) _ _ (other 146 (λ e. omega arith)))
      ∙ sym (left (eqb (header_in m).kind 148) _ _ (other 148 (λ e. omega arith)))
