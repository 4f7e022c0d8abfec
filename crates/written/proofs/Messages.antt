-- What a message that is handed in writes, check by check: nothing, or the answer of its row or type. Assumes nothing.
use Prim.Native.Nat.{ℕ, ◌+◌, ◌<◌}
use mathlib.Core.Path.{◌≡◌, refl, sym, ap, subst, ◌∙◌}
use mathlib.Core.Bool.{Bool, true, false, cond, ◌||◌}
use mathlib.Core.List.{List, [], ◌∷◌, ◌++◌, append_assoc, append-nil}
use native.Mathlib.Omega.{arith}
use lib.ListN.{length, drop, length-append}
use lib.Dec.{eqb, ltb}
use borrow.Author.Tests.{eqb-true, eqb-false, ltb-true, ltb-false}
use Rattle.std.specs.Prelude.{Option, Result, Ok, Err}
use Rattle.header.specs.declared.Header.{Header}
use Rattle.header.specs.Header.{size_ok, usable, header_in, head_in}
use Rattle.tlv.specs.Depth.{depth_of, list_ok}
use Rattle.items.specs.Items.{Item, items_of}
use Rattle.replies.specs.Replies.{reply_header, amount_reply}
use Rattle.circuits.specs.Circuits.{id_at}
use Rattle.ports.specs.Ports.{answers, within}
use Rattle.pool.specs.Pool.{committed_of}
use Rattle.card.specs.Cards.{Card, port_at}
use Rattle.card.specs.Outcome.{Outcome, writes}
use Rattle.rules.specs.Rules.{handled, rules_of, is_among}
use Rattle.rules.proofs.Faults.{fault_tail}
use Rattle.checks.specs.Table.{faults, refused_of}
use Rattle.checks.proofs.Rows.{TablePassed, TableRefused, unhandled, unfit, zero, broken, lacking, faulty, unknown, down, passed-tells, refused-tells}
use Rattle.commands.specs.Commands.{ran_of}
use Rattle.control.specs.Control.{all_good, commands_from, commands_in, controlled, failure_of}
use Rattle.transfers.specs.Transfers.{transfer_fails, transfer_gives, reallocated, transferred}
use Rattle.listing.specs.Listing.{rows_in_order}
use Rattle.queries.specs.Queries.{delegation_query, flow_query, flows_reply}
use Rattle.messages.specs.Messages.{is_answer, is_notice, by_type, requested, offered, by_result, by_head, received_of}
use Rattle.replyback.specs.Kinds.{Good, Carries, Lists, Fails}
use Rattle.replyback.specs.Every.{Octets}
use Rattle.replyback.proofs.Cases.{by_cond}
use Rattle.replyback.proofs.Passed.{code_fits}
use Rattle.replyback.proofs.Answers.{kinds_back}
use Rattle.demand3.specs.Calls.{Tables}
use Rattle.demand3.specs.Calls.Call.{message}
use Rattle.written.specs.Written.{AllRan, figures_in, verdict_on}
use Rattle.written.specs.Written.AllRan.{none, more}
use Rattle.written.specs.Written.Written.{nothing, type_unhandled, result_wrong, tlvs-broken, tlvs-missing, tlv-at-fault, port_unknown, port_down_lem}
use Rattle.written.specs.Written.Written.{succeeded, failed, more_preferred, under_committed, reduced, delegation, flows}
use Rattle.written.proofs.Host.{By}

-- ---- the TLVs from the first one at fault on are the message's last ones
record EndsWith (is js : List Item) : Type 0 where
  before : List Item
  both : is ≡ before ++ js

fault_ends : (kind : ℕ) (s : List ℕ) → EndsWith (items_of s) (faults kind s)
fault_ends kind s = fault_tail (rules_of kind) (EndsWith (items_of s)) shorter [] (items_of s) (record { before = []; both = refl })
  where
    shorter : (i : Item) (is : List Item) → EndsWith (items_of s) (i ∷ is) → EndsWith (items_of s) is
    shorter i is e = record { before = e.before ++ (i ∷ []); both = e.both ∙ sym (append_assoc e.before (i ∷ []) is) }

-- ---- one command more that succeeds
succeed-one : {channels : List ℕ} {p : ℕ} {card now : Card} {cs : List (List ℕ)} (c : List ℕ) → AllRan channels p card cs now
    → (ran_of channels now p c).code ≡ 0 → AllRan channels p card (cs ++ (c ∷ [])) (ran_of channels now p c).card
succeed-one c none e = more e none
succeed-one c (more d r) e = more d (succeed-one c r e)

-- the type that is handled and none of the others
flow_query_lem : (k : ℕ) → handled k ≡ true → eqb k 144 ≡ false → eqb k 146 ≡ false → eqb k 147 ≡ false → eqb k 148 ≡ false → k ≡ 149
unfolding handled is_among
flow_query_lem k h a b c d = eqb-true k 149 (alone (eqb k 149) (rw (a, b, c, d) at h))
  where
    alone : (x : Bool) → (x || false) ≡ true → x ≡ true
    alone true h = h
    alone false h = h

module _ (t : Tables) (card : Card) (m : List ℕ) (space : ℕ) (octets : Octets m)
    (good : (p : ℕ) → p < card.head.port_count → Good t.channels (rows_in_order t.channels card.pool p)) where
  abbrev h : Header
  h = header_in m

  abbrev s : List ℕ
  s = drop 16 m

  abbrev So : Outcome → Type 0
  So = By t card (message m space)

  fits : h.transaction < 16777216
  unfolding header_in
  fits = omega (arith, octets 9, octets 10, octets 11)

  -- ---- a 147 is never answered
  transferred_writes : (p amount : ℕ) → So (transferred card h p amount)
  unfolding transferred
  transferred_writes p amount =
      by_cond So (answers (port_at card p) h.transaction) _ _
      (λ _. by_cond So (eqb h.result 4) _ _ (λ _. nothing)
      (λ _. by_cond So (within (port_at card p) amount) _ _ (λ _. nothing) (λ _. nothing)))
      (λ _. nothing)

  offered_writes : (v : Result ℕ ℕ) → So (offered card h s v)
  unfolding offered
  offered_writes (Err code) = nothing
  offered_writes (Ok p) = transferred_writes p _

  -- ---- a request
  module _ (request : is_answer h.result ≡ false) where
    three : list_ok (depth_of h.result) false s ≡ true → list_ok 3 false s ≡ true
    unfolding is_answer
    three ok = ap (λ (b : Bool). list_ok (cond b 4 3) false s) (sym request) ∙ ok

    -- a row of the table
    fault-writes : verdict_on t card m ≡ Err 0x55 → list_ok 3 false s ≡ true → (is : List Item) → faults h.kind s ≡ is → (is ≡ [] → ⊥)
        → So (writes card (refused_of h s 0x55))
    fault-writes v ok [] e n = absurd (n refl)
    fault-writes v ok (i ∷ is) e n =
        let z = fault_ends h.kind s in
        tlv-at-fault z.before is v (z.both ∙ ap (λ (js : List Item). z.before ++ js) e) e ((kinds_back.rows h s fits).fault i is ok e)

    row-writes : (code : ℕ) → verdict_on t card m ≡ Err code → TableRefused t.ids card h s code → So (writes card (refused_of h s code))
    row-writes _ v (unhandled a) = type_unhandled v (kinds_back.rows h s fits).unhandled
    row-writes _ v (unfit a b) = result_wrong v (kinds_back.rows h s fits).result
    row-writes _ v (zero a b c) = result_wrong v (kinds_back.rows h s fits).result
    row-writes _ v (broken a b c d) = tlvs-broken v (kinds_back.rows h s fits).broken
    row-writes _ v (lacking a b) = tlvs-missing v (kinds_back.rows h s fits).missing
    row-writes _ v (faulty a b c) = fault-writes v (three a.sound) (faults h.kind s) refl c
    row-writes _ v (unknown a b c d) = port_unknown v (kinds_back.rows h s fits).unknown
    row-writes _ v (down a b c d e) = port_down_lem v (kinds_back.rows h s fits).down

    -- past the table
    module _ (p : ℕ) (v : verdict_on t card m ≡ Ok p) (past : TablePassed t.ids card h s p) where
      abbrev id : List ℕ
      id = id_at t.ids p

      carries : (type result code amount : ℕ) → result < 16 → code < 4096
          → Carries (amount_reply h type result code id amount) (reply_header h type result code) id amount
      carries type result code amount = kinds_back.amount h type result code id amount fits

      -- 144
      module _ (k : h.kind ≡ 144) where
        all_writes : (now : Card) → AllRan t.channels p card (commands_in s) now → So (all_good h now)
        unfolding all_good
        all_writes now r =
            by_cond So (eqb h.result 2) _ _ (λ e. succeeded v k (eqb-true h.result 2 e) r (kinds_back.success h fits)) (λ _. nothing)

        -- the commands before are done, and the first of cs is number `number`
        commands-write : (now : Card) (number : ℕ) (before cs : List (List ℕ)) → number ≡ length before + 1 → commands_in s ≡ before ++ cs
            → AllRan t.channels p card before now → So (commands_from t.channels h id p now number cs)
        unfolding commands_from
        commands-write now number before [] n e r =
            all_writes now (subst (λ (cs : List (List ℕ)). AllRan t.channels p card cs now) (sym (e ∙ append-nil before)) r)
        commands-write now number before (c ∷ cs) n e r =
            by_cond So (eqb (ran_of t.channels now p c).code 0) _ _
            (λ z. commands-write (ran_of t.channels now p c).card (number + 1) (before ++ (c ∷ [])) cs (omega (arith, length-append before (c ∷ [])))
            (e ∙ sym (append_assoc before (c ∷ []) cs)) (succeed-one c r (eqb-true _ _ z)))
            (λ z. let code : ℕ = (ran_of t.channels now p c).code in
            failed before cs v k e r (eqb-false _ _ z)
            (subst (λ (i : ℕ). Fails (failure_of h code id number c) h code id i c) n
            (kinds_back.failure h code id number s c before cs fits (code_fits t.channels now p c) (three past.sound) e)))

        control_writes : So (controlled t.ids t.channels card h p s)
        unfolding controlled
        control_writes = commands-write card 1 [] (commands_in s) refl refl none

      -- 146
      reallocation-writes : h.kind ≡ 146 → So (reallocated t.ids t.channels card h p (figures_in m))
      unfolding reallocated transfer_fails transfer_gives
      reallocation-writes k =
          by_cond So (ltb (figures_in m).required (figures_in m).preferred) _ _
          (λ a. more_preferred v k (ltb-true _ _ a) (carries 147 4 0x67 _ (omega arith) (omega arith)))
          (λ a. by_cond So (ltb (figures_in m).required (committed_of t.channels card.pool p)) _ _
          (λ b. under_committed v k (ltb-true _ _ b) (carries 147 4 0 _ (omega arith) (omega arith)))
          (λ b. reduced v k (ltb-false _ _ a) (ltb-false _ _ b) (carries 147 3 0 _ (omega arith) (omega arith))))

      -- 148, 149
      delegation-writes : h.kind ≡ 148 → So (delegation_query t.ids card h p)
      unfolding delegation_query
      delegation-writes k =
          delegation v k (subst (λ (n : ℕ). Carries (amount_reply h h.kind 3 0 id (port_at card p).delegation) (reply_header h n 3 0) id (port_at card p).delegation) k
          (carries h.kind 3 0 _ (omega arith) (omega arith)))

      flows-writes : h.kind ≡ 149 → So (flow_query t.ids t.channels card h p)
      unfolding flow_query
      flows-writes k =
          let ks : List ℕ = rows_in_order t.channels card.pool p in
          flows v k (subst (λ (n : ℕ). Lists (flows_reply h id t.channels ks) (reply_header h n 3 0) id t.channels ks) k
          (kinds_back.listing h id t.channels ks fits (good p past.below)))

      type_writes : eqb h.kind 147 ≡ false → So (by_type t.ids t.channels card h s p)
      unfolding by_type
      type_writes n =
          by_cond So (eqb h.kind 144) _ _ (λ a. control_writes (eqb-true _ _ a))
          (λ a. by_cond So (eqb h.kind 146) _ _ (λ b. reallocation-writes (eqb-true _ _ b))
          (λ b. by_cond So (eqb h.kind 148) _ _ (λ c. delegation-writes (eqb-true _ _ c))
          (λ c. flows-writes (flow_query_lem h.kind past.known a b n c))))

    requested-writes : eqb h.kind 147 ≡ false → (x : Result ℕ ℕ) → verdict_on t card m ≡ x → So (requested t.ids t.channels card h s x)
    unfolding requested
    requested-writes n (Err code) v = row-writes code v (refused-tells t.ids card h s v)
    requested-writes n (Ok p) v = type_writes p v (passed-tells t.ids card h s v) n

  -- ---- before the table
  result_writes : So (by_result t.ids t.channels card h s)
  unfolding by_result
  result_writes =
      by_cond So (eqb h.kind 147) _ _
      (λ _. by_cond So (is_answer h.result) _ _ (λ _. offered_writes _) (λ _. nothing))
      (λ n. by_cond So (is_answer h.result) _ _ (λ _. nothing)
      (λ a. by_cond So (is_notice h) _ _ (λ _. nothing) (λ _. requested-writes a n (verdict_on t card m) refl)))

  head_writes : So (by_head t.ids t.channels card m (head_in m))
  unfolding head_in by_head
  head_writes = by_cond (λ (x : Option Header). So (by_head t.ids t.channels card m x)) (usable m) _ _ (λ _. result_writes) (λ _. nothing)

  pub message_writes : So (received_of t.ids t.channels card m space)
  unfolding received_of
  message_writes =
      by_cond So (ltb space 4608) _ _ (λ _. nothing) (λ _. by_cond So (size_ok m) _ _ (λ _. head_writes) (λ _. nothing))
