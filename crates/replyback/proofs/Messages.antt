-- What a message that is handed in comes to, by cases, check by check: no reply, or an answer. Assumes nothing.
use mathlib.Core.Path.{◌≡◌, refl, sym, ap, ◌∙◌}
use mathlib.Core.Logic.{◌⊎◌, inl, inr, ⊎_elim}
use mathlib.Core.List.{List, [], ◌∷◌, ◌++◌, append_assoc}
use mathlib.Core.Bool.{Bool, true, false, cond}
use Prim.Native.Nat.{ℕ, ◌+◌, ◌≤◌, ◌<◌, max}
use native.Mathlib.Omega.{arith}
use lib.ListN.{length, drop, length-drop}
use lib.Dec.{eqb, ltb, leb}
use borrow.Author.Tests.{eqb-true, eqb-false, leb-true}
use Rattle.std.specs.Prelude.{Option, Some, None, Result, Ok, Err}
use Rattle.octets.proofs.Tests.{each}
use Rattle.header.specs.declared.Header.{Header}
use Rattle.header.specs.Header.{size_ok, usable, header_in, head_in}
use Rattle.tlv.specs.Depth.{depth_of, list_ok}
use Rattle.items.specs.Items.{Item, items_of, first_of}
use Rattle.fields.specs.Fields.{circuit_ids}
use Rattle.fields.specs.declared.Request.{Request}
use Rattle.replies.specs.Replies.{reply_header, amount_reply}
use Rattle.circuits.specs.Circuits.{id_at, port_of}
use Rattle.circuits.proofs.Circuits.{id_short, port_found}
use Rattle.ports.specs.Ports.{answers, within}
use Rattle.pool.specs.Pool.{committed_of}
use Rattle.card.specs.Cards.{Card, port_at}
use Rattle.card.specs.Outcome.{Outcome, writes}
use Rattle.rules.specs.Rules.{handled, result_ok, transaction_ok, rules_of}
use Rattle.rules.specs.Named.{missing}
use Rattle.rules.proofs.Faults.{one-circuit}
use Rattle.checks.specs.Table.{id_in, located, faults, named_rows, table_of, refused_of}
use Rattle.checks.proofs.Rows.{empty}
use Rattle.commands.specs.Commands.{ran_of}
use Rattle.control.specs.Control.{all_good, commands_from, commands_in, controlled, failure_of}
use Rattle.transfers.specs.Transfers.{transfer_fails, transfer_gives, reallocated, transferred}
use Rattle.listing.specs.Listing.{rows_in_order}
use Rattle.queries.specs.Queries.{delegation_query, flow_query}
use Rattle.messages.specs.Messages.{is_answer, is_notice, by_type, requested, offered, by_result, by_head, received_of}
use Rattle.replyback.specs.Says.{Says}
use Rattle.replyback.specs.Every.{Answer, MayWrite, Octets}
use Rattle.replyback.proofs.Answers.{kinds_back, listing_says}
use Rattle.replyback.proofs.Lengths.{sizes}
use Rattle.replyback.specs.Every.MayWrite.{silent, written}
use Rattle.replyback.proofs.Cases.{by_cond}
use Rattle.replyback.proofs.Passed.{code_fits, rows_few}

-- ---- what an outcome of a message m has to be
abbrev Replies : List ℕ → Outcome → Type 0
Replies m = MayWrite (Answer m)

-- nothing is written where a 147 is taken
module _ (m : List ℕ) (card : Card) (h : Header) where
  transfer_silent : (p amount : ℕ) → Replies m (transferred card h p amount)
  unfolding transferred
  transfer_silent p amount =
      by_cond (Replies m) (answers (port_at card p) h.transaction) _ _
      (λ _. by_cond (Replies m) (eqb h.result 4) _ _ (λ _. silent refl)
      (λ _. by_cond (Replies m) (within (port_at card p) amount) _ _ (λ _. silent refl) (λ _. silent refl)))
      (λ _. silent refl)

  offer_silent : (s : List ℕ) (v : Result ℕ ℕ) → Replies m (offered card h s v)
  unfolding offered
  offer_silent s (Err code) = silent refl
  offer_silent s (Ok p) = transfer_silent p _

-- ---- a message of a size that may be handed in
module _ (m : List ℕ) (octets : Octets m) (lo : 16 ≤ length m) (hi : length m ≤ 4096) where
  abbrev h : Header
  h = header_in m

  abbrev s : List ℕ
  s = drop 16 m

  transaction-fits : h.transaction < 16777216
  unfolding header_in
  transaction-fits = omega (arith, octets 9, octets 10, octets 11)

  rest-length : length s + 16 ≡ length m
  rest-length = omega (arith, length-drop 16 m)

  answered : (o : Outcome) {kind result code : ℕ} {is : List Item} → (result ≡ 3) ⊎ (result ≡ 4) → Says o.reply (reply_header h kind result code) is
      → length o.reply ≤ max 728 (length s + 32) → Replies m o
  answered o r y l =
      let w : List ℕ = o.reply in
      let e = ap (λ (x : Header). x.result) y.header in
      written (record {
        is_usable = y.is_usable;
        result = ⊎_elim (λ k. inl (e ∙ k)) (λ k. inr (e ∙ k)) r;
        partition = ap (λ (x : Header). x.partition) y.header;
        transaction = ap (λ (x : Header). x.transaction) y.header;
        passes = ap (λ (x : Header). list_ok (depth_of x.result) false (drop 16 w)) y.header ∙ y.passes;
        size = omega (arith, rest-length);
        fits = omega (arith, rest-length);
      })

  -- ---- past the table, on port p
  module _ (ids channels : List ℕ) (p : ℕ) where
    -- 147, 148
    amount-answers : (card : Card) (kind result code amount : ℕ) → (result ≡ 3) ⊎ (result ≡ 4) → code < 4096
        → Replies m (writes card (amount_reply h kind result code (id_at ids p) amount))
    amount-answers card kind result code amount r k =
        let l : result < 16 = ⊎_elim (λ e. omega arith) (λ e. omega arith) r in
        answered _ r (kinds_back.amount h kind result code (id_at ids p) amount transaction-fits l k).says
        (omega (arith, (sizes.short (id_at ids p) (id_short ids p)).amount h kind result code amount))

    reallocation_answers : (card : Card) (r : Request) → Replies m (reallocated ids channels card h p r)
    unfolding reallocated transfer_fails transfer_gives
    reallocation_answers card r =
        by_cond (Replies m) (ltb r.required r.preferred) _ _ (λ _. amount-answers _ 147 4 0x67 _ (inr refl) (omega arith))
        (λ _. by_cond (Replies m) (ltb r.required (committed_of channels card.pool p)) _ _ (λ _. amount-answers _ 147 4 0 _ (inr refl) (omega arith))
        (λ _. amount-answers _ 147 3 0 _ (inl refl) (omega arith)))

    delegation_answers : (card : Card) → Replies m (delegation_query ids card h p)
    unfolding delegation_query
    delegation_answers card = amount-answers card h.kind 3 0 _ (inl refl) (omega arith)

    -- 149
    listing_answers : (card : Card) → Replies m (flow_query ids channels card h p)
    unfolding flow_query
    listing_answers card =
        let ks = rows_in_order channels card.pool p in
        answered _ (inl refl) (listing_says h (id_at ids p) channels ks transaction-fits refl)
        (omega (arith, (sizes.short (id_at ids p) (id_short ids p)).listing h channels ks (rows_few channels card.pool p)))

    -- 144
    success_answers : (card : Card) → Replies m (all_good h card)
    unfolding all_good
    success_answers card =
        by_cond (Replies m) (eqb h.result 2) _ _
        (λ _. answered _ (inl refl) (kinds_back.success h transaction-fits) (omega (arith, sizes.success h)))
        (λ _. silent refl)

    module _ (ok : list_ok 3 false s ≡ true) (one : circuit_ids (first_of 0x1000 (items_of s)) ≡ 1) (same : id_at ids p ≡ id_in s) where
      failure_answers : (card : Card) (code number : ℕ) (c : List ℕ) (front after : List (List ℕ)) → code < 4096
          → commands_in s ≡ front ++ (c ∷ after)
          → Replies m (writes card (failure_of h code (id_at ids p) number c))
      failure_answers card code number c front after k e =
          answered _ (inr refl) (kinds_back.failure h code (id_at ids p) number s c front after transaction-fits k ok e).refuses.says
          (omega (
            arith,
            ap (λ (id : List ℕ). length (failure_of h code id number c)) same,
            (sizes.rows h s).failure code number c front after (omega (arith, one)) e,
          ))

      commands-answer : (card : Card) (number : ℕ) (front cs : List (List ℕ)) → commands_in s ≡ front ++ cs
          → Replies m (commands_from channels h (id_at ids p) p card number cs)
      unfolding commands_from
      commands-answer card number front [] e = success_answers card
      commands-answer card number front (c ∷ cs) e =
          by_cond (Replies m) (eqb (ran_of channels card p c).code 0) _ _
          (λ _. commands-answer (ran_of channels card p c).card (number + 1) (front ++ (c ∷ [])) cs (e ∙ sym (append_assoc front (c ∷ []) cs)))
          (λ _. failure_answers card _ number c front cs (code_fits channels card p c) e)

      type_answers : (card : Card) → Replies m (by_type ids channels card h s p)
      unfolding by_type controlled
      type_answers card =
          by_cond (Replies m) (eqb h.kind 144) _ _ (λ _. commands-answer card 1 [] (commands_in s) refl)
          (λ _. by_cond (Replies m) (eqb h.kind 146) _ _ (λ _. reallocation_answers card _)
          (λ _. by_cond (Replies m) (eqb h.kind 148) _ _ (λ _. delegation_answers card) (λ _. listing_answers card)))

  -- ---- the table
  module _ (ids channels : List ℕ) (card : Card) where
    Row : Result ℕ ℕ → Type 0
    Row v = Replies m (requested ids channels card h s v)

    row : (code : ℕ) {is : List Item} → Says (refused_of h s code) (reply_header h 91 4 code) is → length (refused_of h s code) ≤ 24 + max 8 (length s)
        → Row (Err code)
    unfolding Row requested
    row code y l = answered _ (inr refl) y (omega arith)

    fault-answers : list_ok 3 false s ≡ true → (is : List Item) → faults h.kind s ≡ is → eqb (length is) 0 ≡ false → Row (Err 0x55)
    fault-answers ok [] e z = absurd (eqb-false (length {A = Item} []) 0 z refl)
    fault-answers ok (i ∷ is) e z =
        row 0x55 ((kinds_back.rows h s transaction-fits).fault i is ok e).says (omega (arith, (sizes.rows h s).fault))

    port_answers : list_ok 3 false s ≡ true → circuit_ids (first_of 0x1000 (items_of s)) ≡ 1
        → (x : Option ℕ) → port_of ids card.head.port_count (id_in s) ≡ x → Row (located card x)
    unfolding located Row requested
    port_answers ok one None e =
        row 0x500 (kinds_back.rows h s transaction-fits).unknown.refuses.says (sizes.rows h s).unknown
    port_answers ok one (Some p) e =
        by_cond Row (port_at card p).up _ _ (λ _. type_answers ids channels p ok one (port_found ids card.head.port_count (id_in s) e).is card)
        (λ _. row 0x6 (kinds_back.rows h s transaction-fits).down.refuses.says (sizes.rows h s).down)

    named_answers : handled h.kind ≡ true → list_ok 3 false s ≡ true → Row (named_rows ids card h.kind s)
    unfolding named_rows
    named_answers known ok =
        by_cond Row (eqb (length (missing (rules_of h.kind) (items_of s))) 0) _ _
        (λ a. by_cond Row (eqb (length (faults h.kind s)) 0) _ _
        (λ b. port_answers ok
        (one-circuit h.kind known (items_of s) (empty _ (eqb-true _ _ a)) (empty _ (eqb-true _ _ b)))
        (port_of ids card.head.port_count (id_in s)) refl)
        (λ b. fault-answers ok (faults h.kind s) refl b))
        (λ a. row 0x54 (kinds_back.rows h s transaction-fits).missing.says (omega (arith, (sizes.rows h s).missing)))

    table-answers : is_answer h.result ≡ false → Row (table_of ids card h s)
    unfolding table_of is_answer
    table-answers n =
        let three : depth_of h.result ≡ 3 = ap (λ (b : Bool). cond b 4 3) n in
        by_cond Row (handled h.kind) _ _
        (λ known. by_cond Row (result_ok h.kind h.result) _ _
        (λ _. by_cond Row (transaction_ok h.kind h.transaction) _ _
        (λ _. by_cond Row (list_ok (depth_of h.result) false s) _ _
        (λ ok. named_answers known (ap (λ (d : ℕ). list_ok d false s) (sym three) ∙ ok))
        (λ _. row 0x53 (kinds_back.rows h s transaction-fits).broken.says (omega (arith, (sizes.rows h s).broken))))
        (λ _. row 0x2 (kinds_back.rows h s transaction-fits).result.says (omega (arith, (sizes.rows h s).result))))
        (λ _. row 0x2 (kinds_back.rows h s transaction-fits).result.says (omega (arith, (sizes.rows h s).result))))
        (λ _. row 0x51 (kinds_back.rows h s transaction-fits).unhandled.says (omega (arith, (sizes.rows h s).unhandled)))

    -- ---- before the table
    result_answers : Replies m (by_result ids channels card h s)
    unfolding by_result Row
    result_answers =
        by_cond (Replies m) (eqb h.kind 147) _ _
        (λ _. by_cond (Replies m) (is_answer h.result) _ _ (λ _. offer_silent m card h s _) (λ _. silent refl))
        (λ _. by_cond (Replies m) (is_answer h.result) _ _ (λ _. silent refl)
        (λ n. by_cond (Replies m) (is_notice h) _ _ (λ _. silent refl) (λ _. table-answers n)))

    head_answers : Replies m (by_head ids channels card m (head_in m))
    unfolding head_in by_head
    head_answers =
        by_cond (λ (x : Option Header). Replies m (by_head ids channels card m x)) (usable m) _ _ (λ _. result_answers) (λ _. silent refl)

pub message_answers : (ids channels : List ℕ) (card : Card) (m : List ℕ) (space : ℕ) → Octets m
    → Replies m (received_of ids channels card m space)
unfolding received_of size_ok
message_answers ids channels card m space octets =
    by_cond (Replies m) (ltb space 4608) _ _ (λ _. silent refl)
    (λ _. by_cond (Replies m) (size_ok m) _ _
    (λ z. let b = each (leb 16 (length m) ∷ leb (length m) 4096 ∷ []) z in
    head_answers m octets (leb-true _ _ b.0) (leb-true _ _ b.1.0) ids channels card)
    (λ _. silent refl))
