-- Messages that differ only in what is not read come to the same, copies aside. Assumes nothing.
use Prim.Native.Nat.{ℕ, ◌+◌}
use mathlib.Core.Path.{◌≡◌, refl, sym, ap, ap₂, subst, ◌∙◌}
use mathlib.Core.Bool.{Bool, true, false, cond, ◌||◌}
use mathlib.Core.List.{List, []}
use native.Mathlib.Omega.{arith}
use lib.ListN.{drop}
use lib.Dec.{eqb, ltb}
use borrow.Author.Tests.{eqb-true}
use Rattle.std.specs.Prelude.{None, Some, Result, Ok, Err}
use Rattle.header.specs.declared.Header.{Header}
use Rattle.header.specs.Header.{size_ok, usable, header_in, head_in}
use Rattle.tlv.specs.Depth.{depth_of}
use Rattle.items.specs.Items.{Item, items_of}
use Rattle.fields.specs.Fields.{allocation_in, request_in}
use Rattle.writers.specs.Tlvs.{target_of}
use Rattle.replies.specs.Replies.{refusal_of}
use Rattle.circuits.specs.Circuits.{id_at}
use Rattle.card.specs.Cards.{Card}
use Rattle.card.specs.Outcome.{Outcome, keeps, writes}
use Rattle.rules.specs.Rules.{rules_of}
use Rattle.rules.specs.Named.{bares}
use Rattle.checks.specs.Table.{id_in, faults, named_rows, table_of, copy_of, enclosed_of, refused_of}
use Rattle.commands.specs.Commands.{Ran, ran_of}
use Rattle.control.specs.Control.{failure_of, commands_from, controlled}
use Rattle.transfers.specs.Transfers.{reallocated, transferred}
use Rattle.messages.specs.Messages.{is_answer, is_notice, by_type, requested, offered, by_result, by_head, received_of}
use Rattle.unread.specs.Alike.{tlvs, content, Alike, SameHeader}
use Rattle.unread.specs.Unread.{SameReply, equal, fault, failed, SameOutcome, Unread}
use Rattle.unread.proofs.Codes.{result-code, same_size, same-usable, same_header}
use Rattle.unread.proofs.Tlvs.{list_same}
use Rattle.unread.proofs.Items.{AlikeItems, no_items, one_more, items_alike, items-length, AlikeAll, no_contents, one_content, of_alike, first_alike, first-same, ids-same, order_same, missing-same, faults_alike}

-- ---- outcomes
as_equal : {o o' : Outcome} → o ≡ o' → SameOutcome o o'
as_equal {o} e = subst (SameOutcome o) e (record { card = refl; number = refl; reply = equal })

by-same : {x x' y y' : Outcome} (b : Bool) → SameOutcome x x' → SameOutcome y y' → SameOutcome (cond b x y) (cond b x' y')
by-same true f g = f
by-same false f g = g

-- ---- commands, on one card
module _ (channels : List ℕ) (h : Header) (id : List ℕ) (p : ℕ) where
  -- the first command came to x
  abbrev after_first : Card → ℕ → List ℕ → List (List ℕ) → Ran → Outcome
  after_first card seq c cs x = cond (eqb x.code 0) (commands_from channels h id p x.card (seq + 1) cs) (writes card (failure_of h x.code id seq c))

  first_alike_by : (card : Card) (seq : ℕ) (c c' : List ℕ) (cs cs' : List (List ℕ)) → Alike (content 0x0011) c c'
      → ((k : Card) → SameOutcome (commands_from channels h id p k (seq + 1) cs) (commands_from channels h id p k (seq + 1) cs'))
      → (x : Ran) → SameOutcome (after_first card seq c cs x) (after_first card seq c' cs' x)
  first_alike_by card seq c c' cs cs' i f x =
      by-same (eqb x.code 0) (f x.card) (record { card = refl; number = refl; reply = failed h x.code id seq i })

  commands_alike : (cs cs' : List (List ℕ)) → AlikeAll 0x0011 cs cs' → (card : Card) (seq : ℕ)
      → SameOutcome (commands_from channels h id p card seq cs) (commands_from channels h id p card seq cs')
  unfolding commands_from
  commands_alike _ _ no_contents card seq = as_equal refl
  commands_alike _ _ (one_content {c} {c'} {cs} {cs'} i a) card seq =
      let e : ran_of channels card p c ≡ ran_of channels card p c' = rw (order_same i refl) in
      subst (λ (x : Ran). SameOutcome (after_first card seq c cs (ran_of channels card p c)) (after_first card seq c' cs' x)) e
      (first_alike_by card seq c c' cs cs' i (λ k. commands_alike cs cs' a k (seq + 1)) (ran_of channels card p c))

-- ---- a message with header h, whose TLVs are alike
module _ (ids channels : List ℕ) (card : Card) (h : Header) {s s' : List ℕ} (a : Alike tlvs s s') where
  items : AlikeItems (items_of s) (items_of s')
  items = items_alike a

  same_id : id_in s ≡ id_in s'
  unfolding id_in
  same_id = (ids-same (first_alike 0x1000 items) refl).1

  alike_faults : AlikeItems (faults h.kind s) (faults h.kind s')
  alike_faults = faults_alike (rules_of h.kind) (items_of s) (items_of s') items []

  named_same : named_rows ids card h.kind s ≡ named_rows ids card h.kind s'
  unfolding named_rows
  named_same = rw (missing-same (rules_of h.kind) items, items-length alike_faults, same_id)

  table_same : table_of ids card h s ≡ table_of ids card h s'
  unfolding table_of
  table_same = rw (list_same a (depth_of h.result) false, named_same)

  -- a row's refusal
  copy_alike : (is is' : List Item) → AlikeItems is is' → SameReply (refusal_of h 0x55 (copy_of is)) (refusal_of h 0x55 (copy_of is'))
  unfolding copy_of
  copy_alike _ _ no_items = equal
  copy_alike _ _ (one_more i b) = fault h i

  equal_by : {w w' : List ℕ} → w ≡ w' → SameReply w w'
  equal_by {w} e = subst (SameReply w) e equal

  row_by : (code : ℕ) (x y : Bool) → eqb code 0x55 ≡ y
      → (m m' r r' : List ℕ) → m ≡ m' → r ≡ r'
      → SameReply (refusal_of h code (cond x m (cond y (copy_of (faults h.kind s)) r))) (refusal_of h code (cond x m' (cond y (copy_of (faults h.kind s')) r')))
  row_by code true y e m m' r r' f g = equal_by (ap (refusal_of h code) f)
  row_by code false true e m m' r r' f g =
      subst (λ (k : ℕ). SameReply (refusal_of h k (copy_of (faults h.kind s))) (refusal_of h k (copy_of (faults h.kind s')))) (sym (eqb-true code 0x55 e))
      (copy_alike _ _ alike_faults)
  row_by code false false e m m' r r' f g = equal_by (ap (refusal_of h code) g)

  row_alike : (code : ℕ) → SameReply (refused_of h s code) (refused_of h s' code)
  unfolding enclosed_of
  row_alike code =
      row_by code (eqb code 0x54) (eqb code 0x55) refl _ _ _ _ (ap bares (missing-same (rules_of h.kind) items))
      (ap (λ (id : List ℕ). cond (eqb code 0x500 || eqb code 0x6) (target_of id) []) same_id)

  -- past the table
  type_alike : (p : ℕ) → SameOutcome (by_type ids channels card h s p) (by_type ids channels card h s' p)
  unfolding by_type controlled
  type_alike p =
      by-same (eqb h.kind 144) (commands_alike channels h (id_at ids p) p _ _ (of_alike 0x0011 items) card 1)
      (by-same (eqb h.kind 146)
      (as_equal (ap (λ (c : List ℕ). reallocated ids channels card h p (request_in c))
      (first-same 0x0016 items (λ k. omega arith) (λ k. omega arith) (λ k. omega arith))))
      (as_equal refl))

  requested_alike : (v : Result ℕ ℕ) → SameOutcome (requested ids channels card h s v) (requested ids channels card h s' v)
  unfolding requested
  requested_alike (Err code) = record { card = refl; number = refl; reply = row_alike code }
  requested_alike (Ok p) = type_alike p

  offered_alike : (v : Result ℕ ℕ) → SameOutcome (offered card h s v) (offered card h s' v)
  unfolding offered
  offered_alike (Err code) = as_equal refl
  offered_alike (Ok p) =
      as_equal (ap (λ (c : List ℕ). transferred card h p (allocation_in c)) (first-same 0x0015 items (λ k. omega arith) (λ k. omega arith) (λ k. omega arith)))

  result_alike : SameOutcome (by_result ids channels card h s) (by_result ids channels card h s')
  unfolding by_result
  result_alike =
      let v : Result ℕ ℕ = table_of ids card h s in
      by-same (eqb h.kind 147)
      (by-same (is_answer h.result)
      (subst (λ (x : Result ℕ ℕ). SameOutcome (offered card h s v) (offered card h s' x)) table_same (offered_alike v))
      (as_equal refl))
      (by-same (is_answer h.result) (as_equal refl)
      (by-same (is_notice h) (as_equal refl)
      (subst (λ (x : Result ℕ ℕ). SameOutcome (requested ids channels card h s v) (requested ids channels card h s' x)) table_same (requested_alike v))))

-- ---- whole messages
module _ (ids channels : List ℕ) (card : Card) (space : ℕ) where
  -- what a message comes to, where `o` is what its TLVs do
  abbrev by_tests : Bool → Bool → Outcome → Outcome
  by_tests size head o = cond (ltb space 4608) (keeps card 13) (cond size (cond head o (keeps card 15)) (keeps card 15))

  abbrev by_tlvs : List ℕ → Outcome
  by_tlvs m = by_result ids channels card (header_in m) (drop 16 m)

  received_is : (m : List ℕ) → received_of ids channels card m space ≡ by_tests (size_ok m) (usable m) (by_tlvs m)
  unfolding received_of head_in by_head
  received_is m = ap (λ (o : Outcome). cond (ltb space 4608) (keeps card 13) (cond (size_ok m) o (keeps card 15))) (go (usable m))
    where
      go : (b : Bool) → by_head ids channels card m (cond b (Some (header_in m)) None) ≡ cond b (by_tlvs m) (keeps card 15)
      go true = refl
      go false = refl

  module _ {m m' : List ℕ} (a : SameHeader m m') where
    -- another Result Code
    head-same : by_tlvs m ≡ by_result ids channels card (header_in m') (drop 16 m)
    head-same =
        ap (λ (h : Header). by_result ids channels card h (drop 16 m)) (same_header a)
        ∙ result-code (header_in m') (header_in m).code ids channels card (drop 16 m)

    tests_same : (o : Outcome) → by_tests (size_ok m) (usable m) o ≡ by_tests (size_ok m') (usable m') o
    tests_same o = ap₂ (λ (x y : Bool). by_tests x y o) (same_size a) (same-usable a)

    same_code : drop 16 m ≡ drop 16 m' → received_of ids channels card m space ≡ received_of ids channels card m' space
    same_code e =
        received_is m
        ∙ tests_same (by_tlvs m)
        ∙ ap (by_tests (size_ok m') (usable m')) (head-same ∙ ap (by_result ids channels card (header_in m')) e)
        ∙ sym (received_is m')

    tests_alike : (x y : Bool) (o o' : Outcome) → SameOutcome o o' → SameOutcome (by_tests x y o) (by_tests x y o')
    tests_alike x y o o' f = by-same (ltb space 4608) (as_equal refl) (by-same x (by-same y f (as_equal refl)) (as_equal refl))

    same_octets : Alike tlvs (drop 16 m) (drop 16 m') → SameOutcome (received_of ids channels card m space) (received_of ids channels card m' space)
    same_octets t =
        subst (SameOutcome (received_of ids channels card m space)) (sym (received_is m'))
        (subst (λ (o : Outcome). SameOutcome o (by_tests (size_ok m') (usable m') (by_tlvs m')))
        (sym (received_is m ∙ tests_same (by_tlvs m) ∙ ap (by_tests (size_ok m') (usable m')) head-same))
        (tests_alike (size_ok m') (usable m') _ _ (result_alike ids channels card (header_in m') t)))

pub unread : Unread
unread =
    record {
      code = λ ids channels card m m' space a e. same_code ids channels card space a e;
      octets = λ ids channels card m m' space a t. same_octets ids channels card space a t;
    }
