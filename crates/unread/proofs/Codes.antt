-- The received Result Code is not read.
--     with_code          a header with another Result Code
--     result-code       what follows the header comes to the same with it
--     same_size, same-usable, same_header      of messages whose headers differ in it alone
-- Assumes nothing.
use Prim.Native.Nat.{ℕ, ◌+◌}
use mathlib.Core.Path.{◌≡◌, refl, ap, ap₂}
use mathlib.Core.Bool.{Bool, cond}
use mathlib.Core.List.{List, [], ◌∷◌}
use native.Mathlib.Omega.{arith}
use lib.Dec.{eqb}
use Rattle.std.specs.Prelude.{Result, Ok, Err}
use Rattle.octets.specs.Numbers.{be16}
use Rattle.header.specs.Bits.{result_of}
use Rattle.header.specs.declared.Header.{Header}
use Rattle.header.specs.Header.{size_ok, usable, header_in}
use Rattle.replies.specs.Replies.{refusal_of, success_of, amount_reply}
use Rattle.circuits.specs.Circuits.{id_at}
use Rattle.card.specs.Cards.{Card}
use Rattle.card.specs.Outcome.{Outcome, keeps}
use Rattle.checks.specs.Table.{table_of}
use Rattle.commands.specs.Commands.{ran_of}
use Rattle.control.specs.Control.{failure_of, all_good, commands_from, commands_in, controlled}
use Rattle.transfers.specs.Transfers.{transfer_fails, transfer_gives, reallocated, transferred}
use Rattle.queries.specs.Queries.{delegation_query, flow_query, flows_reply}
use Rattle.messages.specs.Messages.{is_answer, is_notice, by_type, requested, offered, by_result}
use Rattle.unread.specs.Alike.{SameHeader}

abbrev pub with_code : Header → ℕ → Header
with_code h n = record { kind = h.kind; result = h.result; code = n; partition = h.partition; transaction = h.transaction }

cond-first : (b : Bool) (x x' y : Outcome) → x ≡ x' → cond b x y ≡ cond b x' y
cond-first b x x' y e = ap (λ (o : Outcome). cond b o y) e

module _ (h : Header) (n : ℕ) (ids channels : List ℕ) where
  commands-code : (id : List ℕ) (p : ℕ) (card : Card) (seq : ℕ) (cs : List (List ℕ))
      → commands_from channels (with_code h n) id p card seq cs ≡ commands_from channels h id p card seq cs
  unfolding commands_from all_good failure_of refusal_of success_of
  commands-code id p card seq [] = refl
  commands-code id p card seq (c ∷ cs) =
      cond-first (eqb (ran_of channels card p c).code 0) _ _ _ (commands-code id p (ran_of channels card p c).card (seq + 1) cs)

  module _ (card : Card) (s : List ℕ) where
    type_code : (p : ℕ) → by_type ids channels card (with_code h n) s p ≡ by_type ids channels card h s p
    unfolding by_type controlled reallocated transfer_fails transfer_gives amount_reply delegation_query flow_query flows_reply
    type_code p = cond-first (eqb h.kind 144) _ _ _ (commands-code (id_at ids p) p card 1 (commands_in s))

    requested-code : (v : Result ℕ ℕ) → requested ids channels card (with_code h n) s v ≡ requested ids channels card h s v
    unfolding requested refusal_of
    requested-code (Err code) = refl
    requested-code (Ok p) = type_code p

    offered-code : (v : Result ℕ ℕ) → offered card (with_code h n) s v ≡ offered card h s v
    unfolding offered transferred
    offered-code (Err code) = refl
    offered-code (Ok p) = refl

    pub result-code : by_result ids channels card (with_code h n) s ≡ by_result ids channels card h s
    unfolding by_result table_of is_notice
    result-code =
        let v : Result ℕ ℕ = table_of ids card h s in
        ap₂ (λ (o q : Outcome). cond (eqb h.kind 147) (cond (is_answer h.result) o (keeps card 15)) (cond (is_answer h.result) (keeps card 15) (cond (is_notice h) (keeps card 0) q)))
        (offered-code v) (requested-code v)

-- ---- headers that differ in it alone
module _ {m m' : List ℕ} (a : SameHeader m m') where
  pub same_size : size_ok m ≡ size_ok m'
  unfolding size_ok
  same_size = rw a.size

  pub same-usable : usable m ≡ usable m'
  unfolding usable
  same-usable =
      rw (
        a.size,
        a.octets 0 (omega arith) (λ e. omega arith) (λ e. omega arith),
        a.octets 1 (omega arith) (λ e. omega arith) (λ e. omega arith),
        a.octets 2 (omega arith) (λ e. omega arith) (λ e. omega arith),
        a.octets 3 (omega arith) (λ e. omega arith) (λ e. omega arith),
        a.octets 4 (omega arith) (λ e. omega arith) (λ e. omega arith),
        a.octets 12 (omega arith) (λ e. omega arith) (λ e. omega arith),
        a.octets 13 (omega arith) (λ e. omega arith) (λ e. omega arith),
        a.octets 14 (omega arith) (λ e. omega arith) (λ e. omega arith),
        a.octets 15 (omega arith) (λ e. omega arith) (λ e. omega arith),
      )

  pub same_header : header_in m ≡ with_code (header_in m') (header_in m).code
  unfolding header_in
  same_header =
      let r : result_of (be16 m 6) ≡ result_of (be16 m' 6) = a.result in
      rw (
        r,
        a.octets 5 (omega arith) (λ e. omega arith) (λ e. omega arith),
        a.octets 8 (omega arith) (λ e. omega arith) (λ e. omega arith),
        a.octets 9 (omega arith) (λ e. omega arith) (λ e. omega arith),
        a.octets 10 (omega arith) (λ e. omega arith) (λ e. omega arith),
        a.octets 11 (omega arith) (λ e. omega arith) (λ e. omega arith),
      )
