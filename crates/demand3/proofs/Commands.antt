-- The commands of a 144 on port p, in order up to the first that fails.
--     ran                            how many act
--     Told, Tells, commands_tell     what the reply tells of them: all acted, or which failed
--     acted-told                     what the ledger reads of it
-- Assumes nothing.
use Prim.Native.Nat.{ℕ, suc, ◌+◌, ◌-◌, ◌≤◌, ◌<◌}
use mathlib.Core.Path.{◌≡◌, refl, sym, ap, ◌∙◌}
use mathlib.Core.Bool.{Bool, true, false, cond}
use mathlib.Core.List.{List, [], ◌∷◌, ◌++◌}
use native.Mathlib.Omega.{arith}
use lib.ListN.{length, take}
use lib.Seq.{take-length}
use lib.Dec.{eqb}
use borrow.Author.Tests.{eq-eqb, ne_eqb}
use Rattle.header.specs.declared.Header.{Header}
use Rattle.items.specs.Items.{count_of, first_of}
use Rattle.fields.specs.Fields.{sequence_in}
use Rattle.writers.specs.Tlvs.{tlv_of, target_of, sequence_of}
use Rattle.replies.specs.Replies.{success_of}
use Rattle.card.specs.Cards.{Card}
use Rattle.card.specs.Outcome.{Outcome, becomes, writes}
use Rattle.commands.specs.Commands.{ran_of}
use Rattle.control.specs.Control.{failure_of, all_good, commands_from}
use Rattle.demand3.specs.Reads.{kind_in, result_in, enclosed_in}
use Rattle.demand3.specs.Ledger.{acted_in}
use Rattle.demand3.proofs.Replies.{kind-none, result-none, kind-refusal, result-refusal, kind_success, result_success, count_failure, sequence_failure}
use Rattle.demand3.proofs.Views.{Other}

-- how many of some commands act: those before the first that fails
unfoldable pub ran : List ℕ → ℕ → Card → List (List ℕ) → ℕ
ran channels p card [] = 0
ran channels p card (c ∷ cs) = cond (eqb (ran_of channels card p c).code 0) (suc (ran channels p (ran_of channels card p c).card cs)) 0

-- ---- what a reply tells of `size` commands, of which the first is number seq: n of them acted
pub data Told (reply : List ℕ) (seq size n : ℕ) : Type 0 where
  all : Other (result_in reply) 4 → n ≡ size → Told reply seq size n
  failed : result_in reply ≡ 4 → count_of 0x0022 (enclosed_in reply) ≡ 1 → sequence_in (first_of 0x0022 (enclosed_in reply)) ≡ seq + n → n < size
      → Told reply seq size n

pub record Tells (o : Outcome) (seq size n : ℕ) : Type 0 where
  pub number : o.number ≡ 0
  -- a Generic Response (91), or nothing
  pub generic : kind_in o.reply < 144
  pub told : Told o.reply seq size n

told_next : (reply : List ℕ) (seq size n : ℕ) → Told reply (seq + 1) size n → Told reply seq (suc size) (suc n)
told_next reply seq size n (all r e) = all r (ap suc e)
told_next reply seq size n (failed r c s l) = failed r c (omega arith) (omega arith)

tells_next : (o : Outcome) (seq size n : ℕ) → Tells o (seq + 1) size n → Tells o seq (suc size) (suc n)
tells_next o seq size n t = record { number = t.number; generic = t.generic; told = told_next o.reply seq size n t.told }

pub told_size : {reply : List ℕ} {seq size n : ℕ} → Told reply seq size n → n ≤ size
told_size (all r e) = omega arith
told_size (failed r c s l) = omega arith

module _ (h : Header) (card : Card) (seq : ℕ) where
  good_tells : Tells (all_good h card) seq 0 0
  unfolding all_good
  good_tells = go (eqb h.result 2)
    where
      go : (b : Bool) → Tells (cond b (writes card (success_of h)) (becomes card)) seq 0 0
      go true =
          record { number = refl; generic = omega (arith, kind_success h); told = all (λ e. omega (arith, result_success h)) refl }
      go false = record { number = refl; generic = omega (arith, kind-none); told = all (λ e. omega (arith, result-none)) refl }

  failure_tells : (code : ℕ) (id c : List ℕ) (size : ℕ) → Tells (writes card (failure_of h code id seq c)) seq (suc size) 0
  unfolding failure_of
  failure_tells code id c size =
      record {
        number = refl;
        generic = omega (arith, kind-refusal h code (target_of id ++ sequence_of seq ++ tlv_of 0x0011 c));
        told = failed (result-refusal h code (target_of id ++ sequence_of seq ++ tlv_of 0x0011 c)) (count_failure h code id seq c) (omega (arith, sequence_failure h code id seq c)) (omega arith);
      }

module _ (channels : List ℕ) (h : Header) (id : List ℕ) (p : ℕ) where
  pub commands_tell : (card : Card) (seq : ℕ) (cs : List (List ℕ)) → Tells (commands_from channels h id p card seq cs) seq (length cs) (ran channels p card cs)
  unfolding commands_from ran
  commands_tell card seq [] = good_tells h card seq
  commands_tell card seq (c ∷ cs) = go (eqb (ran_of channels card p c).code 0) (commands_tell (ran_of channels card p c).card (seq + 1) cs)
    where
      next : Outcome
      next = commands_from channels h id p (ran_of channels card p c).card (seq + 1) cs

      many : ℕ
      many = ran channels p (ran_of channels card p c).card cs

      go : (b : Bool) → Tells next (seq + 1) (length cs) many
          → Tells (cond b next (writes card (failure_of h (ran_of channels card p c).code id seq c))) seq (suc (length cs)) (cond b (suc many) 0)
      go true t = tells_next next seq (length cs) many t
      go false t = failure_tells h card seq (ran_of channels card p c).code id c (length cs)

-- ---- what the ledger reads of it
pub acted-told : (reply : List ℕ) (cs : List (List ℕ)) (n : ℕ) → Told reply 1 (length cs) n → acted_in reply cs ≡ take n cs
unfolding acted_in
acted-told reply cs n (all r e) = rw (ne_eqb (result_in reply) 4 r) (sym (ap (λ (k : ℕ). take k cs) e ∙ take-length cs))
acted-told reply cs n (failed r c s l) =
    let k : sequence_in (first_of 0x0022 (enclosed_in reply)) - 1 ≡ n = omega (arith, s) in
    rw (eq-eqb (result_in reply) 4 r, ne_eqb (count_of 0x0022 (enclosed_in reply)) 0 (λ z. omega arith)) (ap (λ (i : ℕ). take i cs) k)
