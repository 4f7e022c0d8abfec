-- What a function on a lent pool does, of every card with its terms.
--     runs_ok, runs_err     the pool after it is y, and it succeeded, or failed with this code
--     runs_as               the command comes to the same as another
--     terms_lent, lent_as   what admission asks for
--     listed                the channel that was found
--     failed-keeps, runs_kept       a failed command changes nothing
-- Assumes nothing.
use Rattle.std.specs.Prelude.{Option, Some, None, Result, Ok, Err, is_err, ⊤}
use mathlib.Core.Path.{◌≡◌, refl, sym, ap, subst, ◌∙◌}
use mathlib.Core.Bool.{Bool, true, false, cond, false≢true}
use mathlib.Core.List.{List}
use Prim.Native.Nat.{ℕ}
use lib.Dec.{eqb}
use Rattle.flows.specs.declared.Flow.{Flow}
use Rattle.channels.specs.Channels.{channel_of}
use Rattle.ports.specs.declared.Port.{Port}
use Rattle.pool.specs.declared.Pool.{Pool}
use Rattle.pool.specs.Pool.{is_active, has_flow, began, ended_flow, accounted}
use Rattle.card.specs.Cards.{Card, with_pool}
use Rattle.card.specs.declared.Terms.{Terms}
use Rattle.card.specs.Parts.{HasTerms}
use Rattle.card.proofs.Parts.{channels_are, record_is}
use Rattle.joins.specs.Joins.{AsLent, admit_number}
use Rattle.commands.specs.Directives.{Directive, directive_of}
use Rattle.commands.specs.Directives.Directive.{malformed, add, delete, delete_all}
use Rattle.commands.specs.Commands.{Ran, fails, succeeds, add_new, add_row, delete_flow, carried_out, ran_of, ran_with, command_code, Runs}

module _ {ran : Card → Ran} {terms : Terms} {before after : Pool} where
  pub runs_ok : {y : Pool} → after ≡ y → ((card : Card) → HasTerms card terms.at terms → ran_with card y 0 ≡ ran (with_pool card before))
      → Runs ran terms before after (Ok tt)
  unfolding command_code
  runs_ok e f =
      record { each = λ card h. sym (ap (λ (z : Pool). ran_with card z 0) e ∙ f card h); fails = λ s z. absurd (false≢true (ap is_err s)) }

  pub runs_err : (code : ℕ) → (code ≡ 0 → ⊥) → {y : Pool} → after ≡ y → ((card : Card) → HasTerms card terms.at terms → ran_with card y code ≡ ran (with_pool card before))
      → Runs ran terms before after (Err code)
  unfolding command_code
  runs_err code n e f =
      record { each = λ card h. sym (ap (λ (z : Pool). ran_with card z code) e ∙ f card h); fails = λ s z. n (ap command_code s ∙ z) }

  pub runs_as : {other : Card → Ran} {r : Result ⊤ ℕ} → Runs other terms before after r
      → ((card : Card) → HasTerms card terms.at terms → other (with_pool card before) ≡ ran (with_pool card before)) → Runs ran terms before after r
  runs_as r f = record { each = λ card h. sym (f card h) ∙ r.each card h; fails = r.fails }

module _ {card : Card} {terms : Terms} (h : HasTerms card terms.at terms) where
  pub terms_lent : (pool : Pool) → AsLent (with_pool card pool) pool terms.at terms.port.delegation
  terms_lent pool = record { owner = refl; channel = refl; charged = refl; delegation = ap (λ (x : Port). x.delegation) (record_is h) }

  pub listed : (channels : List ℕ) (f : Flow) {found x : Option ℕ} → found ≡ channel_of channels terms.head.channel_count f → found ≡ x → channel_of channels card.head.channel_count f ≡ x
  listed channels f e t = ap (λ (n : ℕ). channel_of channels n f) (channels_are h) ∙ sym e ∙ t

-- what admission asks for, of a pool that was left as it was
pub lent_as : {card : Card} {pool same : Pool} {p amount : ℕ} → same ≡ pool → AsLent card pool p amount → AsLent card same p amount
lent_as {card} {p = p} {amount} e l = subst (λ (q : Pool). AsLent card q p amount) (sym e) l

-- ---- a failed command changes nothing
module _ (channels : List ℕ) (card : Card) (p : ℕ) where
  abbrev Kept : Ran → Type 0
  Kept r = (r.code ≡ 0 → ⊥) → r.card ≡ card

  kept_if : (b : Bool) (y z : Ran) → y.code ≡ 0 → Kept z → Kept (cond b y z)
  kept_if true y z e f n = absurd (n e)
  kept_if false y z e f n = f n

  kept_add : (accounting : ℕ) (found : Option ℕ) → Kept (add_row channels card p accounting found)
  unfolding add_row add_new
  kept_add accounting None n = refl
  kept_add accounting (Some k) n =
      kept_if (is_active card.pool p k) (succeeds (with_pool card (accounted card.pool p k accounting))) (add_new channels card p k accounting) refl
      (kept_if (eqb (admit_number channels card card.head.add_cac p k) 0) (succeeds (with_pool card (began card.pool p k card.head.add_cac accounting))) (fails card 0x13) refl (λ m. refl))
      n

  kept_delete : (f : Flow) → Kept (delete_flow channels card p f)
  unfolding delete_flow
  kept_delete f n = kept_if (has_flow channels card.pool p f) (succeeds (with_pool card (ended_flow channels card.pool p f))) (fails card 0x66) refl (λ m. refl) n

  pub failed-keeps : (o : Directive) → ((carried_out channels card p o).code ≡ 0 → ⊥) → (carried_out channels card p o).card ≡ card
  unfolding carried_out
  failed-keeps (malformed code) n = refl
  failed-keeps (add f accounting) n = kept_add accounting (channel_of channels card.head.channel_count f) n
  failed-keeps (delete f) n = kept_delete f n
  failed-keeps delete_all n = absurd (n refl)

-- so that the maps are as they were
pub runs_kept : (channels : List ℕ) (card : Card) (p : ℕ) (c : List ℕ) (before after : Pool) {code : ℕ}
    → ran_of channels (with_pool card before) p c ≡ ran_with card after code → (code ≡ 0 → ⊥) → after ≡ before
runs_kept channels card p c before after e n =
    sym (ap (λ (r : Ran). r.card.pool) e) ∙ ap (λ (x : Card). x.pool) (failed-keeps channels (with_pool card before) p (directive_of c) (λ z. n (sym (ap (λ (r : Ran). r.code) e) ∙ z)))
