-- What a call comes to that another function ended. Assumes nothing.
use mathlib.Core.Path.{◌≡◌, refl, sym, ap, subst, ◌∙◌}
use mathlib.Core.List.{List}
use Prim.Native.Nat.{ℕ}
use Rattle.octets.specs.Writing.{Wrote}
use Rattle.ports.specs.declared.Change.TheVariants.{Kept}
use Rattle.pool.specs.declared.Pool.{Pool}
use Rattle.card.specs.Cards.{Card, with_pool, with_head}
use Rattle.card.specs.Outcome.{Done, Outcome, writes, Ends}
use Rattle.card.specs.declared.Terms.{Terms}
use Rattle.card.specs.declared.Effect.{Effect}
use Rattle.card.specs.declared.CardHead.{CardHead}
use Rattle.card.specs.Parts.{changed_at, done_with, ComesTo}
use Rattle.card.proofs.Ends.{made, ends_as, ends-writes}
use Rattle.card.proofs.Parts.{head_is, kept_at}
use Rattle.control.specs.Control.{wrote, Controls}

-- a writer wrote the reply, and r tells how many octets
pub ends-written : {o : Outcome} {r : Done} (card : Card) {w before after : List ℕ} {n : ℕ} → Wrote w n before after
    → r ≡ made card 0 n → writes card w ≡ o → Ends o r before after
ends-written card h e k = ends_as (ends-writes card e h refl) k

-- the buffer was as at the start
pub ends_from : {o : Outcome} {r : Done} {b before after : List ℕ} → b ≡ before → Ends o r b after → Ends o r before after
ends_from {o} {r} {b} {before} {after} e h = subst (λ (l : List ℕ). Ends o r l after) e h

-- r is what was given
pub ends_by : {o : Outcome} {r d : Done} {before after : List ℕ} → Ends o d before after → r ≡ d → Ends o r before after
ends_by h e = record { gives = e ∙ h.gives; text = h.text }

-- the commands ran on the lent maps, and no port's record changes
pub comes-controlled : {o : Card → Outcome} {terms : Terms} {before after : Pool} {n : ℕ} {text written : List ℕ} → Controls o terms before after n text written
    → {r : Effect} → r ≡ record { number = 0; length = n; head = terms.head; change = Kept } → ComesTo o terms.at terms before after r text written
comes-controlled {terms = terms} {after = after} {n} g e = record {
  each =
      λ card h.
      ends_by (g.each card h)
      (ap (done_with card terms.at after) e
      ∙ ap (λ (k : CardHead). wrote (with_head (changed_at (with_pool card after) terms.at Kept) k) n) (sym (head_is h))
      ∙ ap (λ (x : Card). wrote x n) (kept_at (with_pool card after) terms.at));
}
