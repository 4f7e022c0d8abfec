-- What a call on the parts of a card comes to that writes a message. Assumes nothing.
use mathlib.Core.Path.{◌≡◌, sym, ap, ap₂, ◌∙◌}
use mathlib.Core.List.{List}
use Prim.Native.Nat.{ℕ, ◌<◌}
use Rattle.octets.specs.Writing.{Wrote}
use Rattle.flows.specs.declared.Flow.{Flow}
use Rattle.circuits.specs.Circuits.{id_at}
use Rattle.ports.specs.declared.Taken.{Taken}
use Rattle.ports.specs.declared.Change.TheVariants.{Kept, Asked}
use Rattle.ports.specs.Ports.{changed_by}
use Rattle.ports.specs.Transactions.{taken_from}
use Rattle.pool.specs.declared.Pool.{Pool}
use Rattle.begun.specs.Begun.{admission_of, reallocation_of}
use Rattle.card.specs.Cards.{Card, counted, with_pool, with_head, with_counter}
use Rattle.card.specs.declared.Terms.{Terms}
use Rattle.card.specs.declared.CardHead.{CardHead}
use Rattle.card.specs.Parts.{HasTerms, changed_at, ComesTo}
use Rattle.card.proofs.Parts.{head_is, kept_at, comes}
use Rattle.joins.specs.Joins.{grey_of}
use Rattle.joins.specs.Asks.{asked_of}

-- t is what the counter gave
of_card : {card : Card} {p : ℕ} {terms : Terms} {t : Taken} → t ≡ taken_from terms.head.counter → HasTerms card p terms → t ≡ taken_from card.head.counter
of_card et h = et ∙ ap (λ (k : CardHead). taken_from k.counter) (sym (head_is h))

-- and id the port's circuit id
module _ (ids : List ℕ) (p : ℕ) {terms : Terms} {t : Taken} {id : List ℕ} {n : ℕ} {before after : List ℕ} (et : t ≡ taken_from terms.head.counter) (ei : id ≡ id_at ids p) (pool : Pool) where
  pub grey_comes : (f : Flow) → Wrote (admission_of t.number id f) n before after
      → ComesTo (λ card. grey_of ids card p f) p terms pool pool (record { number = 2; length = n; head = counted terms.head t.next; change = Kept }) before after
  unfolding grey_of
  grey_comes f w = comes w (λ card h.
      ap₂ (λ (c : Card) (k : CardHead). record { card = with_head c (counted k t.next); number = 2; reply = admission_of t.number id f }) (kept_at (with_pool card pool) terms.at) (sym (head_is h))
      ∙ ap₂ (λ (x : Taken) (i : List ℕ). record { card = with_counter (with_pool card pool) x.next; number = 2; reply = admission_of x.number i f }) (of_card et h) ei)

  pub asked-comes : p < 64 → (required preferred : ℕ) → Wrote (reallocation_of t.number id required preferred) n before after
      → ComesTo (λ card. asked_of ids card p required preferred) p terms pool pool (record { number = 0; length = n; head = counted terms.head t.next; change = Asked required preferred t.number }) before after
  unfolding asked_of changed_by
  asked-comes l required preferred w = comes w (λ card h.
      ap₂ (λ (at : ℕ) (k : CardHead). record { card = with_head (changed_at (with_pool card pool) at (Asked required preferred t.number)) (counted k t.next); number = 0; reply = reallocation_of t.number id required preferred }) (h.place l) (sym (head_is h))
      ∙ ap₂ (λ (x : Taken) (i : List ℕ). record { card = with_counter (changed_at (with_pool card pool) p (Asked required preferred x.number)) x.next; number = 0; reply = reallocation_of x.number i required preferred }) (of_card et h) ei)
