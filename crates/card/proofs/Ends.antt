-- What a function that comes to an outcome shows of its answer and of the buffer that it is lent. Assumes nothing.
use mathlib.Core.Path.{◌≡◌, sym, ap, subst}
use mathlib.Core.List.{List}
use Prim.Native.Nat.{ℕ}
use Rattle.octets.specs.Writing.{Wrote}
use Rattle.octets.proofs.Writing.{over_none}
use Rattle.card.specs.Cards.{Card}
use Rattle.card.specs.Outcome.{Done, Outcome, keeps, writes, done_of, Ends}

-- what another call came to
pub ends_as : {o q : Outcome} {r : Done} {before after : List ℕ} → Ends q r before after → q ≡ o → Ends o r before after
ends_as {o} {q} {r} {before} {after} h k = subst (λ (x : Outcome). Ends x r before after) k h

-- nothing is written: the number and the card alone
pub ends-kept : {o : Outcome} {r : Done} (card : Card) (n : ℕ) (b : List ℕ) → r ≡ done_of (keeps card n) → keeps card n ≡ o → Ends o r b b
ends-kept card n b e k = ends_as (record { gives = e; text = over_none b }) k

-- a message of n octets is written
abbrev pub made : Card → ℕ → ℕ → Done
made card number n = record { card = card; number = number; length = n }

pub ends_wrote : (card : Card) (number : ℕ) {w before after : List ℕ} {n : ℕ} → Wrote w n before after
    → Ends (record { card = card; number = number; reply = w }) (made card number n) before after
ends_wrote card number h = record { gives = ap (made card number) h.size; text = h.text }

pub ends-writes : (card : Card) {r : Done} {w v before after : List ℕ} {n : ℕ} → r ≡ made card 0 n → Wrote w n before after → w ≡ v
    → Ends (writes card v) r before after
ends-writes card {r} {w} {v} {before} {after} e h k =
    subst (λ (d : Done). Ends (writes card v) d before after) (sym e) (ends_as (ends_wrote card 0 h) (ap (writes card) k))
