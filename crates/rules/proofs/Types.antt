-- What the rules of a message type ask.
--     tried_any, tried-handled     what is tried on each line of the table holds of the rules of any type
--     handled-by                 a type is handled where it has a rule, as the code tells it
-- Assumes nothing.
use mathlib.Core.Path.{◌≡◌, refl}
use mathlib.Core.Bool.{Bool, true, false, cond, not, ◌&&◌, ◌||◌, false≢true}
use mathlib.Core.List.{List, [], ◌∷◌}
use Prim.Native.Nat.{ℕ}
use lib.ListN.{length}
use lib.Dec.{eqb}
use Rattle.octets.proofs.Tests.{both}
use Rattle.rules.specs.declared.Rule.{Rule}
use Rattle.rules.specs.Rules.{MessageType, types, is_among, rules_among, handled, rules_of}

-- ---- the table line by line
-- what is tried on each line of the table holds of the rules of any type: a line more needs no case here
module _ (test : List Rule → Bool) where
  unfoldable pub tried : List MessageType → Bool
  tried [] = true
  tried (t ∷ ts) = test t.rules && tried ts

  by : (b : Bool) {xs ys : List Rule} → test xs ≡ true → test ys ≡ true → test (cond b xs ys) ≡ true
  by true h k = h
  by false h k = k

  pub tried_any : (ts : List MessageType) (kind : ℕ) → tried ts ≡ true → test [] ≡ true → test (rules_among kind ts) ≡ true
  unfolding rules_among tried
  tried_any [] kind h n = n
  tried_any (t ∷ ts) kind h n = let k = both (test t.rules) (tried ts) h in by (eqb kind t.kind) k.0 (tried_any ts kind k.1 n)

  pub tried-handled : (ts : List MessageType) (kind : ℕ) → tried ts ≡ true → is_among kind ts ≡ true → test (rules_among kind ts) ≡ true
  unfolding rules_among is_among tried
  tried-handled [] kind h n = absurd (false≢true n)
  tried-handled (t ∷ ts) kind h n = let k = both (test t.rules) (tried ts) h in go (eqb kind t.kind) k.0 n (tried-handled ts kind k.1)
    where
      go : (b : Bool) → test t.rules ≡ true → (b || is_among kind ts) ≡ true → (is_among kind ts ≡ true → test (rules_among kind ts) ≡ true)
          → test (cond b t.rules (rules_among kind ts)) ≡ true
      go true p n f = p
      go false p n f = f n

-- a type is handled where it has a rule
by-rules : (ts : List MessageType) (kind : ℕ) → tried (λ rs. not (eqb (length rs) 0)) ts ≡ true → not (eqb (length (rules_among kind ts)) 0) ≡ is_among kind ts
unfolding tried rules_among is_among
by-rules [] kind h = refl
by-rules (t ∷ ts) kind h =
    let k = both (not (eqb (length t.rules) 0)) (tried (λ rs. not (eqb (length rs) 0)) ts) h in
    go (eqb kind t.kind) k.0 (by-rules ts kind k.1)
  where
    go : (b : Bool) → not (eqb (length t.rules) 0) ≡ true → not (eqb (length (rules_among kind ts)) 0) ≡ is_among kind ts
        → not (eqb (length (cond b t.rules (rules_among kind ts))) 0) ≡ (b || is_among kind ts)
    go true e f = e
    go false e f = f

pub handled-by : (kind : ℕ) → not (eqb (length (rules_of kind)) 0) ≡ handled kind
unfolding handled rules_of tried
handled-by kind = by-rules types kind refl
