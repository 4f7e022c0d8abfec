-- Laws of hexadecimal text.
--     found, none_found           what the place of the first character that is no digit says of the digits
--     all_digits                  in a text of digits alone, each is one
--     length-octets, octet_at     how many octets n pairs stand for, and which
--     no_digit, odd_digit, no_room, octets    what a text comes to, case by case
--     text_more                   what one octet more prints
-- Assumes nothing.
use Prim.Native.Nat.{ℕ, zero, suc, ◌+◌, ◌*◌, ◌-◌, ◌/◌, ◌%◌, ◌≤◌, ◌<◌}
use mathlib.Core.Path.{◌≡◌, refl, ap, ap₂, ◌∙◌}
use mathlib.Core.Bool.{Bool, true, false, cond}
use mathlib.Core.List.{List, [], ◌∷◌, ◌++◌}
use native.Mathlib.Omega.{arith}
use lib.Dec.{ltb}
use lib.ListN.{length, take, get_or}
use borrow.Author.Tests.{lt-ltb, le-ltb, ltb-true, ltb-false, eq-eqb, ne_eqb}
use Rattle.hexadecimal.specs.Hex.{value_of, digit_of, digits_in, octets_in, reading_of, capital, text_of}
use Rattle.std.specs.Prelude.{Ok, Err, Some, None}
use Rattle.std.specs.Option.{is_none, unwrap_or}
use Rattle.std.specs.List.{position_or_len, position}
use Rattle.std.proofs.Common.{nat_lt, sym}
use Rattle.std.proofs.lemmas.Grind.{common_steps}
use Rattle.std.proofs.lemmas.List.Recursion.{is_position_or_len}
use Rattle.hexadecimal.specs.declared.ReadError.TheVariants.{NoDigit, OddDigit, NoRoom}

digits_or_none : (x : ℕ) (xs : List ℕ) → digits_in (x ∷ xs) ≡ cond (is_none (digit_of x)) 0 (1 + digits_in xs)
unfolding digits_in digit_of
digits_or_none x xs = go (ltb (value_of x) 16)
  where
    go : (b : Bool) → cond b (suc (digits_in xs)) 0 ≡ cond (is_none (cond b (Some (value_of x)) None)) 0 (1 + digits_in xs)
    go true = omega arith
    go false = refl

abbrev other : ℕ → Bool
other x = is_none (digit_of x)

digits_position : (s : List ℕ) → digits_in s ≡ position_or_len other s
digits_position = is_position_or_len digits_in other (unfold digits_in in refl) digits_or_none

-- where the first character that is no digit stands
pub found : (s : List ℕ) (at : ℕ) → Some at ≡ position other s → (at ≡ digits_in s) × (at < length s)
found s at e = go (nat_lt (position_or_len other s) (length s)) refl e
  where
    go : (b : Bool) → nat_lt (position_or_len other s) (length s) ≡ b → Some at ≡ cond b (Some (position_or_len other s)) None
        → (at ≡ digits_in s) × (at < length s)
    go true t e = let same = ap (λ o. unwrap_or o 0) e in
        (same ∙ sym (digits_position s), let k = ltb-true (position_or_len other s) (length s) t in omega arith)
    go false t e = absurd (cc e)

pub none_found : (s : List ℕ) → None ≡ position other s → length s ≤ digits_in s
none_found s e = go (nat_lt (position_or_len other s) (length s)) refl e
  where
    go : (b : Bool) → nat_lt (position_or_len other s) (length s) ≡ b → None ≡ cond b (Some (position_or_len other s)) None
        → length s ≤ digits_in s
    go true t e = absurd (cc e)
    go false t e = let k = ltb-false (position_or_len other s) (length s) t in omega (arith, digits_position s)

pub all_digits : (s : List ℕ) (i : ℕ) → digits_in s ≡ length s → i < length s → value_of (get_or s i 0) < 16
unfolding digits_in
all_digits [] i e h = absurd (omega arith)
all_digits (x ∷ s) i e h = go (ltb (value_of x) 16) refl (λ j. all_digits s j) i e h
  where
    go : (b : Bool) → ltb (value_of x) 16 ≡ b → ((j : ℕ) → digits_in s ≡ length s → j < length s → value_of (get_or s j 0) < 16)
        → (i : ℕ) → cond (ltb (value_of x) 16) (suc (digits_in s)) 0 ≡ suc (length s) → i < suc (length s) → value_of (get_or (x ∷ s) i 0) < 16
    go true t more zero e h = ltb-true (value_of x) 16 t
    go true t more (suc i) e h = more i (let k = rw t at e in omega arith) (omega arith)
    go false t more i e h = absurd (let k = rw t at e in omega arith)

pub length-octets : (s : List ℕ) (n : ℕ) → length s ≡ n + n → length (octets_in s) ≡ n
unfolding octets_in
length-octets [] n e = omega arith
length-octets (a ∷ []) n e = absurd (omega arith)
length-octets (a ∷ b ∷ s) zero e = absurd (omega arith)
length-octets (a ∷ b ∷ s) (suc n) e = ap suc (length-octets s n (omega arith))

pub octet_at : (s : List ℕ) (i : ℕ) → i + i + 1 < length s
    → value_of (get_or s (i + i) 0) * 16 + value_of (get_or s (i + i + 1) 0) ≡ get_or (octets_in s) i 0
unfolding octets_in
octet_at [] i h = absurd (omega arith)
octet_at (a ∷ []) i h = absurd (omega arith)
octet_at (a ∷ b ∷ s) zero h = refl
octet_at (a ∷ b ∷ s) (suc i) h =
    let first : suc i + suc i ≡ suc (suc (i + i)) = omega arith in
    let second : suc i + suc i + 1 ≡ suc (suc (i + i + 1)) = omega arith in
    ap₂ (λ (x y : ℕ). value_of (get_or (a ∷ b ∷ s) x 0) * 16 + value_of (get_or (a ∷ b ∷ s) y 0)) first second
    ∙ octet_at s i (omega arith)

pub digits_le : (s : List ℕ) → digits_in s ≤ length s
unfolding digits_in
digits_le [] = omega arith
digits_le (x ∷ s) = go (ltb (value_of x) 16) (digits_le s)
  where
    go : (b : Bool) → digits_in s ≤ length s → cond b (suc (digits_in s)) 0 ≤ suc (length s)
    go true h = omega arith
    go false h = omega arith

-- ---- what a text comes to, case by case
module _ (s : List ℕ) (space : ℕ) where
  pub no_digit : (d : ℕ) → d ≡ digits_in s → d < length s → Err (NoDigit d) ≡ reading_of s space
  unfolding reading_of
  no_digit d e h = rw e (simp (lt-ltb (digits_in s) (length s) (omega arith)))

  module _ (h : length s ≤ digits_in s) where
    pub odd_digit : length s % 2 ≡ 1 → Err (OddDigit (length s - 1)) ≡ reading_of s space
    unfolding reading_of
    odd_digit k = simp (le-ltb (digits_in s) (length s) h, eq-eqb (length s % 2) 1 k)

    module _ (k : length s % 2 ≡ 1 → ⊥) where
      pub no_room : space < length s / 2 → Err (NoRoom (space * 2)) ≡ reading_of s space
      unfolding reading_of
      no_room l = simp (le-ltb (digits_in s) (length s) h, ne_eqb (length s % 2) 1 k, lt-ltb space (length s / 2) l)

      pub octets : length s / 2 ≤ space → Ok (length s / 2) ≡ reading_of s space
      unfolding reading_of
      octets l = simp (le-ltb (digits_in s) (length s) h, ne_eqb (length s % 2) 1 k, le-ltb space (length s / 2) l)

-- ---- what octets print as
pub text_more : (xs : List ℕ) (i : ℕ) → i < length xs
    → text_of (take i xs) ++ (capital (get_or xs i 0 / 16) ∷ capital (get_or xs i 0 % 16) ∷ []) ≡ text_of (take (i + 1) xs)
text_more xs i h = grind (arith, common_steps)
