-- Octets as hexadecimal text: what a text stands for, and where it is wrong. Assumes nothing: these are definitions.
use Rattle.std.specs.Prelude.{ℕ, suc, ◌+◌, ◌*◌, ◌-◌, ◌/◌, ◌%◌, cond, List, [], ◌∷◌, length, leb, ltb, eqb, Option, Some, None, Result, Ok, Err}
use Rattle.std.specs.List.{flat_map}
use Rattle.octets.specs.Writing.{over}
use Rattle.hexadecimal.specs.declared.ReadError.{ReadError}
use Rattle.hexadecimal.specs.declared.ReadError.TheVariants.{NoDigit, OddDigit, NoRoom}

-- the value of a digit, 0 to 9, A to F or a to f; 16 for what is none
unfoldable pub value_of : ℕ → ℕ
value_of x =
    cond (ltb x 48) 16 (cond (leb x 57) (x - 48)
    (cond (ltb x 65) 16 (cond (leb x 70) (x - 65 + 10)
    (cond (ltb x 97) 16 (cond (leb x 102) (x - 97 + 10) 16)))))

-- the value of a character that is a digit
unfoldable pub digit_of : ℕ → Option ℕ
digit_of x = cond (ltb (value_of x) 16) (Some (value_of x)) None

-- how many digits stand before the first character that is none
unfoldable pub digits_in : List ℕ → ℕ
digits_in [] = 0
digits_in (x ∷ s) = cond (ltb (value_of x) 16) (suc (digits_in s)) 0

-- the octets that pairs of digits stand for
unfoldable pub octets_in : List ℕ → List ℕ
octets_in [] = []
octets_in (a ∷ []) = []
octets_in (a ∷ b ∷ s) = (value_of a * 16 + value_of b) ∷ octets_in s

-- what a text comes to where there is room for so many octets; else the place of the first character that is no digit, of
-- the last digit where it has no other, or of the first digit for which there is no room
unfoldable pub reading_of : List ℕ → ℕ → Result ℕ ReadError
reading_of s space =
    cond (ltb (digits_in s) (length s)) (Err (NoDigit (digits_in s)))
    (cond (eqb (length s % 2) 1) (Err (OddDigit (length s - 1)))
    (cond (ltb space (length s / 2)) (Err (NoRoom (space * 2))) (Ok (length s / 2))))

-- what the buffer then holds: the octets over its start, or what it held
unfoldable pub left_by : Result ℕ ReadError → List ℕ → List ℕ → List ℕ
left_by (Ok n) s buf = over (octets_in s) buf
left_by (Err e) s buf = buf

-- a digit in capitals, and the digits of octets one after another
abbrev pub capital : ℕ → ℕ
capital d = cond (ltb d 10) (48 + d) (55 + d)

abbrev pub text_of : List ℕ → List ℕ
text_of xs = flat_map (λ x. capital (x / 16) ∷ capital (x % 16) ∷ []) xs
