-- Equal leading bits: against a prefix, and as the leading zeros of a xor.
--     same_asked       the first n of two lists are the same: of those that are, there are n, or all
--     first-zeros      of two words' k bits so many are equal as their xor has leading zeros
--     prefix_laws      what specs/EqualBits.antt states
-- Assumes nothing.
use Prim.Native.Nat.{ℕ, zero, suc, ◌+◌, ◌*◌, ◌/◌, ◌%◌, ◌^◌, ◌≤◌, ◌<◌, min}
use mathlib.Core.Path.{◌≡◌, refl, sym, ap, ap₂, ◌∙◌}
use mathlib.Core.Bool.{Bool, true, false, cond, ◌&&◌}
use mathlib.Core.List.{List, [], ◌∷◌, ◌++◌, append-nil}
use lib.ListN.{length, take, length-append}
use lib.Seq.{take_all}
use lib.Dec.{eqb, leb, leb-zero, leb-suc-zero, leb-suc-suc}
use lib.Pow.{pow_pos, mod-pow-add}
use lib.Bits.{bit_xor, xor_lt, xor_shr, xor_add_and, and_le_l, and_le_r}
use lib.Count.{count_leading_zeros, leading_length, leading_unique}
use native.Mathlib.Nat.{mod-lt, mod-eq_of_lt, pow-suc, zero-min, min-zero, suc-min-suc, min-eq_left, le_refl}
use native.Mathlib.Omega.{arith}
use borrow.Author.Tests.{eqb-true, eq-eqb, leb-true}
use Rattle.octets.proofs.Tests.{same_by}
use Rattle.flows.specs.Words.{same}
use Rattle.flows.proofs.Same.{same_refl}
use Rattle.lists.specs.Prefix.{bits, bits_of, prefix_matches}
use Rattle.lists.specs.EqualBits.{same_first, equal_bits, PrefixLaws}

-- ---- lists of bits
pub length-bits : (k x : ℕ) → length (bits k x) ≡ k
unfolding bits
length-bits zero x = refl
length-bits (suc k) x = ap suc (length-bits k x)

length-bits_of : (a : List ℕ) → length (bits_of a) ≡ 32 * length a
unfolding bits_of
length-bits_of [] = refl
length-bits_of (x ∷ xs) = length-append (bits 32 x) (bits_of xs) ∙ omega (arith, length-bits 32 x, length-bits_of xs)

same_asked : (n : ℕ) (xs ys : List ℕ) → length xs ≡ length ys → same (take n xs) (take n ys) ≡ leb (min n (length xs)) (same_first xs ys)
unfolding same same_first
same_asked zero xs ys e = sym (rw zero-min (leb-zero (same_first xs ys)))
same_asked (suc n) [] [] e = rw min-zero refl
same_asked (suc n) [] (y ∷ ys) e = absurd (omega arith)
same_asked (suc n) (x ∷ xs) [] e = absurd (omega arith)
same_asked (suc n) (x ∷ xs) (y ∷ ys) e =
    ap (λ (t : Bool). eqb x y && t) (same_asked n xs ys (omega arith))
    ∙ one_more (eqb x y) (min n (length xs)) (same_first xs ys)
    ∙ ap (λ (m : ℕ). leb m (cond (eqb x y) (suc (same_first xs ys)) 0)) (sym (suc-min-suc n (length xs)))
  where
    one_more : (t : Bool) (m s : ℕ) → (t && leb m s) ≡ leb (suc m) (cond t (suc s) 0)
    one_more true m s = sym (leb-suc-suc m s)
    one_more false m s = sym (leb-suc-zero m)

pub first_le : (xs ys : List ℕ) → same_first xs ys ≤ length xs
unfolding same_first
first_le [] ys = omega arith
first_le (x ∷ xs) [] = omega arith
first_le (x ∷ xs) (y ∷ ys) = go (eqb x y) (first_le xs ys)
  where
    go : (t : Bool) → same_first xs ys ≤ length xs → cond t (suc (same_first xs ys)) 0 ≤ suc (length xs)
    go true h = omega arith
    go false h = omega arith

first-append : (p q r s : List ℕ) → length p ≡ length q → same_first (p ++ r) (q ++ s) ≡ cond (same p q) (length p + same_first r s) (same_first p q)
unfolding same same_first
first-append [] [] r s e = let z : same_first r s ≡ 0 + same_first r s = omega arith in z
first-append [] (y ∷ q) r s e = absurd (omega arith)
first-append (x ∷ p) [] r s e = absurd (omega arith)
first-append (x ∷ p) (y ∷ q) r s e =
    ap (λ (n : ℕ). cond (eqb x y) (suc n) 0) (first-append p q r s (omega arith)) ∙ go (eqb x y) (same p q)
  where
    go : (t u : Bool) → cond t (suc (cond u (length p + same_first r s) (same_first p q))) 0 ≡ cond (t && u) (suc (length p) + same_first r s) (cond t (suc (same_first p q)) 0)
    go true true = omega arith
    go true false = refl
    go false u = refl

-- ---- the leading zeros of a xor

-- a number with one digit d above its k digits
above : (k d y : ℕ) → d < 2 → y < 2 ^ k → cond (eqb d 0) (suc (count_leading_zeros k y)) 0 ≡ count_leading_zeros (suc k) (d * 2 ^ k + y)
above k zero y hd h =
    let s = leading_length k y h in
    let e : y ≡ 0 * 2 ^ k + y = omega arith in
    leading_unique (suc k) y (suc (count_leading_zeros k y)) s.0 (omega (arith, s.1)) s.2 s.3 ∙ ap (count_leading_zeros (suc k)) e
above k (suc zero) y hd h = leading_unique (suc k) (1 * 2 ^ k + y) 0 (suc k) (omega arith) (omega (arith, pow-suc 2 k)) (omega (arith, pow-suc 2 k))
above k (suc (suc d)) y hd h = absurd (omega arith)

-- two digits are equal where that of the xor is 0
low_digit : (x y : ℕ) → eqb (x % 2) (y % 2) ≡ eqb (bit_xor x y % 2) 0
low_digit x y =
    same_by _ _
    (λ h. eq-eqb (bit_xor x y % 2) 0 (omega (arith, eqb-true (x % 2) (y % 2) h, xor_add_and x y)))
    (λ h. eq-eqb (x % 2) (y % 2) (omega (arith, eqb-true (bit_xor x y % 2) 0 h, xor_add_and x y)))

first-zeros : (k x y : ℕ) → same_first (bits k x) (bits k y) ≡ count_leading_zeros k (bit_xor x y % 2 ^ k)
unfolding same_first bits count_leading_zeros
first-zeros zero x y = refl
first-zeros (suc k) x y =
    let z = bit_xor x y in
    ap (λ (n : ℕ). cond (eqb (x / 2 ^ k % 2) (y / 2 ^ k % 2)) (suc n) 0) (first-zeros k x y)
    ∙ ap (λ (t : Bool). cond t (suc (count_leading_zeros k (z % 2 ^ k))) 0)
    (low_digit (x / 2 ^ k) (y / 2 ^ k) ∙ ap (λ (n : ℕ). eqb (n % 2) 0) (sym (xor_shr x y k)))
    ∙ above k (z / 2 ^ k % 2) (z % 2 ^ k) (mod-lt _ (pow_pos 1)) (mod-lt _ (pow_pos k))
    ∙ ap (count_leading_zeros (suc k)) (sym (mod-pow-add z 1 k) ∙ ap (λ (n : ℕ). z % 2 ^ n) (let e : 1 + k ≡ suc k = omega arith in e))

module _ (k x y : ℕ) (hx : x < 2 ^ k) (hy : y < 2 ^ k) where
  pub word_zeros : same_first (bits k x) (bits k y) ≡ count_leading_zeros k (bit_xor x y)
  word_zeros = first-zeros k x y ∙ ap (count_leading_zeros k) (mod-eq_of_lt (xor_lt k x y hx hy))

  zeros-asked : (n : ℕ) → n ≤ k → same (take n (bits k x)) (take n (bits k y)) ≡ leb n (count_leading_zeros k (bit_xor x y))
  zeros-asked n h =
      same_asked n (bits k x) (bits k y) (length-bits k x ∙ sym (length-bits k y))
      ∙ ap₂ leb (ap (min n) (length-bits k x) ∙ min-eq_left h) word_zeros

  -- words are the same where all their bits are
  same_word : same (bits k x) (bits k y) ≡ eqb x y
  same_word =
      same_by _ _
      (λ h.
      let e : leb k (count_leading_zeros k (bit_xor x y)) ≡ true = sym (zeros-asked k (le_refl k)) ∙ ap₂ same (all x) (all y) ∙ h in
      let s = leading_length k (bit_xor x y) (xor_lt k x y hx hy) in
      let none : s.0 ≡ 0 = omega (arith, s.1, leb-true k (count_leading_zeros k (bit_xor x y)) e) in
      let l : bit_xor x y < 1 = rw none at s.2 in
      eq-eqb x y (omega (arith, l, xor_add_and x y, and_le_l x y, and_le_r x y)))
      (λ h. ap (λ (n : ℕ). same (bits k x) (bits k n)) (sym (eqb-true x y h)) ∙ same_refl (bits k x))
    where
      all : (n : ℕ) → take k (bits k n) ≡ bits k n
      all n = take_all k (bits k n) (omega (arith, length-bits k n))

-- ---- what is owed
asked : (n : ℕ) (a b : List ℕ) → length a ≡ length b → prefix_matches n a b ≡ leb (min n (32 * length a)) (equal_bits a b)
unfolding prefix_matches equal_bits
asked n a b e =
    same_asked n (bits_of a) (bits_of b) (omega (arith, length-bits_of a, length-bits_of b))
    ∙ ap (λ (m : ℕ). leb (min n m) (same_first (bits_of a) (bits_of b))) (length-bits_of a)

words : (x y : ℕ) (xs ys : List ℕ) → x < 2 ^ 32 → y < 2 ^ 32
    → equal_bits (x ∷ xs) (y ∷ ys) ≡ cond (eqb x y) (32 + equal_bits xs ys) (count_leading_zeros 32 (bit_xor x y))
unfolding equal_bits bits_of
words x y xs ys hx hy =
    first-append (bits 32 x) (bits 32 y) (bits_of xs) (bits_of ys) (length-bits 32 x ∙ sym (length-bits 32 y))
    ∙ ap (λ (t : Bool). cond t (length (bits 32 x) + equal_bits xs ys) (same_first (bits 32 x) (bits 32 y))) (same_word 32 x y hx hy)
    ∙ ap₂ (λ (n m : ℕ). cond (eqb x y) (n + equal_bits xs ys) m) (length-bits 32 x) (word_zeros 32 x y hx hy)

pub prefix_laws : PrefixLaws
prefix_laws = record { asked = asked; zeros = λ k n x y h hx hy. zeros-asked k x y hx hy n h; words = words }

-- ---- one word
pub equal-zeros : (x y : ℕ) → x < 2 ^ 32 → y < 2 ^ 32 → count_leading_zeros 32 (bit_xor x y) ≡ equal_bits (x ∷ []) (y ∷ [])
unfolding equal_bits bits_of
equal-zeros x y hx hy = rw (append-nil (bits 32 x), append-nil (bits 32 y)) (sym (word_zeros 32 x y hx hy))

pub equal_le : (x y : ℕ) → equal_bits (x ∷ []) (y ∷ []) ≤ 32
unfolding equal_bits
equal_le x y = omega (arith, first_le (bits_of (x ∷ [])) (bits_of (y ∷ [])), length-bits_of (x ∷ []))

pub word_asked : (n x y : ℕ) → prefix_matches n (x ∷ []) (y ∷ []) ≡ leb (min n 32) (equal_bits (x ∷ []) (y ∷ []))
word_asked n x y = asked n (x ∷ []) (y ∷ []) refl
