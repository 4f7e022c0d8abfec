-- Comparing prefixes word by word, and a word by shifts.
--     word_shift       the first n bits of two words are equal exactly when the words are, shifted by the other bits
--     prefix-turn      the prefix of an address: that of its first word, and what is left of it in the words after
-- Assumes nothing.
use Prim.Native.Nat.{ℕ, zero, suc, ◌+◌, ◌-◌, ◌*◌, ◌/◌, ◌%◌, ◌^◌, ◌≤◌, ◌<◌, min}
use mathlib.Core.Path.{◌≡◌, refl, sym, ap, ap₂, ◌∙◌, subst}
use mathlib.Core.Bool.{Bool, true, false, ◌&&◌}
use mathlib.Core.List.{List, [], ◌∷◌, ◌++◌, append-nil}
use lib.ListN.{length, take, drop, get_or, drop_of_length-le, length-take}
use lib.Seq.{drop-cons, take_all, take-nil}
use lib.Dec.{eqb, leb}
use lib.Pow.{pow_pos, mod-pow-add, shr-shr, shr_mod, high, low}
use native.Mathlib.Numerals.{add-one}
use native.Mathlib.Nat.{suc-add, mod-one, mod-lt, add_comm}
use native.Mathlib.Omega.{arith}
use borrow.Author.Tests.{eqb-true, eq-eqb, leb-true, leb-false}
use Rattle.octets.proofs.Tests.{both, same_by}
use Rattle.flows.specs.Words.{same, address_at}
use Rattle.flows.proofs.Same.{same-append}
use Rattle.lists.specs.Prefix.{bits, bits_of, prefix_matches}

length-bits : (k x : ℕ) → length (bits k x) ≡ k
unfolding bits
length-bits zero x = refl
length-bits (suc k) x = ap suc (length-bits k x)

-- numbers of a high and a low part are equal when their parts are
parts : (j x y r s : ℕ) → r < 2 ^ j → s < 2 ^ j → (eqb x y && eqb r s) ≡ eqb (x * 2 ^ j + r) (y * 2 ^ j + s)
parts j x y r s hr hs =
    same_by _ _
    (λ h.
    let t = both (eqb x y) (eqb r s) h in
    eq-eqb (x * 2 ^ j + r) (y * 2 ^ j + s) (ap₂ (λ (p q : ℕ). p * 2 ^ j + q) (eqb-true x y t.0) (eqb-true r s t.1)))
    (λ h.
    let e = eqb-true (x * 2 ^ j + r) (y * 2 ^ j + s) h in
    let ex : x ≡ y = sym (high x j hr) ∙ ap (λ (z : ℕ). z / 2 ^ j) e ∙ high y j hs in
    let er : r ≡ s = sym (low x j hr) ∙ ap (λ (z : ℕ). z % 2 ^ j) e ∙ low y j hs in
    ap₂ ◌&&◌ (eq-eqb x y ex) (eq-eqb r s er))

-- the first n of n + d bits, by a shift
bits_shift : (n d a b : ℕ) → same (take n (bits (n + d) a)) (take n (bits (n + d) b)) ≡ eqb (a / 2 ^ d % 2 ^ n) (b / 2 ^ d % 2 ^ n)
unfolding same bits
bits_shift zero d a b = sym (eq-eqb (a / 2 ^ d % 1) (b / 2 ^ d % 1) (mod-one (a / 2 ^ d) ∙ sym (mod-one (b / 2 ^ d))))
bits_shift (suc n) d a b =
    ap (λ (k : ℕ). same (take (suc n) (bits k a)) (take (suc n) (bits k b))) (suc-add n d)
    ∙ ap (λ (t : Bool). eqb (a / 2 ^ (n + d) % 2) (b / 2 ^ (n + d) % 2) && t) (bits_shift n d a b)
    ∙ ap₂ (λ (x y : ℕ). eqb (x % 2) (y % 2) && eqb (a / 2 ^ d % 2 ^ n) (b / 2 ^ d % 2 ^ n)) (top a) (top b)
    ∙ parts n (a / 2 ^ d / 2 ^ n % 2) (b / 2 ^ d / 2 ^ n % 2) (a / 2 ^ d % 2 ^ n) (b / 2 ^ d % 2 ^ n) (mod-lt _ (pow_pos n)) (mod-lt _ (pow_pos n))
    ∙ sym (ap₂ eqb (whole a) (whole b))
  where
    top : (x : ℕ) → x / 2 ^ (n + d) ≡ x / 2 ^ d / 2 ^ n
    top x = ap (λ (k : ℕ). x / 2 ^ k) (add_comm n d) ∙ sym (shr-shr x d n)

    whole : (x : ℕ) → x / 2 ^ d % 2 ^ suc n ≡ x / 2 ^ d / 2 ^ n % 2 * 2 ^ n + x / 2 ^ d % 2 ^ n
    whole x = let e : suc n ≡ 1 + n = omega arith in ap (λ (k : ℕ). x / 2 ^ d % 2 ^ k) e ∙ mod-pow-add (x / 2 ^ d) 1 n

-- the first n of two words' 32 bits, for any n
word_bits : (n a b : ℕ) → a < 2 ^ 32 → b < 2 ^ 32 → same (take n (bits 32 a)) (take n (bits 32 b)) ≡ eqb (a / 2 ^ (32 - n)) (b / 2 ^ (32 - n))
word_bits n a b ha hb = go (leb n 32) refl
  where
    short : (n : ℕ) → n ≤ 32 → same (take n (bits 32 a)) (take n (bits 32 b)) ≡ eqb (a / 2 ^ (32 - n)) (b / 2 ^ (32 - n))
    short n h =
        let e : 32 ≡ n + (32 - n) = omega arith in
        let fits : (x : ℕ) → x < 2 ^ 32 → x / 2 ^ (32 - n) % 2 ^ n ≡ x / 2 ^ (32 - n) =
        λ x l. shr_mod n (32 - n) (subst (λ (k : ℕ). x < 2 ^ k) e l) in
        ap (λ (k : ℕ). same (take n (bits k a)) (take n (bits k b))) e ∙ bits_shift n (32 - n) a b ∙ ap₂ eqb (fits a ha) (fits b hb)

    all : (x : ℕ) → 32 < n → take n (bits 32 x) ≡ take 32 (bits 32 x)
    all x h = take_all n (bits 32 x) (omega (arith, length-bits 32 x)) ∙ sym (take_all 32 (bits 32 x) (omega (arith, length-bits 32 x)))

    go : (t : Bool) → leb n 32 ≡ t → same (take n (bits 32 a)) (take n (bits 32 b)) ≡ eqb (a / 2 ^ (32 - n)) (b / 2 ^ (32 - n))
    go true t = short n (leb-true n 32 t)
    go false t =
        let h = leb-false n 32 t in
        let e : 32 - 32 ≡ 32 - n = omega arith in
        ap₂ same (all a h) (all b h) ∙ short 32 (omega arith) ∙ ap (λ (k : ℕ). eqb (a / 2 ^ k) (b / 2 ^ k)) e

pub word_shift : (n a b : ℕ) → a < 2 ^ 32 → b < 2 ^ 32 → prefix_matches n (a ∷ []) (b ∷ []) ≡ eqb (a / 2 ^ (32 - n)) (b / 2 ^ (32 - n))
unfolding prefix_matches bits_of
word_shift n a b ha hb = rw (append-nil (bits 32 a), append-nil (bits 32 b)) (word_bits n a b ha hb)

-- ---- words after the first
take-over : (n : ℕ) (p q : List ℕ) → take n (p ++ q) ≡ take n p ++ take (n - length p) q
take-over n [] q = ap (λ (k : ℕ). take k q) (let e : n ≡ n - 0 = omega arith in e) ∙ ap (λ (r : List ℕ). r ++ take (n - 0) q) (sym (take-nil n))
take-over zero (x ∷ p) q = ap (λ (k : ℕ). take k q) (let e : 0 ≡ 0 - suc (length p) = omega arith in e)
take-over (suc n) (x ∷ p) q =
    let e : n - length p ≡ suc n - suc (length p) = omega arith in
    ap (λ (r : List ℕ). x ∷ r) (take-over n p q ∙ ap (λ (k : ℕ). take n p ++ take k q) e)

length-take-same : (n : ℕ) (p q : List ℕ) → length p ≡ length q → length (take n p) ≡ length (take n q)
length-take-same n p q e = length-take n p ∙ ap (min n) e ∙ sym (length-take n q)

prefix_cons : (n x y : ℕ) (xs ys : List ℕ) → prefix_matches n (x ∷ xs) (y ∷ ys) ≡ (prefix_matches n (x ∷ []) (y ∷ []) && prefix_matches (n - 32) xs ys)
unfolding prefix_matches bits_of
prefix_cons n x y xs ys =
    ap₂ same (over x xs) (over y ys)
    ∙ same-append (take n (bits 32 x)) (take n (bits 32 y)) _ _ (length-take-same n (bits 32 x) (bits 32 y) (length-bits 32 x ∙ sym (length-bits 32 y)))
    ∙ ap₂ (λ (p q : List ℕ). same (take n p) (take n q) && same (take (n - 32) (bits_of xs)) (take (n - 32) (bits_of ys))) (sym (append-nil (bits 32 x))) (sym (append-nil (bits 32 y)))
  where
    over : (x : ℕ) (xs : List ℕ) → take n (bits 32 x ++ bits_of xs) ≡ take n (bits 32 x) ++ take (n - 32) (bits_of xs)
    over x xs = take-over n (bits 32 x) (bits_of xs) ∙ ap (λ (k : ℕ). take n (bits 32 x) ++ take (n - k) (bits_of xs)) (length-bits 32 x)

-- no bit is asked
pub prefix_none : (xs ys : List ℕ) → prefix_matches 0 xs ys ≡ true
unfolding prefix_matches same
prefix_none xs ys = refl

-- ---- a loop that has passed the words before i, with n bits left
module _ (i : ℕ) (xs ys : List ℕ) (hx : i < length xs) (hy : i < length ys) (n : ℕ) where
  turn : prefix_matches n (drop i xs) (drop i ys) ≡ (prefix_matches n (get_or xs i 0 ∷ []) (get_or ys i 0 ∷ []) && prefix_matches (n - 32) (drop (i + 1) xs) (drop (i + 1) ys))
  turn = rw (add-one, drop-cons xs i 0, drop-cons ys i 0) (prefix_cons n (get_or xs i 0) (get_or ys i 0) (drop (suc i) xs) (drop (suc i) ys))

  pub prefix_off : prefix_matches n (get_or xs i 0 ∷ []) (get_or ys i 0 ∷ []) ≡ false → prefix_matches n (drop i xs) (drop i ys) ≡ false
  prefix_off h = turn ∙ simp h

  pub prefix_on : prefix_matches n (get_or xs i 0 ∷ []) (get_or ys i 0 ∷ []) ≡ true → prefix_matches n (drop i xs) (drop i ys) ≡ prefix_matches (n - 32) (drop (i + 1) xs) (drop (i + 1) ys)
  prefix_on h = turn ∙ simp h

  pub prefix_last : prefix_matches n (get_or xs i 0 ∷ []) (get_or ys i 0 ∷ []) ≡ true → n ≤ 32 → prefix_matches n (drop i xs) (drop i ys) ≡ true
  prefix_last h l =
      let e : n - 32 ≡ 0 = omega arith in
      prefix_on h ∙ ap (λ (k : ℕ). prefix_matches k (drop (i + 1) xs) (drop (i + 1) ys)) e ∙ prefix_none (drop (i + 1) xs) (drop (i + 1) ys)

pub prefix_end : (i : ℕ) (xs ys : List ℕ) (n : ℕ) → length xs ≤ i → length ys ≤ i → prefix_matches n (drop i xs) (drop i ys) ≡ true
unfolding prefix_matches bits_of same
prefix_end i xs ys n hx hy = rw (drop_of_length-le xs {i = i} hx, drop_of_length-le ys {i = i} hy, take-nil n)

-- word i of an address in a table
pub word_at : (t : List ℕ) (at i : ℕ) → i < 4 → get_or (address_at t at) i 0 ≡ get_or t (at + i) 0
word_at t at i l = go i l
  where
    there : (k : ℕ) → (n : ℕ) → n ≡ at + k → get_or t n 0 ≡ get_or t (at + k) 0
    there k n e = ap (λ (m : ℕ). get_or t m 0) e

    go : (k : ℕ) → k < 4 → get_or (address_at t at) k 0 ≡ get_or t (at + k) 0
    go zero h = there 0 at (omega arith)
    go (suc zero) h = there 1 (at + 1) refl
    go (suc (suc zero)) h = there 2 (at + 2) refl
    go (suc (suc (suc zero))) h = there 3 (at + 3) refl
    go (suc (suc (suc (suc k)))) h = absurd (omega arith)
