-- The order of flows is strict and total, and comparing word by word is comparing octet by octet.
--     before_irrefl     no flow goes before itself
--     before-once       of two flows only one goes before the other
--     before-total      of two flows that differ one goes before the other
--     before_trans      what goes before goes before what follows that
--     order_octets      addresses compare by their octets as they do by their words
-- Assumes nothing.
use Prim.Native.Nat.{ℕ, ◌/◌, ◌%◌, ◌<◌}
use mathlib.Core.Path.{◌≡◌, refl, sym, ap, ap₂, ◌∙◌}
use mathlib.Core.Bool.{Bool, true, false, false≢true}
use mathlib.Core.List.{List, [], ◌∷◌}
use native.Mathlib.Omega.{arith}
use borrow.Author.Tests.{eq-eqb, ne_eqb, le-ltb, lt-ltb}
use Rattle.std.specs.declared.cmp.Ordering.{Ordering}
use Rattle.std.specs.declared.cmp.Ordering.TheVariants.{Less, Equal, Greater}
use Rattle.std.specs.Ordering.{is_lt, is_eq, nat_cmp, ordering_then, ordering_reverse, MatchOrdering}
use Rattle.std.specs.Cmp.{ranks}
use Rattle.octets.specs.Numbers.{oct32}
use Rattle.flows.specs.Words.{octets_of, words_order}
use Rattle.flows.specs.Flows.{flow_order, flow_before}
use Rattle.flows.specs.Laws.{flow_total, flow_ties}
use Rattle.flows.specs.declared.Flow.{Flow}
use Rattle.flows.proofs.Same.{same_derived, same-flow_eq}

-- ---- word by word is octet by octet

-- which way two words compare, with what it shows
data Compared (a b : ℕ) : Ordering → Type 0 where
  less : a < b → Compared a b Less
  level : a ≡ b → Compared a b Equal
  more : b < a → Compared a b Greater

compare : (a b : ℕ) → Compared a b (nat_cmp a b)
compare a b = go (nat_cmp a b) (ranks a b)
  where
    go : (o : Ordering) → MatchOrdering o (a < b) (a ≡ b) (b < a) → Compared a b o
    go Less h = less h
    go Equal h = level h
    go Greater h = more h

compared : {a b : ℕ} {o : Ordering} → Compared a b o → nat_cmp a b ≡ o
compared {a} {b} (less h) = simp (lt-ltb a b h)
compared {a} {b} (level h) = simp (le-ltb a b (omega arith), eq-eqb a b h)
compared {a} {b} (more h) = simp (le-ltb a b (omega arith), ne_eqb a b (λ (e : a ≡ b). omega arith))

-- the last octet of a word, and what stands before it
last_octet : (x y : ℕ) (o : Ordering) → ordering_then (nat_cmp (x / 256) (y / 256)) (ordering_then (nat_cmp (x % 256) (y % 256)) o) ≡ ordering_then (nat_cmp x y) o
last_octet x y o = go (compare (x / 256) (y / 256)) (compare (x % 256) (y % 256))
  where
    so : {p : Ordering} → Compared x y p → ordering_then p o ≡ ordering_then (nat_cmp x y) o
    so k = ap (λ (q : Ordering). ordering_then q o) (sym (compared k))

    go : {p q : Ordering} → Compared (x / 256) (y / 256) p → Compared (x % 256) (y % 256) q → ordering_then p (ordering_then q o) ≡ ordering_then (nat_cmp x y) o
    go (less h) i = so (less (omega arith))
    go (more h) i = so (more (omega arith))
    go (level h) (less i) = so (less (omega arith))
    go (level h) (more i) = so (more (omega arith))
    go (level h) (level i) = so (level (omega arith))

word_octets : (x y : ℕ) (o : Ordering)
    → ordering_then (nat_cmp (x / 16777216) (y / 16777216))
    (ordering_then (nat_cmp (x / 65536 % 256) (y / 65536 % 256))
    (ordering_then (nat_cmp (x / 256 % 256) (y / 256 % 256))
    (ordering_then (nat_cmp (x % 256) (y % 256)) o))) ≡ ordering_then (nat_cmp x y) o
word_octets x y o =
    let high : (z : ℕ) → z / 16777216 ≡ z / 65536 / 256 = λ z. omega arith in
    let next : (z : ℕ) → z / 65536 ≡ z / 256 / 256 = λ z. omega arith in
    let low = ordering_then (nat_cmp (x % 256) (y % 256)) o in
    let mid = ordering_then (nat_cmp (x / 256 % 256) (y / 256 % 256)) low in
    ap₂ (λ (p q : ℕ). ordering_then (nat_cmp p q) (ordering_then (nat_cmp (x / 65536 % 256) (y / 65536 % 256)) mid)) (high x) (high y)
    ∙ last_octet (x / 65536) (y / 65536) mid
    ∙ ap₂ (λ (p q : ℕ). ordering_then (nat_cmp p q) mid) (next x) (next y)
    ∙ last_octet (x / 256) (y / 256) low
    ∙ last_octet x y o

pub order_octets : (xs ys : List ℕ) → words_order (octets_of xs) (octets_of ys) ≡ words_order xs ys
unfolding octets_of oct32
order_octets [] [] = refl
order_octets [] (y ∷ ys) = refl
order_octets (x ∷ xs) [] = refl
order_octets (x ∷ xs) (y ∷ ys) =
    word_octets x y (words_order (octets_of xs) (octets_of ys)) ∙ ap (ordering_then (nat_cmp x y)) (order_octets xs ys)

-- ---- flows in order

is_less : (o : Ordering) → is_lt o ≡ true → o ≡ Less
is_less Less e = refl
is_less Equal e = absurd (false≢true e)
is_less Greater e = absurd (false≢true e)

pub before_trans : (a b c : Flow) → flow_before a b ≡ true → flow_before b c ≡ true → flow_before a c ≡ true
unfolding flow_before
before_trans a b c h g = ap is_lt (flow_total.trans a b c (is_less (flow_order a b) h) (is_less (flow_order b c) g))

pub before-once : (a b : Flow) → flow_before a b ≡ true → flow_before b a ≡ false
unfolding flow_before
before-once a b h = ap is_lt (flow_total.antisymm b a ∙ ap ordering_reverse (is_less (flow_order a b) h))

pub before_irrefl : (a : Flow) → flow_before a a ≡ false
before_irrefl a = go (flow_before a a) refl
  where
    go : (t : Bool) → flow_before a a ≡ t → flow_before a a ≡ false
    go true e = before-once a a e
    go false e = e

flow-equal : (a b : Flow) → flow_order a b ≡ Equal → a ≡ b
flow-equal a b e = same-flow_eq a b (sym (same_derived a b) ∙ flow_ties a b ∙ ap is_eq e)

pub before-total : (a b : Flow) → (a ≡ b → ⊥) → flow_before a b ≡ false → flow_before b a ≡ true
unfolding flow_before
before-total a b n h = go (flow_order a b) refl h
  where
    go : (o : Ordering) → flow_order a b ≡ o → is_lt o ≡ false → is_lt (flow_order b a) ≡ true
    go Less e k = absurd (false≢true (sym k))
    go Equal e k = absurd (n (flow-equal a b e))
    go Greater e k = ap is_lt (flow_total.antisymm b a ∙ ap ordering_reverse e)
