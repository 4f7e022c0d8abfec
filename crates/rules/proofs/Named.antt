-- What is missing among the TLVs that a message's rules name.
--     stands_by                    a TLV of a type stands, as the code tells it
--     any-missing                  one of the rules lacks its TLV
--     missing_on, missing_end      a search for the first rule that lacks its TLV, turn by turn
--     bares-turn, bares_most       bare headers written one directly after the other
--     free-lacks, marked-lacks     a rule that is not needed, or of whose type a TLV was seen
-- Assumes nothing.
use mathlib.Core.Path.{◌≡◌, refl, sym, ap, ◌∙◌}
use mathlib.Core.Bool.{Bool, true, false, cond, not, ◌&&◌, ◌||◌, false≢true}
use mathlib.Core.List.{List, [], ◌∷◌, ◌++◌, append-nil, append_assoc}
use Prim.Native.Nat.{ℕ, suc, ◌+◌, ◌-◌, ◌*◌, ◌≤◌, ◌<◌}
use native.Mathlib.Omega.{arith}
use native.Mathlib.Numerals.{add-one}
use lib.ListN.{length, take, drop, get_or, length-append, length-take, drop_of_length-le}
use lib.Seq.{take-suc, drop-cons}
use lib.Dec.{eqb, ltb}
use borrow.Author.Tests.{lt-ltb, ne_eqb}
use borrow.Rule.Slice.PartMut.{put_mid}
use Rattle.std.specs.List.{list_any}
use Rattle.octets.specs.Writing.{over, Wrote}
use Rattle.octets.proofs.Writing.{lent-after}
use Rattle.items.specs.Items.{Item, of_type, count_of}
use Rattle.writers.specs.Tlvs.{bare_of}
use Rattle.writers.proofs.Tlvs.{length-tlv}
use Rattle.rules.specs.declared.Rule.{Rule}
use Rattle.rules.specs.Rules.{rule}
use Rattle.rules.specs.Named.{lacks, missing, bares}

-- ---- a TLV of type t stands
module _ (t : ℕ) where
  some_by : (b : Bool) (x : Item) (xs : List Item) → list_any (λ (i : Item). eqb i.kind t) xs ≡ not (eqb (length (of_type t xs)) 0)
      → (b || list_any (λ (i : Item). eqb i.kind t) xs) ≡ not (eqb (length (cond b (x.content ∷ of_type t xs) (of_type t xs))) 0)
  some_by true x xs h = sym (ap not (ne_eqb (length (x.content ∷ of_type t xs)) 0 (λ e. omega arith)))
  some_by false x xs h = h

  pub stands_by : (is : List Item) → list_any (λ (i : Item). eqb i.kind t) is ≡ not (eqb (count_of t is) 0)
  unfolding count_of of_type
  stands_by [] = refl
  stands_by (x ∷ xs) = some_by (eqb x.kind t) x xs (stands_by xs)

-- ---- the first rule that lacks its TLV
abbrev pub none : Rule
none = rule 0 false false

-- the rules from i on begin with that at i
pub rules_cons : (rs : List Rule) (i : ℕ) → i < length rs → drop i rs ≡ get_or rs i none ∷ drop (i + 1) rs
rules_cons rs i h = drop-cons rs i none h ∙ ap (λ (k : ℕ). get_or rs i none ∷ drop k rs) (sym (add-one i))

module _ (is : List Item) where
  -- as the code asks each rule
  pub any-missing : (rs : List Rule) → list_any (λ (r : Rule). lacks r is) rs ≡ ltb 0 (length (missing rs is))
  unfolding missing
  any-missing [] = refl
  any-missing (r ∷ rs) = by (lacks r is) (any-missing rs)
    where
      by : (b : Bool) → list_any (λ (r : Rule). lacks r is) rs ≡ ltb 0 (length (missing rs is))
          → (b || list_any (λ (r : Rule). lacks r is) rs) ≡ ltb 0 (length (cond b (r.kind ∷ missing rs is) (missing rs is)))
      by true h = sym (lt-ltb 0 (length (r.kind ∷ missing rs is)) (omega arith))
      by false h = h

  lacks-tells : (b : Bool) (r : Rule) (rs : List Rule) → lacks r is ≡ b → missing (r ∷ rs) is ≡ cond b (r.kind ∷ missing rs is) (missing rs is)
  unfolding missing
  lacks-tells b r rs e = ap (λ (x : Bool). cond x (r.kind ∷ missing rs is) (missing rs is)) e

  pub missing_on : (rs : List Rule) (i : ℕ) → i < length rs → missing rs is ≡ missing (drop i rs) is → lacks (get_or rs i none) is ≡ false
      → missing rs is ≡ missing (drop (i + 1) rs) is
  missing_on rs i h inv e = inv ∙ ap (λ (l : List Rule). missing l is) (rules_cons rs i h) ∙ lacks-tells false (get_or rs i none) (drop (i + 1) rs) e

  -- past the last
  pub missing_end : (rs : List Rule) (i : ℕ) → length rs ≤ i → missing rs is ≡ missing (drop i rs) is → false ≡ ltb 0 (length (missing rs is))
  unfolding missing
  missing_end rs i h inv =
      ap (λ (l : List ℕ). ltb 0 (length l)) (sym (inv ∙ ap (λ (l : List Rule). missing l is) (drop_of_length-le rs {i = i} h)))

-- ---- their bare headers
pub length-bares : (ts : List ℕ) → length (bares ts) ≡ 4 * length ts
unfolding bares
length-bares [] = refl
length-bares (t ∷ ts) = omega (arith, length-append (bare_of t) (bares ts), length-tlv t [], length-bares ts)

bares-append : (xs ys : List ℕ) → bares (xs ++ ys) ≡ bares xs ++ bares ys
unfolding bares
bares-append [] ys = refl
bares-append (x ∷ xs) ys = ap (λ (r : List ℕ). bare_of x ++ r) (bares-append xs ys) ∙ sym (append_assoc (bare_of x) (bares xs) (bares ys))

module _ (is : List Item) where
  append-by : (b : Bool) (t : ℕ) (m n : List ℕ) → cond b (t ∷ m) m ++ n ≡ cond b (t ∷ (m ++ n)) (m ++ n)
  append-by true t m n = refl
  append-by false t m n = refl

  missing-append : (xs ys : List Rule) → missing (xs ++ ys) is ≡ missing xs is ++ missing ys is
  unfolding missing
  missing-append [] ys = refl
  missing-append (x ∷ xs) ys =
      ap (λ (m : List ℕ). cond (lacks x is) (x.kind ∷ m) m) (missing-append xs ys)
      ∙ sym (append-by (lacks x is) x.kind (missing xs is) (missing ys is))

  missing_few_by : (b : Bool) (t k : ℕ) (m : List ℕ) → length m ≤ k → length (cond b (t ∷ m) m) ≤ suc k
  missing_few_by true t k m h = omega arith
  missing_few_by false t k m h = omega arith

  pub missing_few : (rs : List Rule) → length (missing rs is) ≤ length rs
  unfolding missing
  missing_few [] = omega arith
  missing_few (r ∷ rs) = missing_few_by (lacks r is) r.kind (length rs) (missing rs is) (missing_few rs)

  -- those of the first i rules
  abbrev headers : List Rule → ℕ → List ℕ
  headers list i = bares (missing (take i list) is)

  pub bares_most : (list : List Rule) (i : ℕ) → length (headers list i) ≤ 4 * i
  bares_most list i = omega (arith, length-bares (missing (take i list) is), missing_few (take i list), length-take i list)

  headers-more : (list : List Rule) (i : ℕ) → i < length list → headers list i ++ bares (missing (get_or list i none ∷ []) is) ≡ headers list (i + 1)
  headers-more list i h =
      sym (bares-append (missing (take i list) is) (missing (get_or list i none ∷ []) is))
      ∙ ap bares (sym (missing-append (take i list) (get_or list i none ∷ [])))
      ∙ ap (λ (rs : List Rule). bares (missing rs is)) (sym (take-suc list i none h))
      ∙ ap (λ (k : ℕ). headers list k) (sym (add-one i))

  -- one rule more: x is the buffer, y what comes back of the part that was lent
  pub bares-turn : (list : List Rule) {i at n : ℕ} {x y l : List ℕ} → i < length list → Wrote (headers list i) at l x
      → Wrote (bares (missing (get_or list i none ∷ []) is)) n (take (length x - at) (drop at x)) y
      → Wrote (headers list (i + 1)) (at + n) l (put_mid at (length x - at) x y)
  bares-turn list {i} {at} {n} {x} {y} {l} h inv w =
      record {
        size = omega (arith, inv.size, w.size, ap length (headers-more list i h), length-append (headers list i) (bares (missing (get_or list i none ∷ []) is)));
        text =
            lent-after (headers list i) (bares (missing (get_or list i none ∷ []) is)) l at inv.text (sym inv.size) w.text
            ∙ ap (λ (v : List ℕ). over v l) (headers-more list i h);
      }

  -- the header of one rule, where it lacks its TLV and where not
  pub one-missing : (r : Rule) → lacks r is ≡ true → bares (missing (r ∷ []) is) ≡ bare_of r.kind
  unfolding bares missing
  one-missing r e = rw (e, append-nil)

  pub none-missing : (r : Rule) → lacks r is ≡ false → bares (missing (r ∷ []) is) ≡ []
  unfolding bares missing
  none-missing r e = rw e

-- ---- the tests of one rule, as the code makes them
module _ (r : Rule) (is : List Item) where
  pub lacks-free : r.needed ≡ false → false ≡ lacks r is
  unfolding lacks
  lacks-free h = rw h

  pub lacks-stands : not (eqb (count_of r.kind is) 0) ≡ true → false ≡ lacks r is
  unfolding lacks
  lacks-stands h = by r.needed (eqb (count_of r.kind is) 0) (eqb (count_of r.instead is) 0) h
    where
      by : (a b c : Bool) → not b ≡ true → false ≡ (a && (b && c))
      by true true c h = absurd (false≢true h)
      by true false c h = refl
      by false b c h = refl

  pub lacks_instead : r.needed ≡ true → not (eqb (count_of r.kind is) 0) ≡ false → not (not (eqb (count_of r.instead is) 0)) ≡ lacks r is
  unfolding lacks
  lacks_instead n h = by r.needed (eqb (count_of r.kind is) 0) (eqb (count_of r.instead is) 0) n h
    where
      by : (a b c : Bool) → a ≡ true → not b ≡ false → not (not c) ≡ (a && (b && c))
      by true true true n h = refl
      by true true false n h = refl
      by true false c n h = absurd (false≢true (sym h))
      by false b c n h = absurd (false≢true n)

-- ---- a rule that is not needed, or that is marked, lacks nothing

-- a TLV of each marked rule's type stands
abbrev pub Marked : List Rule → List Bool → List Item → Type 0
Marked rs seen is = (j : ℕ) → get_or seen j false ≡ true → eqb (count_of (get_or rs j none).kind is) 0 ≡ false

module _ (rs : List Rule) (is : List Item) (i : ℕ) where
  pub free-lacks : (get_or rs i none).needed ≡ false → lacks (get_or rs i none) is ≡ false
  free-lacks e = sym (lacks-free (get_or rs i none) is e)

  pub marked-lacks : (seen : List Bool) → Marked rs seen is → get_or seen i false ≡ true → lacks (get_or rs i none) is ≡ false
  marked-lacks seen m e = sym (lacks-stands (get_or rs i none) is (ap not (m i e)))
