-- A good flow that is written reads back.
--     formed_back      its content is well-formed
--     flow-back        and names the flow
-- Once over the width of an address. Assumes nothing.
use Prim.Native.Nat.{ℕ, zero, suc, ◌+◌, ◌-◌, ◌*◌, ◌%◌, ◌≤◌, ◌<◌}
use mathlib.Core.Path.{◌≡◌, refl, sym, ap, ap₂, ◌∙◌}
use mathlib.Core.Logic.{◌⊎◌, inl, inr, ⊎_elim}
use mathlib.Core.Bool.{Bool, true, false, cond}
use mathlib.Core.List.{List, [], ◌∷◌, ◌++◌, append_assoc, append-nil}
use lib.ListN.{length, take, drop, get_or, length-append}
use lib.Seq.{get_or-append-add, get_or-take, get_or-drop, length-take-le}
use lib.Dec.{eqb, ltb}
use native.Mathlib.Nat.{add_assoc, mul-zero, mul-one}
use native.Mathlib.Omega.{arith}
use borrow.Author.Tests.{eqb-true, eq-eqb, lt-ltb, ltb-true, ltb-false}
use Rattle.octets.specs.Numbers.{be8, be16, be32, oct8, oct16, oct32}
use Rattle.octets.proofs.Numbers.{back32, length-oct32}
use Rattle.octets.proofs.Tests.{both, every-by}
use Rattle.flows.specs.Words.{octets_of, zeros, zero_from}
use Rattle.flows.specs.Flows.{width, in_width}
use Rattle.writers.specs.Tlvs.{flow_of}
use Rattle.flows.specs.declared.Flow.{Flow}
use Rattle.flows.proofs.Same.{flow_eq}
use Rattle.flows.proofs.Good.{Good}
use Rattle.fields.specs.Flow.{width_of, length_agrees}
use Rattle.flow_octets.specs.FlowOctets.{type_ok, flow_formed, word_in, address_in, flow_named, source_count, source_words, flow_tlv, flow_octets, FlowBack}
use Rattle.flow_octets.proofs.FlowOctets.{width_le, width-octets, one_more, length-first}

-- ---- numbers that stand after other octets
be32-after : (p q : List ℕ) (k : ℕ) → be32 (p ++ q) (length p + k) ≡ be32 q k
be32-after p q k =
    simp (add_assoc (length p) k 1, add_assoc (length p) k 2, add_assoc (length p) k 3, get_or-append-add)

-- the head
unfoldable head_octets : ℕ → ℕ → List ℕ
head_octets family count = oct8 (count + 1) ++ oct8 family ++ oct16 count

length-head : (family count : ℕ) → length (head_octets family count) ≡ 4
unfolding head_octets oct8 oct16
length-head family count = refl

module _ (family count : ℕ) (r : List ℕ) where
  head-kind : be8 (head_octets family count ++ r) 0 ≡ count + 1
  unfolding head_octets oct8 oct16
  head-kind = refl

  head_family : be8 (head_octets family count ++ r) 1 ≡ family
  unfolding head_octets oct8 oct16
  head_family = refl

  head_count : be16 (head_octets family count ++ r) 2 ≡ count
  unfolding head_octets oct8 oct16
  head_count = omega arith

-- ---- an address
octets-back : (xs r : List ℕ) (i : ℕ) → i < length xs → be32 (octets_of xs ++ r) (4 * i) ≡ get_or xs i 0
unfolding octets_of
octets-back [] r i h = absurd (omega arith)
octets-back (x ∷ xs) r zero h = ap (λ (l : List ℕ). be32 l 0) (append_assoc (oct32 x) (octets_of xs) r) ∙ back32 x (octets_of xs ++ r)
octets-back (x ∷ xs) r (suc i) h =
    let e : 4 * suc i ≡ length (oct32 x) + 4 * i = omega (arith, length-oct32 x) in
    ap₂ be32 (append_assoc (oct32 x) (octets_of xs) r) e ∙ be32-after (oct32 x) (octets_of xs ++ r) (4 * i) ∙ octets-back xs r i (omega arith)

zeros-at : (xs : List ℕ) (k : ℕ) → zeros xs ≡ true → get_or xs k 0 ≡ 0
unfolding zeros
zeros-at [] k e = refl
zeros-at (x ∷ xs) zero e = eqb-true x 0 (both (eqb x 0) (zeros xs) e).0
zeros-at (x ∷ xs) (suc k) e = zeros-at xs k (both (eqb x 0) (zeros xs) e).1

four : (a : List ℕ) → length a ≡ 4 → get_or a 0 0 ∷ get_or a 1 0 ∷ get_or a 2 0 ∷ get_or a 3 0 ∷ [] ≡ a
four [] e = absurd (omega arith)
four (x ∷ []) e = absurd (omega arith)
four (x ∷ y ∷ []) e = absurd (omega arith)
four (x ∷ y ∷ z ∷ []) e = absurd (omega arith)
four (x ∷ y ∷ z ∷ w ∷ []) e = refl
four (x ∷ y ∷ z ∷ w ∷ v ∷ a) e = absurd (omega arith)

-- the first w words of an address stand after p; the others are zero
module _ (p a r : List ℕ) (at w : ℕ) (ep : length p ≡ at) (hw : w ≤ 4) (la : length a ≡ 4) (hz : zero_from w a ≡ true) where
  word_back : (i : ℕ) → word_in (p ++ (octets_of (take w a) ++ r)) at w i ≡ get_or a i 0
  unfolding word_in
  word_back i = go (ltb i w) refl
    where
      go : (b : Bool) → ltb i w ≡ b → cond b (be32 (p ++ (octets_of (take w a) ++ r)) (at + 4 * i)) 0 ≡ get_or a i 0
      go true t =
          let h = ltb-true i w t in
          ap (λ (n : ℕ). be32 (p ++ (octets_of (take w a) ++ r)) (n + 4 * i)) (sym ep)
          ∙ be32-after p (octets_of (take w a) ++ r) (4 * i)
          ∙ octets-back (take w a) r i (omega (arith, length-take-le w a (omega arith)))
          ∙ get_or-take w a i 0 h
      go false t =
          let h = ltb-false i w t in
          let e : w + (i - w) ≡ i = omega arith in
          sym (ap (λ (n : ℕ). get_or a n 0) (sym e) ∙ sym (get_or-drop w a (i - w) 0) ∙ zeros-at (drop w a) (i - w) hz)

  address_back : address_in (p ++ (octets_of (take w a) ++ r)) at w ≡ a
  address_back = simp (word_back 0, word_back 1, word_back 2, word_back 3) (four a la)

-- ---- a good flow
zero-or-one : (n : ℕ) → n ≤ 1 → (n ≡ 0) ⊎ (n ≡ 1)
zero-or-one zero h = inl refl
zero-or-one (suc zero) h = inr refl
zero-or-one (suc (suc n)) h = absurd (omega arith)

-- what is written of a source, and what is read by the count: nothing where there is none, else as many words as the family has
pub record Counted (f : Flow) : Type 0 where
  pub count : source_count f.sourced ≡ f.sourced
  pub kind : type_ok (f.sourced + 1) f.sourced ≡ true
  pub words : width f.family * f.sourced ≡ source_words f.family f.sourced
  pub most : source_words f.family f.sourced ≤ 4
  pub rest : zero_from (source_words f.family f.sourced) f.source ≡ true

counted : (f : Flow) → Good f → Counted f
unfolding source_count source_words type_ok in_width
counted f good = ⊎_elim none some (zero-or-one f.sourced good.mark)
  where
    none : f.sourced ≡ 0 → Counted f
    none e =
        record {
          count = ap source_count e ∙ sym e;
          kind = ap (λ (n : ℕ). type_ok (n + 1) n) e;
          words = ap (λ (n : ℕ). width f.family * n) e ∙ mul-zero (width f.family) ∙ sym (ap (source_words f.family) e);
          most = omega (arith, ap (source_words f.family) e);
          rest = ap (λ (n : ℕ). zero_from (source_words f.family n) f.source) e ∙ good.none e;
        }

    some : f.sourced ≡ 1 → Counted f
    some e =
        record {
          count = ap source_count e ∙ sym e;
          kind = ap (λ (n : ℕ). type_ok (n + 1) n) e;
          words = ap (λ (n : ℕ). width f.family * n) e ∙ mul-one (width f.family) ∙ sym (ap (source_words f.family) e);
          most = omega (arith, ap (source_words f.family) e, width_le f.family);
          rest = ap (λ (n : ℕ). zero_from (source_words f.family n) f.source) e ∙ good.source_width;
        }

module _ (f : Flow) (good : Good f) (lg : length f.group ≡ 4) (ls : length f.source ≡ 4) where
  -- the parts of the content
  abbrev head : List ℕ
  head = head_octets f.family f.sourced

  abbrev group : List ℕ
  group = octets_of (take (width f.family) f.group)

  abbrev source : List ℕ
  source = octets_of (take (source_words f.family f.sourced) f.source)

  abbrev whole : List ℕ
  whole = head ++ (group ++ source)

  whole_is : flow_octets f ≡ whole
  unfolding flow_octets head_octets
  whole_is =
      let low : f.family % 256 ≡ f.family = ⊎_elim (λ e. omega arith) (λ e. omega arith) good.family in
      ap₂ (λ (a n : ℕ). head_octets a n ++ group ++ source) low (counted f good).count ∙ append_assoc head group source

  length-group : length group ≡ 4 * width f.family
  length-group = length-first (width f.family) f.group (omega (arith, width_le f.family))

  length_whole : length whole ≡ 4 + (4 * width f.family + 4 * source_words f.family f.sourced)
  length_whole =
      simp length-append
      (omega (
        arith,
        length-head f.family f.sourced,
        length-group,
        length-first (source_words f.family f.sourced) f.source (omega (arith, (counted f good).most)),
      ))

  kind_is : be8 whole 0 ≡ f.sourced + 1
  kind_is = head-kind f.family f.sourced (group ++ source)

  family_is : be8 whole 1 ≡ f.family
  family_is = head_family f.family f.sourced (group ++ source)

  count_is : be16 whole 2 ≡ f.sourced
  count_is = head_count f.family f.sourced (group ++ source)

  known : 0 < width_of f.family
  unfolding width_of
  known = ⊎_elim (λ e. rw e (omega arith)) (λ e. rw e (omega arith)) good.family

  agrees : length_agrees f.family f.sourced (length whole) ≡ true
  unfolding length_agrees
  agrees =
      let w = width f.family in
      let size : length whole ≡ 4 + 4 * w * (f.sourced + 1) = omega (arith, length_whole, one_more w f.sourced, (counted f good).words) in
      every-by _ (
        lt-ltb 0 (width_of f.family) known,
        (eq-eqb (length whole) (4 + width_of f.family * (f.sourced + 1)) (size ∙ ap (λ (v : ℕ). 4 + v * (f.sourced + 1)) (sym (width-octets f.family known))), tt),
      )

  pub formed_back : flow_formed (flow_octets f) ≡ true
  unfolding flow_formed
  formed_back =
      ap flow_formed whole_is
      ∙ every-by _ (
        ap₂ type_ok kind_is count_is ∙ (counted f good).kind,
        (ap₂ (λ (a n : ℕ). length_agrees a n (length whole)) family_is count_is ∙ agrees, tt),
      )

  pub flow-back : flow_named (flow_octets f) ≡ f
  unfolding flow_named in_width
  flow-back =
      let w = width f.family in
      ap flow_named whole_is
      ∙ flow_eq (flow_named whole) f family_is
      (ap (λ (a : ℕ). address_in whole 4 (width a)) family_is
      ∙ address_back head f.group source 4 w (length-head f.family f.sourced) (width_le f.family) lg good.group_width)
      count_is
      (ap₂ (λ (a n : ℕ). address_in whole (4 + 4 * width a) (width a * n)) family_is count_is
      ∙ ap (address_in whole (4 + 4 * w)) (counted f good).words
      ∙ ap (λ (c : List ℕ). address_in c (4 + 4 * w) (source_words f.family f.sourced)) (sym (append_assoc head group source) ∙ ap (λ (c : List ℕ). head ++ group ++ c) (sym (append-nil source)))
      ∙ address_back (head ++ group) f.source [] (4 + 4 * w) (source_words f.family f.sourced) (length-append head group ∙ ap₂ ◌+◌ (length-head f.family f.sourced) length-group) (counted f good).most ls (counted f good).rest)

  pub back : FlowBack f
  unfolding flow_tlv flow_octets flow_of
  back = record { content = refl; formed = formed_back; named = flow-back }
