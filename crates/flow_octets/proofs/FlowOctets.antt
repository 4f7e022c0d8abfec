-- What a well-formed content has, and the octets of words.
--     formed                      the length and count of a well-formed content
--     octets-turn                 one turn of a loop that writes words one after the other
--     length-octets               how many octets there are
-- Assumes nothing.
use Prim.Native.Nat.{ℕ, ◌+◌, ◌-◌, ◌*◌, ◌%◌, ◌≤◌, ◌<◌}
use mathlib.Core.Path.{◌≡◌, refl, sym, ap, ap₂, ◌∙◌}
use mathlib.Core.Bool.{Bool, true, false, cond, false≢true}
use mathlib.Core.List.{List, [], ◌∷◌, ◌++◌, append-nil, append_assoc}
use lib.ListN.{length, take, get_or, length-append}
use lib.Seq.{take-suc, length-take-le}
use lib.Dec.{eqb, ltb}
use native.Mathlib.Nat.{mul-le-mul, mul-suc, sub-zero}
use native.Mathlib.Numerals.{add-one}
use native.Mathlib.Omega.{arith}
use borrow.Author.Tests.{eqb-true, ltb-true}
use Rattle.octets.specs.Numbers.{be8, be16, oct32}
use Rattle.octets.proofs.Numbers.{length-oct32}
use Rattle.octets.specs.Writing.{over, Wrote}
use Rattle.octets.proofs.Writing.{over_front}
use Rattle.octets.proofs.Tests.{each}
use Rattle.flows.specs.Words.{octets_of}
use Rattle.fields.specs.Flow.{width_of, length_agrees}
use Rattle.flows.specs.Flows.{width}
use Rattle.flows.specs.declared.Flow.{Flow}
use Rattle.writers.specs.Tlvs.{flow_of}
use Rattle.flow_octets.specs.FlowOctets.{type_ok, flow_formed, source_count, source_words, flow_tlv}

-- ---- products of small numbers
pub small : (w n : ℕ) → w ≤ 4 → n ≤ 65536 → w * n ≤ 262144
small w n hw hn = mul-le-mul hw hn

pub one_more : (w n : ℕ) → w * (n + 1) ≡ w * n + w
one_more w n = ap (λ (k : ℕ). w * k) (add-one n) ∙ mul-suc w n

-- ---- a well-formed content
pub record Formed (c : List ℕ) : Type 0 where
  pub long : 4 ≤ length c
  pub count : be16 c 2 ≤ 1
  pub words : width (be8 c 1) * be16 c 2 ≤ 4
  pub size : length c ≡ 4 + 4 * width (be8 c 1) + 4 * (width (be8 c 1) * be16 c 2)

pub width_le : (n : ℕ) → width n ≤ 4
unfolding width
width_le n = go (eqb n 1)
  where
    go : (b : Bool) → cond b 1 4 ≤ 4
    go true = omega arith
    go false = omega arith

count_le : (kind count : ℕ) → type_ok kind count ≡ true → count ≤ 1
unfolding type_ok
count_le kind count e = go (eqb kind 1) (eqb kind 2) e
  where
    go : (x y : Bool) → cond x (eqb count 0) (cond y (eqb count 1) false) ≡ true → count ≤ 1
    go true y e = omega (arith, eqb-true count 0 e)
    go false true e = omega (arith, eqb-true count 1 e)
    go false false e = absurd (false≢true e)

-- an address of a known family takes four octets a word
by_family_lem : (x y : Bool) → 0 < cond x 4 (cond y 16 0) → cond x 4 (cond y 16 0) ≡ 4 * cond x 1 4
by_family_lem true y h = refl
by_family_lem false true h = refl
by_family_lem false false h = absurd (omega arith)

pub width-octets : (family : ℕ) → 0 < width_of family → width_of family ≡ 4 * width family
unfolding width_of width
width-octets family h = by_family_lem (eqb family 1) (eqb family 2) h

pub formed : (c : List ℕ) → flow_formed c ≡ true → Formed c
unfolding flow_formed length_agrees
formed c e =
    let w = width (be8 c 1) in
    let n = be16 c 2 in
    let t = each (type_ok (be8 c 0) n ∷ length_agrees (be8 c 1) n (length c) ∷ []) e in
    let u = each (ltb 0 (width_of (be8 c 1)) ∷ eqb (length c) (4 + width_of (be8 c 1) * (n + 1)) ∷ []) t.1.0 in
    let k = count_le (be8 c 0) n t.0 in
    let p : w * n ≤ 4 * 1 = mul-le-mul (width_le (be8 c 1)) k in
    let o = width-octets (be8 c 1) (ltb-true _ _ u.0) in
    let s : length c ≡ 4 + 4 * w * (n + 1) = eqb-true _ _ u.1.0 ∙ ap (λ (v : ℕ). 4 + v * (n + 1)) o in
    record {
      long = omega arith;
      count = k;
      words = p;
      size = omega (arith, s, one_more w n);
    }

-- ---- the octets of words
octets-append : (xs ys : List ℕ) → octets_of (xs ++ ys) ≡ octets_of xs ++ octets_of ys
unfolding octets_of
octets-append [] ys = refl
octets-append (x ∷ xs) ys = ap (λ (r : List ℕ). oct32 x ++ r) (octets-append xs ys) ∙ sym (append_assoc (oct32 x) (octets_of xs) (octets_of ys))

pub octets-turn : (i : ℕ) (a : List ℕ) → i < length a → octets_of (take i a) ++ oct32 (get_or a i 0) ≡ octets_of (take (i + 1) a)
unfolding octets_of
octets-turn i a h =
    ap (λ (r : List ℕ). octets_of (take i a) ++ r) (sym (append-nil (oct32 (get_or a i 0))))
    ∙ sym (octets-append (take i a) (get_or a i 0 ∷ []))
    ∙ ap octets_of (sym (take-suc a i 0 h))
    ∙ ap (λ (n : ℕ). octets_of (take n a)) (sym (add-one i))

pub length-octets : (xs : List ℕ) → length (octets_of xs) ≡ 4 * length xs
unfolding octets_of
length-octets [] = refl
length-octets (x ∷ xs) = simp (length-append, length-oct32) (omega (arith, length-octets xs))

-- of the first words of an address
pub length-first : (i : ℕ) (a : List ℕ) → i ≤ length a → length (octets_of (take i a)) ≡ 4 * i
length-first i a h = length-octets (take i a) ∙ ap (λ (n : ℕ). 4 * n) (length-take-le i a h)

-- ---- the TLV for a flow, from its parts as they are written: n octets of g and m of s
front : (w l : List ℕ) {x : List ℕ} (n : ℕ) → x ≡ over w l → n ≡ length w → take (n - 0) x ≡ w
front w l {x} n e h = ap (λ (k : ℕ). take k x) (sub-zero n) ∙ over_front w l n e h

module _ (f : Flow) {count words after : ℕ} (ec : count ≡ source_count f.sourced) (ew : words ≡ width f.family) (eb : after ≡ source_words f.family f.sourced)
    (l : List ℕ) {g s : List ℕ} {n m : ℕ}
    (wg : Wrote (octets_of (take words f.group)) n l g) (ws : Wrote (octets_of (take after f.source)) m l s) where
  pub tlv_is : flow_of (count + 1) (f.family % 256) count (take (n - 0) g) (take (m - 0) s) ≡ flow_tlv f
  unfolding flow_tlv
  tlv_is =
      ap₂ (flow_of (count + 1) (f.family % 256) count) (front _ l n wg.text wg.size) (front _ l m ws.text ws.size)
      ∙ rw (ec, ew, eb)
