-- The TLVs of lists that are alike: the same types, with contents that are alike.
--     AlikeItems, items_alike       TLV by TLV
--     count_same, first_alike       those of one type
--     plain-same                    a TLV that is no holder has the same content
--     ids-same, order_same          a Target's circuit ids, and what a Command asks for
--     missing-same, faults_alike    what is missing, and what is at fault
-- Assumes nothing.
use Prim.Native.Nat.{ℕ, suc}
use mathlib.Core.Path.{◌≡◌, refl, sym, ap, ap₂, subst}
use mathlib.Core.Bool.{Bool, true, false, cond, not, ◌&&◌, ◌||◌}
use mathlib.Core.List.{List, [], ◌∷◌, ◌++◌}
use native.Mathlib.Omega.{arith}
use lib.ListN.{length, get_or}
use lib.Dec.{eqb}
use borrow.Author.Tests.{eqb-true}
use Rattle.items.specs.Items.{Item, item, items_of, of_type, count_of, first_of}
use Rattle.fields.specs.Fields.{circuit_ids, circuit_id, command_in, length_ok}
use Rattle.rules.specs.declared.Rule.{Rule}
use Rattle.rules.specs.Named.{lacks, missing, content_ok, stood, at_fault, from_fault}
use Rattle.commands.specs.Directives.{flow_count, flow_content, shape_ok, directive_of}
use Rattle.unread.specs.Alike.{tlv_with, tlvs, content, Alike, same, more, target, command, status}
use Rattle.unread.proofs.Tlvs.{items-with, alike_length}

pub data AlikeItems : List Item → List Item → Type 0 where
  no_items : AlikeItems [] []
  one_more : {k : ℕ} {c c' : List ℕ} {is is' : List Item} → Alike (content k) c c' → AlikeItems is is' → AlikeItems (item k c ∷ is) (item k c' ∷ is')

items_kept : (is : List Item) → AlikeItems is is
items_kept [] = no_items
items_kept (i ∷ is) = one_more same (items_kept is)

pub items_alike : {s s' : List ℕ} → Alike tlvs s s' → AlikeItems (items_of s) (items_of s')
items_alike {s} same = items_kept (items_of s)
items_alike (more {t} {c} {c'} {r} {r'} u u' i p p' a) =
    subst (λ (js : List Item). AlikeItems js (items_of (tlv_with t c' u' ++ r'))) (sym (items-with t c u r p))
    (subst (λ (js : List Item). AlikeItems (item t c ∷ items_of r) js) (sym (items-with t c' u' r' p')) (one_more i (items_alike a)))

pub items-length : {is is' : List Item} → AlikeItems is is' → length is ≡ length is'
items-length no_items = refl
items-length (one_more i a) = ap suc (items-length a)

-- ---- a TLV that is no holder
pub plain-same : {t : ℕ} {c c' : List ℕ} → Alike (content t) c c' → (t ≡ 0x1000 → ⊥) → (t ≡ 0x0011 → ⊥) → (t ≡ 0x0106 → ⊥) → c ≡ c'
plain-same same n k l = refl
plain-same (target a) n k l = absurd (n refl)
plain-same (command code accounting x y x' y' a) n k l = absurd (k refl)
plain-same (status kind x x' text u u' p p' a) n k l = absurd (l refl)

-- ---- those of type t
pub data AlikeAll (t : ℕ) : List (List ℕ) → List (List ℕ) → Type 0 where
  no_contents : AlikeAll t [] []
  one_content : {c c' : List ℕ} {cs cs' : List (List ℕ)} → Alike (content t) c c' → AlikeAll t cs cs' → AlikeAll t (c ∷ cs) (c' ∷ cs')

module _ (t : ℕ) where
  of_by : (k : ℕ) (b : Bool) (c c' : List ℕ) (cs cs' : List (List ℕ)) → eqb k t ≡ b → Alike (content k) c c' → AlikeAll t cs cs'
      → AlikeAll t (cond b (c ∷ cs) cs) (cond b (c' ∷ cs') cs')
  of_by k true c c' cs cs' e i a = one_content (subst (λ (n : ℕ). Alike (content n) c c') (eqb-true k t e) i) a
  of_by k false c c' cs cs' e i a = a

  pub of_alike : {is is' : List Item} → AlikeItems is is' → AlikeAll t (of_type t is) (of_type t is')
  unfolding of_type
  of_alike no_items = no_contents
  of_alike (one_more {k} {c} {c'} {is} {is'} i a) = of_by k (eqb k t) c c' (of_type t is) (of_type t is') refl i (of_alike a)

  all_length : {cs cs' : List (List ℕ)} → AlikeAll t cs cs' → length cs ≡ length cs'
  all_length no_contents = refl
  all_length (one_content i a) = ap suc (all_length a)

  all_first : {cs cs' : List (List ℕ)} → AlikeAll t cs cs' → Alike (content t) (get_or cs 0 []) (get_or cs' 0 [])
  all_first no_contents = same
  all_first (one_content i a) = i

  module _ {is is' : List Item} (a : AlikeItems is is') where
    pub count_same : count_of t is ≡ count_of t is'
    unfolding count_of
    count_same = all_length (of_alike a)

    pub first_alike : Alike (content t) (first_of t is) (first_of t is')
    unfolding first_of
    first_alike = all_first (of_alike a)

    pub first-same : (t ≡ 0x1000 → ⊥) → (t ≡ 0x0011 → ⊥) → (t ≡ 0x0106 → ⊥) → first_of t is ≡ first_of t is'
    first-same n k l = plain-same first_alike n k l

-- ---- a Target's circuit ids
pub ids-same : {t : ℕ} {c c' : List ℕ} → Alike (content t) c c' → t ≡ 0x1000 → (circuit_ids c ≡ circuit_ids c') × (circuit_id c ≡ circuit_id c')
ids-same same e = (refl, refl)
ids-same (target a) e =
    let is = items_alike a in
    (count_same 0x0001 is, first-same 0x0001 is (λ k. omega arith) (λ k. omega arith) (λ k. omega arith))
ids-same (command code accounting x y x' y' a) e = absurd (omega arith)
ids-same (status kind x x' text u u' p p' a) e = absurd (omega arith)

-- ---- what a Command asks for
module _ {i i' : List ℕ} (code accounting x y x' y' : ℕ) (a : Alike tlvs i i') where
  abbrev c : List ℕ
  c = code ∷ accounting ∷ x ∷ y ∷ i

  abbrev c' : List ℕ
  c' = code ∷ accounting ∷ x' ∷ y' ∷ i'

  flow_count_lem : flow_count c ≡ flow_count c'
  unfolding flow_count
  flow_count_lem = count_same 0x0019 (items_alike a)

  flow-content : flow_content c ≡ flow_content c'
  unfolding flow_content
  flow-content = first-same 0x0019 (items_alike a) (λ k. omega arith) (λ k. omega arith) (λ k. omega arith)

  command_order : directive_of c ≡ directive_of c'
  unfolding directive_of shape_ok command_in
  command_order = rw (flow_count_lem, flow-content)

pub order_same : {t : ℕ} {c c' : List ℕ} → Alike (content t) c c' → t ≡ 0x0011 → directive_of c ≡ directive_of c'
order_same same e = refl
order_same (target a) e = absurd (omega arith)
order_same (command code accounting x y x' y' a) e = command_order code accounting x y x' y' a
order_same (status kind x x' text u u' p p' a) e = absurd (omega arith)

-- ---- what is missing, and what is at fault
pub missing-same : (rs : List Rule) {is is' : List Item} → AlikeItems is is' → missing rs is ≡ missing rs is'
unfolding missing lacks
missing-same [] a = refl
missing-same (r ∷ rs) a = rw (count_same r.kind a, count_same r.instead a, missing-same rs a)

content-by : (k : ℕ) (c c' : List ℕ) (b : Bool) → eqb k 0x1000 ≡ b → (k ≡ 0x1000 → circuit_ids c ≡ circuit_ids c') → length c ≡ length c'
    → cond b (eqb (circuit_ids c) 1) (length_ok k c) ≡ cond b (eqb (circuit_ids c') 1) (length_ok k c')
unfolding length_ok
content-by k c c' true e f g = ap (λ (n : ℕ). eqb n 1) (f (eqb-true k 0x1000 e))
content-by k c c' false e f g = rw g

content-same : {k : ℕ} {c c' : List ℕ} → Alike (content k) c c' → content_ok k c ≡ content_ok k c'
unfolding content_ok
content-same {k} {c} {c'} i = content-by k c c' (eqb k 0x1000) refl (λ e. (ids-same i e).0) (alike_length i)

fault-same : (rs : List Rule) (before : List ℕ) {k : ℕ} {c c' : List ℕ} → Alike (content k) c c' → at_fault rs before (item k c) ≡ at_fault rs before (item k c')
unfolding at_fault
fault-same [] before i = refl
fault-same (r ∷ rs) before {k} i =
    ap₂ (λ (x y : Bool). cond (eqb k r.kind) ((r.single && stood k before) || not x) y) (content-same i) (fault-same rs before i)

by-test : {xs xs' ys ys' : List Item} (b b' : Bool) → b ≡ b' → AlikeItems xs xs' → AlikeItems ys ys' → AlikeItems (cond b xs ys) (cond b' xs' ys')
by-test {xs} {xs'} {ys} {ys'} b b' e f g = subst (λ (z : Bool). AlikeItems (cond b xs ys) (cond z xs' ys')) e (go b)
  where
    go : (z : Bool) → AlikeItems (cond z xs ys) (cond z xs' ys')
    go true = f
    go false = g

pub faults_alike : (rs : List Rule) (is is' : List Item) → AlikeItems is is' → (before : List ℕ) → AlikeItems (from_fault rs before is) (from_fault rs before is')
unfolding from_fault
faults_alike rs _ _ no_items before = no_items
faults_alike rs _ _ (one_more {k} {c} {c'} {is} {is'} i a) before =
    by-test (at_fault rs before (item k c)) (at_fault rs before (item k c')) (fault-same rs before i) (one_more i a) (faults_alike rs is is' a (k ∷ before))
