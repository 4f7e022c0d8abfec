-- The walk to the first TLV at fault.
--     place_some, place-none         the place of the rule for a type, as the code finds it
--     walk_start, walk-free, walk-good, walk-fault, walk_end     its beginning, one turn, and its end
--     extent_fault, extent_last      how far it goes, by where it ends
--     turn-free, turn_below, turn-good, turn-fault      one turn, by a step of the reader
--     extent_all, extent_fits, extent_rest, extent_bad     what is known by it
-- Assumes nothing.
use mathlib.Core.Path.{◌≡◌, refl, sym, ap, subst, ◌∙◌}
use mathlib.Core.Bool.{Bool, true, false, cond, not, ◌&&◌, ◌||◌, false≢true}
use mathlib.Core.List.{List, [], ◌∷◌}
use Prim.Native.Nat.{ℕ, zero, suc, ◌+◌, ◌≤◌, ◌<◌}
use native.Mathlib.Omega.{arith}
use native.Mathlib.Numerals.{one-add}
use lib.ListN.{length, take, drop, get_or, set, replicate}
use lib.Seq.{get_or-set_same, get_or-set_other}
use lib.Dec.{eqb, ltb}
use borrow.Author.Tests.{ltb-true, ltb-false, eqb-true, eqb-false, eq-eqb, ne_eqb}
use Rattle.std.specs.Prelude.{Option, Some, None, nat_lt, position, unwrap_or}
use Rattle.std.specs.List.{position_or_len}
use Rattle.std.proofs.lemmas.List.Recursion.{is_position_or_len}
use Rattle.tlv.specs.declared.First.TheVariants.{Tlv}
use Rattle.reader.specs.declared.Step.{Step}
use Rattle.reader.specs.Reader.{step_at}
use Rattle.reader.proofs.Steps.{step-tlv}
use Rattle.items.specs.Items.{Item, item, items_of, of_type, count_of}
use Rattle.rules.specs.declared.Rule.{Rule}
use Rattle.rules.specs.Named.{missing, content_ok, stood, at_fault, from_fault, HasExtent}
use Rattle.rules.proofs.Named.{none, Marked}

-- ---- the place of the rule for a type
-- the first of that type; as many as there are where there is none
unfoldable pub place_of : ℕ → List Rule → ℕ
place_of t [] = 0
place_of t (r ∷ rs) = cond (eqb t r.kind) 0 (suc (place_of t rs))

module _ (t : ℕ) where
  -- as the code has it
  abbrev its : Rule → Bool
  its r = eqb t r.kind

  place_is : (rs : List Rule) → place_of t rs ≡ position_or_len its rs
  unfolding place_of
  place_is = is_position_or_len (place_of t) its refl (λ r rs. ap (cond (its r) 0) (sym (one-add (place_of t rs))))

  pub place_some : (rs : List Rule) {j : ℕ} → position its rs ≡ Some j → (j ≡ place_of t rs) × (j < length rs)
  place_some rs {j} e = by (nat_lt (position_or_len its rs) (length rs)) refl e
    where
      by : (b : Bool) → nat_lt (position_or_len its rs) (length rs) ≡ b → cond b (Some (position_or_len its rs)) None ≡ Some j → (j ≡ place_of t rs) × (j < length rs)
      by true l k = let same : position_or_len its rs ≡ j = ap (λ (o : Option ℕ). unwrap_or o 0) k in (sym (place_is rs ∙ same), omega (arith, same, ltb-true _ _ l))
      by false l k = cc

  pub place-none : (rs : List Rule) → position its rs ≡ None → length rs ≤ place_of t rs
  place-none rs e = by (nat_lt (position_or_len its rs) (length rs)) refl e
    where
      by : (b : Bool) → nat_lt (position_or_len its rs) (length rs) ≡ b → cond b (Some (position_or_len its rs)) None ≡ None → length rs ≤ place_of t rs
      by true l k = cc
      by false l k = omega (arith, place_is rs, ltb-false _ _ l)

  -- what stands there
  pub placed : (rs : List Rule) → place_of t rs < length rs → (get_or rs (place_of t rs) none).kind ≡ t
  unfolding place_of
  placed [] h = absurd (omega arith)
  placed (r ∷ rs) h = go (eqb t r.kind) refl h (placed rs)
    where
      go : (b : Bool) → eqb t r.kind ≡ b → cond b 0 (suc (place_of t rs)) < suc (length rs)
          → (place_of t rs < length rs → (get_or rs (place_of t rs) none).kind ≡ t) → (get_or (r ∷ rs) (cond b 0 (suc (place_of t rs))) none).kind ≡ t
      go true e k f = sym (eqb-true t r.kind e)
      go false e k f = f (omega arith)

-- ---- whether a TLV is at fault, by the place of its rule
module _ (before : List ℕ) (i : Item) where
  -- by one rule
  abbrev pub fault_by : Rule → Bool
  fault_by r = (r.single && stood i.kind before) || not (content_ok i.kind i.content)

  pub fault-at : (rs : List Rule) → place_of i.kind rs < length rs → at_fault rs before i ≡ fault_by (get_or rs (place_of i.kind rs) none)
  unfolding place_of at_fault
  fault-at [] h = absurd (omega arith)
  fault-at (r ∷ rs) h = go (eqb i.kind r.kind) h (fault-at rs)
    where
      go : (b : Bool) → cond b 0 (suc (place_of i.kind rs)) < suc (length rs)
          → (place_of i.kind rs < length rs → at_fault rs before i ≡ fault_by (get_or rs (place_of i.kind rs) none))
          → cond b (fault_by r) (at_fault rs before i) ≡ fault_by (get_or (r ∷ rs) (cond b 0 (suc (place_of i.kind rs))) none)
      go true k f = refl
      go false k f = f (omega arith)

  pub fault-none : (rs : List Rule) → length rs ≤ place_of i.kind rs → at_fault rs before i ≡ false
  unfolding place_of at_fault
  fault-none [] h = refl
  fault-none (r ∷ rs) h = go (eqb i.kind r.kind) h (fault-none rs)
    where
      go : (b : Bool) → suc (length rs) ≤ cond b 0 (suc (place_of i.kind rs)) → (length rs ≤ place_of i.kind rs → at_fault rs before i ≡ false)
          → cond b (fault_by r) (at_fault rs before i) ≡ false
      go true k f = absurd (omega arith)
      go false k f = f (omega arith)

-- ---- a walk that has passed some TLVs; `rest` are those that are left, and `seen` tells of each rule whether one stood before
pub record Walked (rs : List Rule) (seen : List Bool) (all rest : List Item) : Type 0 where
  pub before : List ℕ
  pub same : from_fault rs [] all ≡ from_fault rs before rest
  pub marks : (t : ℕ) → place_of t rs < length rs → get_or seen (place_of t rs) false ≡ stood t before
  pub stands : (t : ℕ) → eqb (count_of t rest) 0 ≡ false → eqb (count_of t all) 0 ≡ false
  pub marked : Marked rs seen all

none_seen : (n k : ℕ) → get_or (replicate n false) k false ≡ false
none_seen zero k = refl
none_seen (suc n) zero = refl
none_seen (suc n) (suc k) = none_seen n k

pub walk_start : (rs : List Rule) (n : ℕ) (all : List Item) → Walked rs (replicate n false) all all
unfolding stood
walk_start rs n all =
    record {
      before = [];
      same = refl;
      marks = λ t h. none_seen n (place_of t rs);
      stands = λ t h. h;
      marked = λ j h. absurd (false≢true (sym (none_seen n j) ∙ h));
    }

pub walk_end : {rs : List Rule} {seen : List Bool} {all rest : List Item} → Walked rs seen all rest → rest ≡ [] → rest ≡ from_fault rs [] all
unfolding from_fault
walk_end {rs} w e = e ∙ sym (w.same ∙ ap (from_fault rs w.before) e)

module _ (rs : List Rule) (seen : List Bool) (all : List Item) (i : Item) (is : List Item) (w : Walked rs seen all (i ∷ is)) where
  goes_on : at_fault rs w.before i ≡ false → from_fault rs [] all ≡ from_fault rs (i.kind ∷ w.before) is
  unfolding from_fault
  goes_on e = w.same ∙ ap (λ (b : Bool). cond b (i ∷ is) (from_fault rs (i.kind ∷ w.before) is)) e

  stood_other : (t : ℕ) → (i.kind ≡ t → ⊥) → stood t w.before ≡ stood t (i.kind ∷ w.before)
  unfolding stood
  stood_other t n = ap (λ (b : Bool). b || stood t w.before) (sym (ne_eqb i.kind t n))

  count_by : (b : Bool) (l : List (List ℕ)) → eqb (length l) 0 ≡ false → eqb (length (cond b (i.content ∷ l) l)) 0 ≡ false
  count_by true l h = ne_eqb (length (i.content ∷ l)) 0 (λ e. omega arith)
  count_by false l h = h

  -- what stands after it stands in what is left
  stands_on : (t : ℕ) → eqb (count_of t is) 0 ≡ false → eqb (count_of t all) 0 ≡ false
  unfolding count_of of_type
  stands_on t h = w.stands t (count_by (eqb i.kind t) (of_type t is) h)

  -- its type has no rule
  pub walk-free : length rs ≤ place_of i.kind rs → Walked rs seen all is
  walk-free h =
      record {
        before = i.kind ∷ w.before;
        same = goes_on (fault-none w.before i rs h);
        marks = λ t k. w.marks t k ∙ stood_other t (λ e. let z = ap (λ (x : ℕ). place_of x rs) e in omega arith);
        stands = stands_on;
        marked = w.marked;
      }

  module _ (j : ℕ) (e : j ≡ place_of i.kind rs) (h : j < length rs) where
    here : place_of i.kind rs < length rs
    here = omega arith

    -- as the code tests it
    abbrev test : Bool
    test = ((get_or rs j none).single && get_or seen j false) || not (content_ok i.kind i.content)

    tested : (b : Bool) → test ≡ b → at_fault rs w.before i ≡ b
    tested b t =
        fault-at w.before i rs here
        ∙ ap (λ (x : Bool). ((get_or rs (place_of i.kind rs) none).single && x) || not (content_ok i.kind i.content)) (sym (w.marks i.kind here))
        ∙ ap (λ (x : ℕ). ((get_or rs x none).single && get_or seen x false) || not (content_ok i.kind i.content)) (sym e)
        ∙ t

    pub walk-fault : test ≡ true → from_fault rs [] all ≡ i ∷ is
    unfolding from_fault
    walk-fault t = w.same ∙ ap (λ (b : Bool). cond b (i ∷ is) (from_fault rs (i.kind ∷ w.before) is)) (tested true t)

    marks_on : j < length seen → (t : ℕ) → place_of t rs < length rs → (b : Bool) → eqb i.kind t ≡ b → get_or (set seen j true) (place_of t rs) false ≡ stood t (i.kind ∷ w.before)
    unfolding stood
    marks_on l t k true s =
        ap (λ (x : ℕ). get_or (set seen j true) (place_of x rs) false) (sym (eqb-true i.kind t s))
        ∙ ap (λ (x : ℕ). get_or (set seen j true) x false) (sym e)
        ∙ get_or-set_same seen j true false l
        ∙ ap (λ (b : Bool). b || stood t w.before) (sym s)
    marks_on l t k false s =
        get_or-set_other seen j (place_of t rs) true false (λ z. eqb-false i.kind t s (other z))
        ∙ w.marks t k
        ∙ ap (λ (b : Bool). b || stood t w.before) (sym s)
      where
        other : place_of t rs ≡ j → i.kind ≡ t
        other z = sym (placed i.kind rs here) ∙ ap (λ (x : ℕ). (get_or rs x none).kind) (sym e ∙ sym z) ∙ placed t rs k

    -- it stands itself
    stands_here : eqb (count_of i.kind all) 0 ≡ false
    unfolding count_of of_type
    stands_here = w.stands i.kind (ap (λ (b : Bool). eqb (length (cond b (i.content ∷ of_type i.kind is) (of_type i.kind is))) 0) (eq-eqb i.kind i.kind refl) ∙ ne_eqb (length (i.content ∷ of_type i.kind is)) 0 (λ e. omega arith))

    marked_by : (k : ℕ) → get_or (set seen j true) k false ≡ true → (b : Bool) → eqb k j ≡ b → eqb (count_of (get_or rs k none).kind all) 0 ≡ false
    marked_by k m true s =
        ap (λ (x : ℕ). eqb (count_of (get_or rs x none).kind all) 0) (eqb-true k j s ∙ e)
        ∙ ap (λ (x : ℕ). eqb (count_of x all) 0) (placed i.kind rs here)
        ∙ stands_here
    marked_by k m false s = w.marked k (sym (get_or-set_other seen j k true false (eqb-false k j s)) ∙ m)

    pub walk-good : j < length seen → test ≡ false → Walked rs (set seen j true) all is
    walk-good l t =
        record {
          before = i.kind ∷ w.before;
          same = goes_on (tested false t);
          marks = λ x k. marks_on l x k (eqb i.kind x) refl;
          stands = stands_on;
          marked = λ k m. marked_by k m (eqb k j) refl;
        }

-- ---- how far it goes
pub empty_by : {A : Type 0} (l : List A) → ltb 0 (length l) ≡ false → l ≡ []
empty_by [] h = refl
empty_by (x ∷ l) h = absurd (omega (arith, ltb-false 0 (length (x ∷ l)) h))

module _ (rs : List Rule) (s : List ℕ) (at : ℕ) (fit : at ≤ length s) where
  -- up to a TLV at fault
  pub extent_fault : {i : Item} {is : List Item} → items_of (drop at s) ≡ i ∷ is → from_fault rs [] (items_of s) ≡ i ∷ is → HasExtent rs s (Some at)
  unfolding HasExtent
  extent_fault e f = (fit, e ∙ sym f, λ m g. omega (arith, ap length f, ap length g))

  -- to the end of them, by what is missing
  pub extent_last : (b : Bool) → ltb 0 (length (missing rs (items_of s))) ≡ b → items_of (drop at s) ≡ [] → from_fault rs [] (items_of s) ≡ [] → HasExtent rs s (cond b (Some at) None)
  unfolding HasExtent
  extent_last true m e f = (fit, e ∙ sym f, λ n g. omega (arith, ltb-true 0 (length (missing rs (items_of s))) m, ap length n))
  extent_last false m e f = (empty_by (missing rs (items_of s)) m, f)

-- what is known by it
module _ (rs : List Rule) (s : List ℕ) {r : Option ℕ} (has : HasExtent rs s r) where
  pub extent_all : r ≡ None → (missing rs (items_of s) ≡ []) × (from_fault rs [] (items_of s) ≡ [])
  unfolding HasExtent
  extent_all e = subst (HasExtent rs s) e has

  module _ {at : ℕ} (e : r ≡ Some at) where
    up_to : HasExtent rs s (Some at)
    up_to = subst (HasExtent rs s) e has

    pub extent_fits : at ≤ length s
    unfolding HasExtent
    extent_fits = up_to.0

    pub extent_rest : items_of (drop at s) ≡ from_fault rs [] (items_of s)
    unfolding HasExtent
    extent_rest = up_to.1

    pub extent_bad : missing rs (items_of s) ≡ [] → from_fault rs [] (items_of s) ≡ [] → ⊥
    unfolding HasExtent
    extent_bad = up_to.2

-- ---- one turn of the walk, by a step of the reader that found a TLV
abbrev content_at : List ℕ → ℕ → ℕ → List ℕ
content_at s at n = take n (drop (at + 4) s)

module _ (rs : List Rule) (seen : List Bool) (s : List ℕ) (at : ℕ) (w : Walked rs seen (items_of s) (items_of (drop at s))) {x : Step} (e : x ≡ step_at s at) {t n m : ℕ} (f : x.first ≡ Tlv t n m) where
  begun : Walked rs seen (items_of s) (item t (content_at s at n) ∷ items_of (drop x.next s))
  begun = subst (Walked rs seen (items_of s)) (step-tlv s at e f) w

  pub turn-free : {o : Option ℕ} → o ≡ position (its t) rs → o ≡ None → Walked rs seen (items_of s) (items_of (drop x.next s))
  turn-free p q = walk-free rs seen (items_of s) (item t (content_at s at n)) (items_of (drop x.next s)) begun (place-none t rs (sym p ∙ q))

  module _ {o : Option ℕ} (p : o ≡ position (its t) rs) {j : ℕ} (q : o ≡ Some j) where
    pub turn_below : j < length rs
    turn_below = (place_some t rs (sym p ∙ q)).1

    module _ {b : Bool} (tested : b ≡ (((get_or rs j none).single && get_or seen j false) || not (content_ok t (content_at s at n)))) where
      pub turn-fault : at ≤ length s → b ≡ true → HasExtent rs s (Some at)
      turn-fault fit h =
          extent_fault rs s at fit (step-tlv s at e f)
          (walk-fault rs seen (items_of s) (item t (content_at s at n)) (items_of (drop x.next s)) begun j (place_some t rs (sym p ∙ q)).0 turn_below (sym tested ∙ h))

      pub turn-good : j < length seen → b ≡ false → Walked rs (set seen j true) (items_of s) (items_of (drop x.next s))
      turn-good l h =
          walk-good rs seen (items_of s) (item t (content_at s at n)) (items_of (drop x.next s)) begun j (place_some t rs (sym p ∙ q)).0 turn_below l (sym tested ∙ h)
