-- The TLVs of one type among those of a list. Assumes nothing.
use mathlib.Core.Path.{◌≡◌, refl, ap}
use Rattle.std.specs.Prelude.{filter, find, Option, None, Some}
use mathlib.Core.List.{List, [], ◌∷◌}
use mathlib.Core.Bool.{Bool, true, false, cond}
use Prim.Native.Nat.{ℕ, suc, ◌≤◌}
use native.Mathlib.Omega.{arith}
use lib.ListN.{length, get_or}
use lib.Dec.{eqb}
use borrow.Author.Tests.{eq-eqb, ne_eqb}
use Rattle.items.specs.Items.{Item, of_type, count_of, first_of, from_type}
use Rattle.items.proofs.Items.{Fit}

module _ {t : ℕ} (i : Item) (is : List Item) where
  pub of_hit : i.kind ≡ t → of_type t (i ∷ is) ≡ i.content ∷ of_type t is
  unfolding of_type
  of_hit h = rw (eq-eqb i.kind t h)

  pub of_miss : (i.kind ≡ t → ⊥) → of_type t (i ∷ is) ≡ of_type t is
  unfolding of_type
  of_miss h = rw (ne_eqb i.kind t h)

  pub count_miss : (i.kind ≡ t → ⊥) → count_of t (i ∷ is) ≡ count_of t is
  unfolding count_of
  count_miss h = rw (of_miss h)

  pub from_hit : i.kind ≡ t → from_type t (i ∷ is) ≡ i ∷ is
  unfolding from_type
  from_hit h = rw (eq-eqb i.kind t h)

  pub from_miss : (i.kind ≡ t → ⊥) → from_type t (i ∷ is) ≡ from_type t is
  unfolding from_type
  from_miss h = rw (ne_eqb i.kind t h)

-- the content of the first TLV of any type
abbrev pub head_content : List Item → List ℕ
head_content [] = []
head_content (i ∷ is) = i.content

-- ---- the TLVs from the first of a type on
module _ (t : ℕ) where
  head-by : (b : Bool) (i : Item) (is : List Item) → get_or (of_type t is) 0 [] ≡ head_content (from_type t is)
      → get_or (cond b (i.content ∷ of_type t is) (of_type t is)) 0 [] ≡ head_content (cond b (i ∷ is) (from_type t is))
  head-by true i is h = refl
  head-by false i is h = h

  -- begin with the first of that type
  pub first_from_lem : (is : List Item) → first_of t is ≡ head_content (from_type t is)
  unfolding first_of of_type from_type
  first_from_lem [] = refl
  first_from_lem (i ∷ is) = head-by (eqb i.kind t) i is (first_from_lem is)

  same_by : (b : Bool) (i : Item) (is : List Item) → eqb i.kind t ≡ b → of_type t (from_type t is) ≡ of_type t is
      → of_type t (cond b (i ∷ is) (from_type t is)) ≡ cond b (i.content ∷ of_type t is) (of_type t is)
  unfolding of_type
  same_by true i is e h = rw e
  same_by false i is e h = h

  -- and have all of them
  pub of_from : (is : List Item) → of_type t (from_type t is) ≡ of_type t is
  unfolding of_type from_type
  of_from [] = refl
  of_from (i ∷ is) = same_by (eqb i.kind t) i is refl (of_from is)

-- ---- each takes at most n octets, so the first of a type has at most n
fit_by : (n : ℕ) (b : Bool) (is js : List Item) → Fit n is → Fit n js → Fit n (cond b is js)
fit_by n true is js hi hj = hi
fit_by n false is js hi hj = hj

pub from_fits : (n t : ℕ) (is : List Item) → Fit n is → Fit n (from_type t is)
unfolding from_type
from_fits n t [] h = tt
from_fits n t (i ∷ is) h = fit_by n (eqb i.kind t) (i ∷ is) (from_type t is) h (from_fits n t is h.1)

head-fits : (n : ℕ) (is : List Item) → Fit n is → length (head_content is) ≤ n
head-fits n [] h = omega arith
head-fits n (i ∷ is) h = omega (arith, h.0)

pub first_fits : (n t : ℕ) (is : List Item) → Fit n is → length (first_of t is) ≤ n
first_fits n t is h = rw first_from_lem (head-fits n (from_type t is) (from_fits n t is h))

-- ---- in the library's words
abbrev pub content_of : Option Item → List ℕ
content_of None = []
content_of (Some i) = i.content

module _ (t : ℕ) where
  count-by : (b : Bool) (i : Item) (is : List Item) → length (filter (λ j. eqb j.kind t) is) ≡ length (of_type t is)
      → length (cond b (i ∷ filter (λ j. eqb j.kind t) is) (filter (λ j. eqb j.kind t) is)) ≡ length (cond b (i.content ∷ of_type t is) (of_type t is))
  count-by true i is h = ap suc h
  count-by false i is h = h

  pub counted : (is : List Item) → length (filter (λ i. eqb i.kind t) is) ≡ count_of t is
  unfolding count_of of_type
  counted [] = refl
  counted (i ∷ is) = count-by (eqb i.kind t) i is (counted is)

  found-by : (b : Bool) (i : Item) (is : List Item) → content_of (find (λ j. eqb j.kind t) is) ≡ get_or (of_type t is) 0 []
      → content_of (cond b (Some i) (find (λ j. eqb j.kind t) is)) ≡ get_or (cond b (i.content ∷ of_type t is) (of_type t is)) 0 []
  found-by true i is h = refl
  found-by false i is h = h

  pub found : (is : List Item) → content_of (find (λ i. eqb i.kind t) is) ≡ first_of t is
  unfolding first_of of_type
  found [] = refl
  found (i ∷ is) = found-by (eqb i.kind t) i is (found is)
