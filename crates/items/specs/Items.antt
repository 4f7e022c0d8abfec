-- The TLVs of a list, by type and content. Assumes nothing: these are definitions.
use Rattle.std.specs.Prelude.{ℕ, List, [], ◌∷◌, cond, length, get_or, eqb}
use Rattle.tlv.specs.Fold.{fold_tlvs}

pub record Item : Type 0 where
  pub kind : ℕ
  pub content : List ℕ

abbrev pub item : ℕ → List ℕ → Item
item t c = record { kind = t; content = c }

-- the TLVs of s in order, as far as no length is broken
unfoldable pub items_of : List ℕ → List Item
items_of s = fold_tlvs [] [] (λ t c is. item t c ∷ is) s

-- the contents of those of type t, in order; how many they are; the first, and nothing where there is none
unfoldable pub of_type : ℕ → List Item → List (List ℕ)
of_type t [] = []
of_type t (i ∷ is) = cond (eqb i.kind t) (i.content ∷ of_type t is) (of_type t is)

unfoldable pub count_of : ℕ → List Item → ℕ
count_of t is = length (of_type t is)

unfoldable pub first_of : ℕ → List Item → List ℕ
first_of t is = get_or (of_type t is) 0 []

-- the TLVs from the first one of type t on
unfoldable pub from_type : ℕ → List Item → List Item
from_type t [] = []
from_type t (i ∷ is) = cond (eqb i.kind t) (i ∷ is) (from_type t is)
