-- How many octets the TLVs of a received list take, with headers and padding: together at most those of the list, so that a Target and
-- a Command of one message fit it both. Assumes nothing.
use mathlib.Core.Path.{◌≡◌, refl, sym, ◌∙◌}
use mathlib.Core.List.{List, [], ◌∷◌, ◌++◌}
use mathlib.Core.Bool.{Bool, true, false, cond}
use Prim.Native.Nat.{ℕ, zero, suc, ◌+◌, ◌≤◌, ◌<◌}
use native.Mathlib.Omega.{arith}
use lib.ListN.{length, take, drop, get_or, length-drop}
use lib.Dec.{eqb}
use borrow.Author.Tests.{eqb-true}
use Rattle.octets.specs.Numbers.{be16, padded}
use Rattle.octets.proofs.Parts.{part_length}
use Rattle.tlv.specs.declared.First.{First}
use Rattle.tlv.specs.First.{first_tlv}
use Rattle.tlv.specs.Fold.{fold_by, fold_up_to, fold_tlvs}
use Rattle.tlv.proofs.Firsts.{FirstIs, ended, broke, stood, first_is}
use Rattle.items.specs.Items.{Item, item, items_of, of_type, count_of, first_of}
use Rattle.fields.specs.Fields.{circuit_ids, circuit_id}
use Rattle.writers.proofs.Tlvs.{length-tlv}
use Rattle.checks.specs.Table.{copy_of}

-- the octets of TLVs with these contents, and of these TLVs
pub total : List (List ℕ) → ℕ
total [] = 0
total (c ∷ cs) = 4 + padded (length c) + total cs

pub total_of : List Item → ℕ
total_of [] = 0
total_of (i ∷ is) = 4 + padded (length i.content) + total_of is

-- ---- of a whole list
abbrev turn : ℕ → List ℕ → List Item → List Item
turn t c is = item t c ∷ is

by_first : (rest : List ℕ → List Item) → ((s : List ℕ) → total_of (rest s) ≤ length s) → (s : List ℕ) (x : First) → FirstIs s x
    → total_of (fold_by [] [] turn rest s x) ≤ length s
unfolding fold_by total_of
by_first rest f s _ (ended h) = omega arith
by_first rest f s _ (broke h) = omega arith
by_first rest f s _ (stood h) =
    let e : length (take (be16 s 2) (drop 4 s)) ≡ be16 s 2 = part_length 4 (be16 s 2) s (omega arith) in
    let m : ℕ = 4 + padded (be16 s 2) in
    omega (arith, f (drop m s), length-drop m s)

up_to : (n : ℕ) (s : List ℕ) → total_of (fold_up_to [] [] turn n s) ≤ length s
unfolding fold_up_to total_of
up_to zero s = omega arith
up_to (suc n) s = by_first (fold_up_to [] [] turn n) (up_to n) s (first_tlv s) (first_is s)

pub total-fits : (s : List ℕ) → total_of (items_of s) ≤ length s
unfolding items_of fold_tlvs
total-fits s = up_to (length s) s

-- ---- of two types
apart_by : (a b : Bool) (c : List ℕ) (xs ys : List (List ℕ)) (n : ℕ) → (a ≡ true → b ≡ true → ⊥) → total xs + total ys ≤ n
    → total (cond a (c ∷ xs) xs) + total (cond b (c ∷ ys) ys) ≤ 4 + padded (length c) + n
unfolding total
apart_by true true c xs ys n d h = absurd (d refl refl)
apart_by true false c xs ys n d h = omega arith
apart_by false true c xs ys n d h = omega arith
apart_by false false c xs ys n d h = omega arith

module _ (t u : ℕ) (d : t ≡ u → ⊥) where
  pub two_types : (is : List Item) → total (of_type t is) + total (of_type u is) ≤ total_of is
  unfolding of_type total total_of
  two_types [] = omega arith
  two_types (i ∷ is) =
      apart_by (eqb i.kind t) (eqb i.kind u) i.content (of_type t is) (of_type u is) (total_of is)
      (λ x y. d (sym (eqb-true i.kind t x) ∙ eqb-true i.kind u y)) (two_types is)

-- ---- of one among those of a type, and of the first
pub among_fits : (front : List (List ℕ)) (c : List ℕ) (after : List (List ℕ)) → 4 + padded (length c) ≤ total (front ++ (c ∷ after))
unfolding total
among_fits [] c after = omega arith
among_fits (x ∷ front) c after = omega (arith, among_fits front c after)

head-fits : (cs : List (List ℕ)) → 0 < length cs → 4 + padded (length (get_or cs 0 [])) ≤ total cs
unfolding total
head-fits [] h = absurd (omega arith)
head-fits (c ∷ cs) h = omega arith

head-none : (cs : List (List ℕ)) → length cs ≡ 0 → length (get_or cs 0 []) ≡ 0
head-none [] h = refl
head-none (c ∷ cs) h = absurd (omega arith)

module _ (t : ℕ) (is : List Item) where
  pub first_fits : 0 < count_of t is → 4 + padded (length (first_of t is)) ≤ total (of_type t is)
  unfolding count_of first_of
  first_fits h = head-fits (of_type t is) h

  pub first-none : count_of t is ≡ 0 → length (first_of t is) ≡ 0
  unfolding count_of first_of
  first-none h = head-none (of_type t is) h

  pub type_fits : total (of_type t is) ≤ total_of is
  type_fits = omega (arith, two_types t (t + 1) (λ e. omega arith) is)

-- the circuit id of a Target
pub id-fits : (c : List ℕ) → 0 < circuit_ids c → 4 + padded (length (circuit_id c)) ≤ length c
id-fits c h = omega (arith, first_fits 0x0001 (items_of c) h, type_fits 0x0001 (items_of c), total-fits c)

-- those after the first take no more
pub tail_fits : (i : Item) (is : List Item) (n : ℕ) → total_of (i ∷ is) ≤ n → total_of is ≤ n
unfolding total_of
tail_fits i is n h = omega arith

pub copy_fits : (is : List Item) → padded (length (copy_of is)) ≤ total_of is
unfolding copy_of total_of
copy_fits [] = omega arith
copy_fits (i ∷ is) = omega (arith, length-tlv i.kind i.content)
