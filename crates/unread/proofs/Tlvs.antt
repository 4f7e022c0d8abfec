-- Lists of TLVs that are alike have one length, and pass the check of lengths and depth both or neither.
--     items-with, list_with      a list that begins with a TLV, whatever its padding
--     alike_length               one length
--     list_same                  the check
-- Assumes nothing.
use Prim.Native.Nat.{ℕ, zero, suc, ◌+◌}
use mathlib.Core.Path.{◌≡◌, refl, sym, ap, ap₂, ◌∙◌}
use mathlib.Core.Bool.{Bool, true, false, cond, ◌&&◌, and-false}
use mathlib.Core.List.{List, ◌∷◌, ◌++◌, append_assoc}
use native.Mathlib.Omega.{arith}
use lib.ListN.{length, take, drop, length-append}
use lib.Seq.{take_at, drop_at}
use lib.Dec.{eqb, leb}
use borrow.Author.Tests.{le-leb, ne_eqb}
use Rattle.octets.specs.Numbers.{be16, oct8, oct16, padded}
use Rattle.tlv.specs.declared.First.TheVariants.{Tlv}
use Rattle.tlv.specs.declared.Inside.TheVariants.{Plain, Holds}
use Rattle.tlv.specs.First.{first_tlv}
use Rattle.tlv.specs.Depth.{status_inside, inside_of, held_ok, inside_ok, all_tlvs, list_ok}
use Rattle.tlv.proofs.Firsts.{first-stood}
use Rattle.tlv.proofs.Depth.{all_tlv}
use Rattle.items.specs.Items.{item, items_of}
use Rattle.items.proofs.Items.{items-tlv}
use Rattle.unread.specs.Alike.{Pads, tlv_with, status_with, Part, tlvs, content, Alike, same, more, target, command, status}

-- ---- a list that begins with a TLV, whatever its padding
module _ (t : ℕ) (c u r : List ℕ) (p : Pads c u) where
  type_with : be16 (tlv_with t c u ++ r) 0 ≡ t
  unfolding oct16
  type_with = omega arith

  length-with : be16 (tlv_with t c u ++ r) 2 ≡ length c
  unfolding oct16
  length-with = omega arith

  tlv_size : length (tlv_with t c u) ≡ 4 + padded (length c)
  unfolding oct16
  tlv_size = simp length-append (omega (arith, p))

  pub size_with : length (tlv_with t c u ++ r) ≡ 4 + padded (length c) + length r
  size_with = omega (arith, length-append (tlv_with t c u) r, tlv_size)

  first-with : Tlv t (length c) (4 + padded (length c)) ≡ first_tlv (tlv_with t c u ++ r)
  first-with = first-stood (tlv_with t c u ++ r) _ _ _ (sym type_with) (sym length-with) (rw length-with) (omega (arith, size_with))

  content-with : take (length c) (drop 4 (tlv_with t c u ++ r)) ≡ c
  unfolding oct16
  content-with = ap (take (length c)) (append_assoc c u r) ∙ take_at c (u ++ r) (length c) refl

  rest-with : drop (4 + padded (length c)) (tlv_with t c u ++ r) ≡ r
  rest-with = drop_at (tlv_with t c u) r _ tlv_size

  pub items-with : items_of (tlv_with t c u ++ r) ≡ item t c ∷ items_of r
  items-with =
      items-tlv (tlv_with t c u ++ r) first-with refl
      ∙ ap (λ (w : List ℕ). item t w ∷ items_of (drop (4 + padded (length c)) (tlv_with t c u ++ r))) content-with
      ∙ ap (λ (w : List ℕ). item t c ∷ items_of w) rest-with

  pub list_with : (d : ℕ) (b : Bool) → list_ok (suc d) b (tlv_with t c u ++ r) ≡ (inside_ok (list_ok d) b t c && list_ok (suc d) b r)
  unfolding list_ok
  list_with d b =
      all_tlv (inside_ok (list_ok d) b) (tlv_with t c u ++ r) first-with (inside_ok (list_ok d) b t c) refl (ap (inside_ok (list_ok d) b t) (sym content-with))
      ∙ ap (λ (w : List ℕ). inside_ok (list_ok d) b t c && all_tlvs (inside_ok (list_ok d) b) w) rest-with

-- ---- the content of a Status-Info
module _ (x kind : ℕ) (text u i : List ℕ) (p : Pads text u) where
  head_size : length (status_with x kind text u) ≡ 4 + padded (length text)
  unfolding oct8 oct16
  head_size = simp length-append (omega (arith, p))

  status_size : length (status_with x kind text u ++ i) ≡ 4 + padded (length text) + length i
  status_size = omega (arith, length-append (status_with x kind text u) i, head_size)

  status_text_lem : be16 (status_with x kind text u ++ i) 2 ≡ length text
  unfolding oct8 oct16
  status_text_lem = omega arith

  status-rest : drop (4 + padded (length text)) (status_with x kind text u ++ i) ≡ i
  status-rest = drop_at (status_with x kind text u) i _ head_size

-- ---- one length
pub alike_length : {x : Part} {s s' : List ℕ} → Alike x s s' → length s ≡ length s'
alike_length same = refl
alike_length (more {t} {c} {c'} {r} {r'} u u' i p p' a) =
    omega (arith, size_with t c u r p, size_with t c' u' r' p', alike_length i, alike_length a)
alike_length (target a) = alike_length a
alike_length (command code accounting x y x' y' a) = omega (arith, alike_length a)
alike_length (status {i} {i'} kind x x' text u u' p p' a) =
    omega (arith, status_size x kind text u i p, status_size x' kind text u' i' p', alike_length a)

-- ---- the inside of a holder
module _ (inner : Bool → List ℕ → Bool) (b : Bool) where
  target-by : (c c' : List ℕ) → length c ≡ length c' → inner false c ≡ inner false c' → inside_ok inner b 0x1000 c ≡ inside_ok inner b 0x1000 c'
  unfolding inside_ok inside_of held_ok
  target-by c c' e h = ap (λ (n : ℕ). held_ok inner c (cond (b && eqb n 0) Plain (Holds 0 false))) e ∙ go (b && eqb (length c') 0)
    where
      go : (z : Bool) → held_ok inner c (cond z Plain (Holds 0 false)) ≡ held_ok inner c' (cond z Plain (Holds 0 false))
      go true = refl
      go false = h

  command-by : (c i : List ℕ) → eqb (length c) 0 ≡ false → leb 4 (length c) ≡ true → drop 4 c ≡ i → inside_ok inner b 0x0011 c ≡ inner false i
  unfolding inside_ok inside_of held_ok
  command-by c i z f e = simp (z, f, and-false, e)

  status-by : (c i : List ℕ) (n : ℕ) → eqb (length c) 0 ≡ false → be16 c 2 ≡ n → leb (4 + padded n) (length c) ≡ true → drop (4 + padded n) c ≡ i
      → inside_ok inner b 0x0106 c ≡ inner true i
  unfolding inside_ok inside_of status_inside held_ok
  status-by c i n z e f g = simp (z, e, f, and-false, g)

  command_is : (code accounting x y : ℕ) (i : List ℕ) → inside_ok inner b 0x0011 (code ∷ accounting ∷ x ∷ y ∷ i) ≡ inner false i
  command_is code accounting x y i =
      let c : List ℕ = code ∷ accounting ∷ x ∷ y ∷ i in
      command-by c i (ne_eqb (length c) 0 (λ e. omega arith)) (le-leb 4 (length c) (omega arith)) refl

  status_is : (x kind : ℕ) (text u i : List ℕ) → Pads text u → inside_ok inner b 0x0106 (status_with x kind text u ++ i) ≡ inner true i
  status_is x kind text u i p =
      let c : List ℕ = status_with x kind text u ++ i in
      let l : length c ≡ 4 + padded (length text) + length i = status_size x kind text u i p in
      status-by c i (length text) (ne_eqb (length c) 0 (λ e. omega arith)) (status_text_lem x kind text u i p) (le-leb (4 + padded (length text)) (length c) (omega arith)) (status-rest x kind text u i p)

-- ---- the check
module _ (t : ℕ) (c c' u u' r r' : List ℕ) (p : Pads c u) (p' : Pads c' u') where
  list_more : length (tlv_with t c u ++ r) ≡ length (tlv_with t c' u' ++ r')
      → ((d : ℕ) (b : Bool) → inside_ok (list_ok d) b t c ≡ inside_ok (list_ok d) b t c') → ((d : ℕ) (b : Bool) → list_ok d b r ≡ list_ok d b r')
      → (d : ℕ) (b : Bool) → list_ok d b (tlv_with t c u ++ r) ≡ list_ok d b (tlv_with t c' u' ++ r')
  unfolding list_ok
  list_more e f g zero b = ap (λ (n : ℕ). eqb n 0) e
  list_more e f g (suc d) b = list_with t c u r p d b ∙ ap₂ ◌&&◌ (f d b) (g (suc d) b) ∙ sym (list_with t c' u' r' p' d b)

abbrev Checked : Part → List ℕ → List ℕ → Type 0
Checked tlvs s s' = (d : ℕ) (b : Bool) → list_ok d b s ≡ list_ok d b s'
Checked (content t) c c' = (d : ℕ) (b : Bool) → inside_ok (list_ok d) b t c ≡ inside_ok (list_ok d) b t c'

no_difference : (x : Part) (s : List ℕ) → Checked x s s
no_difference tlvs s = λ d b. refl
no_difference (content t) s = λ d b. refl

check_same : {x : Part} {s s' : List ℕ} → Alike x s s' → Checked x s s'
check_same {x} {s} same = no_difference x s
check_same (more {t} {c} {c'} {r} {r'} u u' i p p' a) =
    list_more t c c' u u' r r' p p' (alike_length (more u u' i p p' a)) (check_same i) (check_same a)
check_same (target {c} {c'} a) = λ d b. target-by (list_ok d) b c c' (alike_length a) (check_same a d false)
check_same (command {i} {i'} code accounting x y x' y' a) =
    λ d b. command_is (list_ok d) b _ _ _ _ i ∙ check_same a d false ∙ sym (command_is (list_ok d) b _ _ _ _ i')
check_same (status {i} {i'} kind x x' text u u' p p' a) =
    λ d b. status_is (list_ok d) b x kind text u i p ∙ check_same a d true ∙ sym (status_is (list_ok d) b x' kind text u' i' p')

pub list_same : {s s' : List ℕ} → Alike tlvs s s' → (d : ℕ) (b : Bool) → list_ok d b s ≡ list_ok d b s'
list_same a = check_same a
