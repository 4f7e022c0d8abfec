-- Comparing octets from the end, and what is found among the circuit ids.
--     back_on, back-off    one turn of the comparison: the octets before the last that was compared are left
--     port_found           the port that is found is one of the n, has the id, and is the first that does
--     port_none            where none is found no port has the id
--     id_short, id-length  a circuit id has at most 63 octets, and as many as its row says
--     other_id             a row with another octet in one place does not have the id
--     id_skip              a search goes on to the next row that has the id's octet in that place
-- Assumes nothing.
use Rattle.std.specs.Prelude.{Option, Some, None}
use Prim.Native.Nat.{ℕ, suc, ◌+◌, ◌-◌, ◌*◌, ◌%◌, ◌≤◌, ◌<◌, min}
use mathlib.Core.Path.{◌≡◌, sym, ap, ap₂, ◌∙◌}
use mathlib.Core.Bool.{Bool, false, ◌&&◌, and-true, and-false, false≢true}
use mathlib.Core.List.{List, [], ◌∷◌}
use lib.ListN.{length, take, drop, get_or, length-take, length-drop}
use lib.Seq.{take-suc, length-take-le, get_or-take, get_or-drop}
use lib.Dec.{eqb}
use native.Mathlib.Omega.{arith}
use borrow.Author.Tests.{eq-eqb, eqb-false, ne_eqb}
use Rattle.flows.specs.Words.{same}
use Rattle.flows.proofs.Same.{same-append, same_eq, same_refl, same-off}
use Rattle.rows.specs.Rows.{first_from}
use Rattle.rows.proofs.Rows.{found_at, found_none}
use Rattle.rows.proofs.Nexts.{first-over}
use Rattle.circuits.specs.Circuits.{id_length, id_at, id_octet, has_id, port_of}

pub upto : (a b : List ℕ) (i : ℕ) → 0 < i → same (take i a) (take i b) ≡ same (take (suc (i - 1)) a) (take (suc (i - 1)) b)
upto a b i h = let e : i ≡ suc (i - 1) = omega arith in ap (λ (n : ℕ). same (take n a) (take n b)) e

module _ (a b : List ℕ) (i : ℕ) (ha : i < length a) (hb : i < length b) where
  last : same (take (suc i) a) (take (suc i) b) ≡ (same (take i a) (take i b) && eqb (get_or a i 0) (get_or b i 0))
  unfolding same
  last =
      ap₂ same (take-suc a i 0 ha) (take-suc b i 0 hb)
      ∙ same-append (take i a) (take i b) (get_or a i 0 ∷ []) (get_or b i 0 ∷ []) (length-take-le i a (omega arith) ∙ sym (length-take-le i b (omega arith)))
      ∙ ap (λ (t : Bool). same (take i a) (take i b) && t) (and-true (eqb (get_or a i 0) (get_or b i 0)))

  pub back_on : get_or a i 0 ≡ get_or b i 0 → same (take (suc i) a) (take (suc i) b) ≡ same (take i a) (take i b)
  back_on e = last ∙ simp (eq-eqb (get_or a i 0) (get_or b i 0) e, and-true)

  pub back-off : (get_or a i 0 ≡ get_or b i 0 → ⊥) → same (take (suc i) a) (take (suc i) b) ≡ false
  back-off e = last ∙ simp (ne_eqb (get_or a i 0) (get_or b i 0) e, and-false)

pub id_short : (ids : List ℕ) (p : ℕ) → length (id_at ids p) < 64
unfolding id_at
id_short ids p = simp length-take (omega arith)

-- and as many as its row says, if that is no more
pub id-length : (ids : List ℕ) (p : ℕ) → p * 64 + 64 ≤ length ids → id_length ids p ≤ 63 → length (id_at ids p) ≡ id_length ids p
unfolding id_at
id-length ids p h l = simp (length-take, length-drop) (omega arith)

pub record PortFound (ids : List ℕ) (n : ℕ) (id : List ℕ) (p : ℕ) : Type 0 where
  pub below : p < n
  pub small : p < 64
  pub is : id_at ids p ≡ id
  pub first : (q : ℕ) → q < p → id_at ids q ≡ id → ⊥

module _ (ids : List ℕ) (n : ℕ) (id : List ℕ) where
  differ : (p : ℕ) → has_id ids id p ≡ false → id_at ids p ≡ id → ⊥
  differ p e s = false≢true (sym e ∙ ap (λ (l : List ℕ). same l id) s ∙ same_refl id)

  pub port_found : {p : ℕ} → port_of ids n id ≡ Some p → PortFound ids n id p
  unfolding port_of
  port_found {p} e =
      let g = found_at (has_id ids id) (min n 64) e in
      record {
        below = omega (arith, g.below);
        small = omega (arith, g.below);
        is = same_eq (id_at ids p) id g.passes;
        first = λ q l s. differ q (g.first q l) s;
      }

  pub port_none : port_of ids n id ≡ None → (p : ℕ) → p < n → p < 64 → id_at ids p ≡ id → ⊥
  unfolding port_of
  port_none e p l m s = differ p (found_none (has_id ids id) (min n 64) e p (omega arith)) s

-- ---- octet k of an id, counted from 1
module _ (ids id : List ℕ) (k : ℕ) (h : 0 < k) (l : k ≤ length id) where
  octet_there : (p : ℕ) → id_at ids p ≡ id → id_octet ids k p ≡ get_or id (k - 1) 0
  unfolding id_at
  octet_there p e =
      let m : ℕ = id_length ids p % 64 in
      let d : List ℕ = drop (p * 64 + 1) ids in
      let i : ℕ = k - 1 in
      let z : p * 64 + k ≡ p * 64 + 1 + i = omega arith in
      ap (λ (j : ℕ). get_or ids j 0) z
      ∙ sym (get_or-drop (p * 64 + 1) ids i 0)
      ∙ sym (get_or-take m d i 0 (omega (arith, ap length e, length-take m d)))
      ∙ ap (λ (x : List ℕ). get_or x i 0) e

  pub other_id : (p : ℕ) → (id_octet ids k p ≡ get_or id (k - 1) 0 → ⊥) → has_id ids id p ≡ false
  other_id p n = same-off (id_at ids p) id (λ e. n (octet_there p e))

  pub id_skip : (i n j : ℕ) {r : Option ℕ} → r ≡ first_from i (n - i) (has_id ids id)
      → i ≤ j → j ≤ n → ((p : ℕ) → i ≤ p → p < j → eqb (id_octet ids k p) (get_or id (k - 1) 0) ≡ false)
      → r ≡ first_from j (n - j) (has_id ids id)
  id_skip i n j inv l u x = first-over (has_id ids id) i n j inv l u (λ p a b. other_id p (eqb-false _ _ (x p a b)))
