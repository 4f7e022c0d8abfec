-- The TLVs that a message's rules name, by their lengths.
--     all_words                the bare headers of what is missing: two at most
--     fault_short, id-fits     the first TLV at fault, and the circuit id, are no longer than the message
--     enclosed_words           what a refusal encloses
-- Assumes nothing.
use mathlib.Core.Path.{◌≡◌, refl}
use mathlib.Core.Bool.{Bool, true, false, cond, ◌||◌}
use mathlib.Core.List.{List, [], ◌∷◌}
use Prim.Native.Nat.{ℕ, ◌*◌, ◌%◌, ◌≤◌}
use native.Mathlib.Omega.{arith}
use lib.ListN.{length}
use lib.Dec.{eqb}
use Rattle.items.specs.Items.{Item, items_of, first_of}
use Rattle.items.proofs.Items.{Fit, items_fit}
use Rattle.items.proofs.Types.{first_fits}
use Rattle.writers.specs.Tlvs.{target_of}
use Rattle.writers.proofs.Tlvs.{length-tlv, length-target}
use Rattle.rules.specs.Rules.{rules_of}
use Rattle.rules.specs.Named.{missing, bares}
use Rattle.rules.proofs.Named.{missing_few, length-bares}
use Rattle.rules.proofs.Faults.{fault_tail, rules_few}
use Rattle.checks.specs.Table.{id_in, faults, copy_of, enclosed_of}

-- each type takes four octets
pub record Words (n : ℕ) (l : List ℕ) : Type 0 where
  pub most : length l ≤ 4 * n
  pub whole : length l % 4 ≡ 0

-- what a message of a type needs
pub all_words : (kind : ℕ) (is : List Item) → Words 2 (bares (missing (rules_of kind) is))
all_words kind is =
    let e = length-bares (missing (rules_of kind) is) in
    record { most = omega (arith, e, missing_few is (rules_of kind), rules_few kind); whole = omega (arith, e) }

pub id-fits : (s : List ℕ) → length (id_in s) ≤ length s
unfolding id_in
id-fits s =
    let c : List ℕ = first_of 0x1000 (items_of s) in
    omega (arith, first_fits (length c) 0x0001 (items_of c) (items_fit c), first_fits (length s) 0x1000 (items_of s) (items_fit s))

-- the first TLV at fault of s
pub fault_short : (kind : ℕ) (s : List ℕ) {i : Item} {is : List Item} → faults kind s ≡ i ∷ is → length i.content ≤ length s
fault_short kind s e =
    omega (arith, (rw e at (fault_tail (rules_of kind) (Fit (length s)) (λ i is h. h.1) [] (items_of s) (items_fit s))).0)

-- ---- what a refusal encloses
either_words : {n : ℕ} (b : Bool) {v w : List ℕ} → Words n v → Words n w → Words n (cond b v w)
either_words true x y = x
either_words false x y = y

module _ (kind : ℕ) (s : List ℕ) where
  module _ (h : length s ≤ 4096) where
    bare_words : Words 1027 (bares (missing (rules_of kind) (items_of s)))
    bare_words = let w = all_words kind (items_of s) in record { most = omega (arith, w.most); whole = w.whole }

    copy_words : (is : List Item) → faults kind s ≡ is → Words 1027 (copy_of is)
    unfolding copy_of
    copy_words [] e = record { most = omega arith; whole = refl }
    copy_words (i ∷ is) e =
        let l = length-tlv i.kind i.content in
        record { most = omega (arith, l, fault_short kind s e); whole = omega (arith, l) }

    target_words : Words 1027 (target_of (id_in s))
    target_words = let l = length-target (id_in s) in record { most = omega (arith, l, id-fits s); whole = omega (arith, l) }

    pub enclosed_words : (code : ℕ) → Words 1027 (enclosed_of kind s code)
    unfolding enclosed_of
    enclosed_words code =
        either_words (eqb code 0x54) bare_words
        (either_words (eqb code 0x55) (copy_words (faults kind s) refl)
        (either_words (eqb code 0x500 || eqb code 0x6) target_words (record { most = omega arith; whole = refl })))

  pub enclosed_500 : {code : ℕ} → code ≡ 0x500 → enclosed_of kind s code ≡ target_of (id_in s)
  unfolding enclosed_of
  enclosed_500 e = rw e

  pub enclosed_6 : {code : ℕ} → code ≡ 0x6 → enclosed_of kind s code ≡ target_of (id_in s)
  unfolding enclosed_of
  enclosed_6 e = rw e
