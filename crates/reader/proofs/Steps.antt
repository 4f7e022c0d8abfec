-- A walk over a list of TLVs by steps of a reader.
--     step_end, step-broken, step-tlv    the TLVs from the place on, by what the step read there
--     step_fits                          the TLV lies in the list, and the next place after it
-- Assumes nothing.
use mathlib.Core.Path.{◌≡◌, sym, ap, ◌∙◌}
use mathlib.Core.List.{List, [], ◌∷◌}
use Prim.Native.Nat.{ℕ, ◌+◌, ◌≤◌}
use native.Mathlib.Omega.{arith}
use lib.Seq.{drop-drop}
use lib.ListN.{length, take, drop}
use Rattle.octets.specs.Numbers.{padded}
use Rattle.tlv.specs.declared.First.TheVariants.{End, Broken, Tlv}
use Rattle.items.specs.Items.{item, items_of}
use Rattle.items.specs.Place.{tlv_at, size_of}
use Rattle.items.proofs.Items.{items_end, items-broken, items-tlv}
use Rattle.items.proofs.Places.{place_fits, after_is}
use Rattle.reader.specs.declared.Step.{Step}
use Rattle.reader.specs.Reader.{step_at}

-- x is what `step_at` gave of s at a place
module _ (s : List ℕ) (at : ℕ) {x : Step} (e : x ≡ step_at s at) where
  read : x.first ≡ tlv_at s at
  read = ap (λ (y : Step). y.first) e

  pub step_end : x.first ≡ End → items_of (drop at s) ≡ []
  step_end g = items_end (drop at s) read g

  pub step-broken : x.first ≡ Broken → items_of (drop at s) ≡ []
  step-broken g = items-broken (drop at s) read g

  module _ {t n m : ℕ} (g : x.first ≡ Tlv t n m) where
    after : at + m ≡ x.next
    unfolding size_of
    after = after_is s at read g ∙ ap (λ (y : Step). y.next) (sym e)

    pub step-tlv : items_of (drop at s) ≡ item t (take n (drop (at + 4) s)) ∷ items_of (drop x.next s)
    step-tlv = items-tlv (drop at s) read g ∙ rw (drop-drop 4 at s, drop-drop m at s, after)

    pub step_fits : (at + 4 + padded n ≡ x.next) × (x.next ≤ length s)
    step_fits = let f = place_fits s at read g in omega (arith, f, after)
