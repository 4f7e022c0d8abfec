-- A place in a message. Assumes nothing.
use mathlib.Core.Path.{◌≡◌, sym, ap, ◌∙◌}
use mathlib.Core.List.{List}
use Prim.Native.Nat.{ℕ, ◌+◌, ◌≤◌}
use native.Mathlib.Omega.{arith}
use lib.ListN.{length, drop, length-drop}
use Rattle.octets.specs.Numbers.{padded}
use Rattle.tlv.specs.declared.First.{First}
use Rattle.tlv.specs.declared.First.TheVariants.{Tlv}
use Rattle.tlv.proofs.Firsts.{tlv-fits}
use Rattle.items.specs.Place.{tlv_at, size_of, place_after, content_by, content_at}

-- x is what `tlv_at` gave of s at a place
module _ (s : List ℕ) (at : ℕ) {x : First} (e : x ≡ tlv_at s at) where
  -- a TLV lies in the message with its padding
  pub place_fits : {t n m : ℕ} → x ≡ Tlv t n m → (m ≡ 4 + padded n) × (at + m ≤ length s)
  place_fits h =
      let f = tlv-fits (drop at s) e h in
      (f.0, omega (arith, f.0, simp length-drop at f.1))

  pub content_is : {y : First} → x ≡ y → content_by (drop at s) y ≡ content_at s at
  unfolding content_at
  content_is h = ap (content_by (drop at s)) (sym h ∙ e)

  pub after_is : {y : First} → x ≡ y → at + size_of y ≡ place_after s at
  unfolding place_after
  after_is h = ap (λ (z : First). at + size_of z) (sym h ∙ e)
