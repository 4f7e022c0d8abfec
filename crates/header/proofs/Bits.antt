-- Two numbers in one field, at any split: the upper one shifted by k bits, the lower one masked to k bits. Assumes nothing.
use mathlib.Core.Path.{◌≡◌, ap, ◌∙◌}
use Prim.Native.Nat.{ℕ, ◌+◌, ◌*◌, ◌-◌, ◌%◌, ◌^◌}
use lib.Bits.{bit_and, bit_or, and_mask, mask_lt, or_shifted}

pub join : (upper k lower : ℕ) → bit_or (upper * 2 ^ k) (bit_and lower (2 ^ k - 1)) ≡ upper * 2 ^ k + lower % 2 ^ k
join upper k lower =
    or_shifted upper k (bit_and lower (2 ^ k - 1)) (mask_lt lower k)
    ∙ ap (λ (x : ℕ). upper * 2 ^ k + x) (and_mask lower k)
