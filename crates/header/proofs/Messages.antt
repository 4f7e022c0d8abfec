-- A message whose TLVs are written first and its header last. Assumes nothing.
use mathlib.Core.Path.{◌≡◌, refl, ap, ◌∙◌}
use mathlib.Core.List.{List, ◌++◌}
use Prim.Native.Nat.{ℕ, ◌+◌, ◌-◌, ◌≤◌}
use lib.ListN.{length, take, drop, length-append}
use borrow.Rule.Slice.PartMut.{put_mid}
use Rattle.octets.specs.Numbers.{oct8, oct16, oct24}
use Rattle.octets.specs.Writing.{over}
use Rattle.octets.proofs.Writing.{lent-before}
use Rattle.header.specs.declared.Header.{Header}
use Rattle.header.specs.Header.{header_of, message_of}

pub length_header : (h : Header) (n : ℕ) → length (header_of h n) ≡ 16
unfolding header_of oct8 oct16 oct24
length_header h n = refl

pub length-message : (h : Header) (body : List ℕ) → length (message_of h body) ≡ 16 + length body
unfolding message_of
length-message h body = length-append (header_of h (length body)) body ∙ rw length_header

-- the rest of l from 16 on is lent to the writer of the body, and then the header is written
pub message-by : (h : Header) (body l : List ℕ) {y z : List ℕ} (n : ℕ) → n ≡ length body → 16 ≤ length l
    → y ≡ over body (take (length l - 16) (drop 16 l)) → z ≡ over (header_of h n) (put_mid 16 (length l - 16) l y)
    → z ≡ over (message_of h body) l
unfolding message_of
message-by h body l n en hl ey ez =
    lent-before (header_of h n) body l 16 (length_header h n) hl ey ez
    ∙ ap (λ (k : ℕ). over (header_of h k ++ body) l) en
