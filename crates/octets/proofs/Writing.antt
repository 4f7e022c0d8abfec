-- The laws of writing over a buffer's start.
--     stores        octets stored one after the other from the start on are written over it
--     over-turn     a turn of a loop that writes w octet by octet, and over_done its end
--     lent-after    a is written, and the rest of the buffer is lent to the writer of b: a and then b is written
--     lent-before   the rest of the buffer is lent to the writer of b first, and then a is written before it
-- Assumes nothing.
use mathlib.Core.Path.{◌≡◌, refl, sym, ap, ◌∙◌}
use mathlib.Core.List.{List, [], ◌∷◌, ◌++◌, append_assoc, append-nil}
use Prim.Native.Nat.{ℕ, zero, suc, ◌+◌, ◌-◌, ◌≤◌, ◌<◌}
use native.Mathlib.Numerals.{add-one}
use native.Mathlib.Nat.{le_refl, le_of_suc-le-suc, not-suc-le-zero, zero-add}
use native.Mathlib.Omega.{arith}
use lib.ListN.{length, take, drop, set, get_or, length-append, length-drop, drop_of_length-le}
use lib.Seq.{sets, sets-eq, take_at, drop_at, drop-drop, take_all, length-take-le}
use borrow.Rule.Slice.PartMut.{put_mid}
use Rattle.octets.specs.Writing.{over}
use Rattle.octets.proofs.Parts.{rest_part}

pub stores : (w l : List ℕ) → length w ≤ length l → sets l 0 w ≡ over w l
unfolding over
stores w l h = sets-eq w l 0 (omega arith) ∙ rw zero-add

pub over_none : (l : List ℕ) → l ≡ over [] l
unfolding over
over_none l = refl

pub length_over : (w l : List ℕ) → length w ≤ length l → length (over w l) ≡ length l
unfolding over
length_over w l h = simp (length-append, length-drop) (omega arith)

-- ---- a loop that has written the first i octets of w
over-next : (w l : List ℕ) (i : ℕ) → i < length w → length w ≤ length l
    → set (over (take i w) l) i (get_or w i 0) ≡ over (take (suc i) w) l
unfolding over
over-next [] l i h k = absurd (not-suc-le-zero h)
over-next (x ∷ w) [] i h k = absurd (not-suc-le-zero k)
over-next (x ∷ w) (y ∷ l) zero h k = refl
over-next (x ∷ w) (y ∷ l) (suc i) h k =
    ap (λ (r : List ℕ). x ∷ r) (over-next w l i (le_of_suc-le-suc h) (le_of_suc-le-suc k))

pub over-turn : (w l : List ℕ) {b : List ℕ} (i v : ℕ) → b ≡ over (take i w) l → v ≡ get_or w i 0 → i < length w → length w ≤ length l
    → set b i v ≡ over (take (i + 1) w) l
over-turn w l i v e g h k = rw (e, g, add-one) (over-next w l i h k)

pub over_done : (w l : List ℕ) {b : List ℕ} (i : ℕ) → b ≡ over (take i w) l → length w ≤ i → b ≡ over w l
over_done w l i e h = e ∙ ap (λ (r : List ℕ). over r l) (take_all i w h)

-- ---- the rest of the buffer lent to another writer
after : (a b l : List ℕ) (n : ℕ) → length a ≡ n → take n (over a l) ++ over b (drop n (over a l)) ≡ over (a ++ b) l
unfolding over
after a b l n e =
    rw (take_at a (drop (length a) l) n e, drop_at a (drop (length a) l) n e, drop-drop, length-append, append_assoc)

-- what is lent from n on comes back as y
comes_back : (n : ℕ) (l y : List ℕ) → put_mid n (length l - n) l y ≡ take n l ++ y
comes_back n l y =
    ap (λ (r : List ℕ). take n l ++ (y ++ r)) (drop_of_length-le (drop n l) {i = length l - n} (simp length-drop (le_refl (length l - n))))
    ∙ ap (λ (r : List ℕ). take n l ++ r) (append-nil y)

pub lent-after : (a b l : List ℕ) {x y : List ℕ} (n : ℕ) → x ≡ over a l → length a ≡ n → y ≡ over b (take (length x - n) (drop n x))
    → put_mid n (length x - n) x y ≡ over (a ++ b) l
lent-after a b l {x} {y} n ex en ey =
    comes_back n x y
    ∙ ap (λ (r : List ℕ). take n x ++ r) (ey ∙ ap (over b) (rest_part n x))
    ∙ ap (λ (r : List ℕ). take n r ++ over b (drop n r)) ex
    ∙ after a b l n en

pub lent-before : (a b l : List ℕ) {y z : List ℕ} (n : ℕ) → length a ≡ n → n ≤ length l → y ≡ over b (take (length l - n) (drop n l))
    → z ≡ over a (put_mid n (length l - n) l y) → z ≡ over (a ++ b) l
unfolding over
lent-before a b l {y} {z} n en h ey ez =
    ez
    ∙ ap (λ (r : List ℕ). a ++ drop (length a) r) (comes_back n l y)
    ∙ ap (λ (r : List ℕ). a ++ r)
    (drop_at (take n l) y (length a) (length-take-le n l h ∙ sym en) ∙ ey ∙ rw (rest_part, drop-drop, length-append, en))
    ∙ sym (append_assoc a b _)

-- the front of a buffer is what was written over it
pub over_front : (w l : List ℕ) {x : List ℕ} (n : ℕ) → x ≡ over w l → n ≡ length w → take n x ≡ w
unfolding over
over_front w l n e h = ap (take n) e ∙ take_at w (drop (length w) l) n (sym h)
