-- A list of tests that all hold, as facts; and tests from facts. Assumes nothing.
use mathlib.Core.Path.{◌≡◌, refl, sym, ap}
use mathlib.Core.List.{List, [], ◌∷◌, ◌++◌}
use mathlib.Core.Bool.{Bool, true, false, cond, ◌&&◌, false≢true}
use Rattle.octets.specs.Tests.{every}

abbrev pub Each : List Bool → Type 0
Each [] = Unit {0}
Each (b ∷ bs) = (b ≡ true) × Each bs

pub each : (bs : List Bool) → every bs ≡ true → Each bs
unfolding every
each [] h = tt
each (true ∷ bs) h = (refl, each bs h)
each (false ∷ bs) h = absurd (false≢true h)

pub every-by : (bs : List Bool) → Each bs → every bs ≡ true
unfolding every
every-by [] h = refl
every-by (true ∷ bs) h = every-by bs h.1
every-by (false ∷ bs) h = h.0

pub both : (x y : Bool) → (x && y) ≡ true → (x ≡ true) × (y ≡ true)
both true y e = (refl, e)
both false y e = absurd (false≢true e)

-- a test that cannot hold
pub false_by : (b : Bool) → (b ≡ true → ⊥) → false ≡ b
false_by true h = absurd (h refl)
false_by false h = refl

-- two tests of which each holds where the other does
pub same_by : (a b : Bool) → (a ≡ true → b ≡ true) → (b ≡ true → a ≡ true) → a ≡ b
same_by true b f g = sym (f refl)
same_by false true f g = g refl
same_by false false f g = refl

-- all tests but the last hold: the last decides
last_of : (bs : List Bool) (b : Bool) → Each bs → b ≡ every (bs ++ (b ∷ []))
unfolding every
last_of [] true h = refl
last_of [] false h = refl
last_of (true ∷ bs) b h = last_of bs b h.1
last_of (false ∷ bs) b h = absurd (false≢true h.0)

pub second_of : (a b : Bool) → a ≡ true → b ≡ every (a ∷ b ∷ [])
second_of a b h = last_of (a ∷ []) b (h, tt)

pub third_of : (a b c : Bool) → a ≡ true → b ≡ true → c ≡ every (a ∷ b ∷ c ∷ [])
third_of a b c h k = last_of (a ∷ b ∷ []) c (h, (k, tt))

-- a case that is taken, and one that is left
pub taken {ℓ} : {A : Type ℓ} (b : Bool) (x y : A) → b ≡ true → x ≡ cond b x y
taken b x y h = ap (λ (t : Bool). cond t x y) (sym h)

pub left {ℓ} : {A : Type ℓ} (b : Bool) (x y : A) → b ≡ false → y ≡ cond b x y
left b x y h = ap (λ (t : Bool). cond t x y) (sym h)
