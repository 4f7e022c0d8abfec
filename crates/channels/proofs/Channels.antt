-- What is found in the channel table.
--     channel-found     the row that is found is one of the n, is the flow's, and the first that is
--     channel-none      where none is found no row is the flow's
--     other_row         a row whose group differs in a word is not the flow's
--     row_skip          a search goes on to the next row that has a word of the flow's group
-- Assumes nothing.
use Rattle.std.specs.Prelude.{Option, Some, None}
use Prim.Native.Nat.{ℕ, zero, suc, ◌+◌, ◌*◌, ◌-◌, ◌≤◌, ◌<◌, min}
use mathlib.Core.Path.{◌≡◌, refl, sym, ap, ◌∙◌}
use mathlib.Core.Bool.{false, false≢true}
use mathlib.Core.List.{List}
use lib.ListN.{get_or}
use native.Mathlib.Omega.{arith}
use lib.Dec.{eqb}
use borrow.Author.Tests.{eqb-false}
use Rattle.octets.proofs.Tests.{false_by}
use Rattle.flows.specs.Words.{address_at}
use Rattle.flows.specs.Flows.{same_flow}
use Rattle.flows.specs.declared.Flow.{Flow}
use Rattle.flows.proofs.Same.{same-flow_eq, same-flow_refl}
use Rattle.rows.specs.Rows.{first_from}
use Rattle.rows.proofs.Rows.{found_at, found_none}
use Rattle.rows.proofs.Nexts.{first-over}
use Rattle.channels.specs.Channels.{channel_at, group_word, is_row, channel_of}

differ : (a b : Flow) → same_flow a b ≡ false → a ≡ b → ⊥
differ a b e s = false≢true (sym e ∙ ap (λ (c : Flow). same_flow c b) s ∙ same-flow_refl b)

pub record ChannelFound (t : List ℕ) (n : ℕ) (f : Flow) (i : ℕ) : Type 0 where
  pub below : i < n
  pub small : i < 256
  pub is : channel_at t i ≡ f
  pub first : (j : ℕ) → j < i → channel_at t j ≡ f → ⊥

module _ (t : List ℕ) (n : ℕ) (f : Flow) where
  pub channel-found : {i : ℕ} → channel_of t n f ≡ Some i → ChannelFound t n f i
  unfolding channel_of
  channel-found e =
      let g = found_at (is_row t f) (min n 256) e in
      record {
        below = omega (arith, g.below);
        small = omega (arith, g.below);
        is = same-flow_eq _ f g.passes;
        first = λ j l s. differ (channel_at t j) f (g.first j l) s;
      }

  pub channel-none : channel_of t n f ≡ None → (i : ℕ) → i < n → i < 256 → channel_at t i ≡ f → ⊥
  unfolding channel_of
  channel-none e i l m s = differ (channel_at t i) f (found_none (is_row t f) (min n 256) e i (omega arith)) s

-- the words of an address, one by one
address_at_lem : (t : List ℕ) (at k : ℕ) → k < 4 → get_or (address_at t at) k 0 ≡ get_or t (at + k) 0
address_at_lem t at zero h = let e : at ≡ at + 0 = omega arith in ap (λ (n : ℕ). get_or t n 0) e
address_at_lem t at (suc zero) h = refl
address_at_lem t at (suc (suc zero)) h = refl
address_at_lem t at (suc (suc (suc zero))) h = refl
address_at_lem t at (suc (suc (suc (suc k)))) h = absurd (omega arith)

pub other_row : (t : List ℕ) (i k : ℕ) (f : Flow) → k < 4 → (group_word t k i ≡ get_or f.group k 0 → ⊥) → same_flow (channel_at t i) f ≡ false
unfolding channel_at
other_row t i k f h n =
    sym (false_by (same_flow (channel_at t i) f) (λ e.
    n (sym (address_at_lem t (i * 11 + 3) k h) ∙ ap (λ (g : Flow). get_or g.group k 0) (same-flow_eq (channel_at t i) f e))))

pub row_skip : (t : List ℕ) (k : ℕ) (f : Flow) (i n j : ℕ) {r : Option ℕ} → k < 4 → r ≡ first_from i (n - i) (is_row t f)
    → i ≤ j → j ≤ n → ((m : ℕ) → i ≤ m → m < j → eqb (group_word t k m) (get_or f.group k 0) ≡ false)
    → r ≡ first_from j (n - j) (is_row t f)
row_skip t k f i n j h inv l u x = first-over (is_row t f) i n j inv l u (λ m a b. other_row t m k f h (eqb-false _ _ (x m a b)))
