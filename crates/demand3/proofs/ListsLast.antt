-- What does not hang on the list entries: every call but a join, and a join that is refused before it looks at them. Assumes nothing.
use Rattle.std.specs.Prelude.{Option, Some, None}
use Prim.Native.Nat.{ℕ, ◌≤◌, ◌<◌}
use mathlib.Core.Path.{◌≡◌, refl, ap}
use mathlib.Core.Logic.{◌⊎◌, ⊎_elim}
use mathlib.Core.Bool.{Bool, true, false, cond}
use mathlib.Core.List.{List}
use lib.Dec.{eqb, ltb}
use native.Mathlib.Omega.{arith}
use Rattle.flows.specs.declared.Flow.{Flow}
use Rattle.flows.specs.Flows.{good_flow}
use Rattle.channels.specs.Channels.{channel_of}
use Rattle.lists.specs.declared.Colour.{Colour}
use Rattle.lists.specs.declared.Colour.TheVariants.{Black, Grey, White}
use Rattle.lists.specs.Lists.{list_decision}
use Rattle.pool.specs.Pool.{is_active, has_room}
use Rattle.card.specs.Cards.{Card, has_port, port_at}
use Rattle.card.specs.Outcome.{Outcome}
use Rattle.joins.specs.Joins.{fits, admit_number, white_of, grey_of, by_list, join_row, join_of}
use Rattle.demand3.specs.Calls.{Tables, Call, outcome_of}
use Rattle.demand3.specs.Calls.Call.{port_up, port_down, set_delegation, join, leave, ask, message}
use Rattle.demand3.specs.Corollaries.{with_entries, BeforeLists}

-- ---- the numbers of a join that the lists decide
not-before : (n : ℕ) → (n ≡ 1 → ⊥) → n ≤ 5 → BeforeLists n → ⊥
not-before n a b h = ⊎_elim a (λ l. omega arith) h

abbrev Late : Outcome → Type 0
Late o = BeforeLists o.number → ⊥

late_by : (b : Bool) (v w : Outcome) → Late v → Late w → Late (cond b v w)
late_by true v w a c = a
late_by false v w a c = c

module _ (ids channels : List ℕ) (card : Card) (p : ℕ) (f : Flow) (k : ℕ) where
  admit_late : (cac : Bool) → BeforeLists (admit_number channels card cac p k) → ⊥
  unfolding admit_number
  admit_late cac = go (has_room card.pool p) cac (fits channels card p k)
    where
      go : (b c d : Bool) → BeforeLists (cond b (cond c (cond d 0 4) 0) 5) → ⊥
      go true true true = not-before 0 (λ e. omega arith) (omega arith)
      go true true false = not-before 4 (λ e. omega arith) (omega arith)
      go true false d = not-before 0 (λ e. omega arith) (omega arith)
      go false c d = not-before 5 (λ e. omega arith) (omega arith)

  late : (d : Option Colour) → Late (by_list ids channels card p f k d)
  unfolding by_list white_of grey_of
  late (Some White) =
      late_by (eqb (admit_number channels card card.head.white_cac p k) 0) _ _ (not-before 0 (λ e. omega arith) (omega arith))
      (admit_late card.head.white_cac)
  late (Some Grey) = not-before 2 (λ e. omega arith) (omega arith)
  late (Some Black) = not-before 3 (λ e. omega arith) (omega arith)
  late None = not-before 3 (λ e. omega arith) (omega arith)

-- ---- a join, check by check
module _ (D : Type 0) where
  abbrev Reason : Outcome → Type 0
  Reason o = BeforeLists o.number ⊎ D

  by_reason : (b : Bool) (v v' w w' : Outcome) → (Reason v → v' ≡ v) → (Reason w → w' ≡ w) → Reason (cond b v w) → cond b v' w' ≡ cond b v w
  by_reason true v v' w w' a c h = a h
  by_reason false v v' w w' a c h = c h

module _ (ids channels entries others : List ℕ) (card : Card) (p : ℕ) (f : Flow) where
  abbrev Decided : Type 0
  Decided = list_decision others card.head.entry_count f ≡ list_decision entries card.head.entry_count f

  row_last : (r : Option ℕ) → Reason Decided (join_row ids channels entries card p f r) → join_row ids channels others card p f r ≡ join_row ids channels entries card p f r
  unfolding join_row
  row_last None h = refl
  row_last (Some k) h =
      by_reason Decided (is_active card.pool p k) _ _ _ _ (λ q. refl)
      (⊎_elim (λ b. absurd (late ids channels card p f k (list_decision entries card.head.entry_count f) b)) (λ d. ap (by_list ids channels card p f k) d)) h

  join_last : (space : ℕ) → Reason Decided (join_of ids channels entries card p f space) → join_of ids channels others card p f space ≡ join_of ids channels entries card p f space
  unfolding join_of
  join_last space =
      by_reason Decided (ltb space 4608) _ _ _ _ (λ q. refl)
      (by_reason Decided (has_port card p) _ _ _ _
      (by_reason Decided (port_at card p).up _ _ _ _
      (by_reason Decided (good_flow f) _ _ _ _ (row_last (channel_of channels card.head.channel_count f)) (λ q. refl))
      (λ q. refl))
      (λ q. refl))

-- ---- any call
pub lists_last : (t : Tables) (card : Card) (x : Call) (entries : List ℕ)
    → ((p : ℕ) (f : Flow) (space : ℕ) → x ≡ join p f space → BeforeLists (outcome_of t card x).number
    ⊎ (list_decision entries card.head.entry_count f ≡ list_decision t.entries card.head.entry_count f))
    → outcome_of (with_entries t entries) card x ≡ outcome_of t card x
unfolding outcome_of
lists_last t card (port_up p) entries h = refl
lists_last t card (port_down p) entries h = refl
lists_last t card (set_delegation p amount) entries h = refl
lists_last t card (join p f space) entries h = join_last t.ids t.channels t.entries entries card p f space (h p f space refl)
lists_last t card (leave p f) entries h = refl
lists_last t card (ask p required preferred space) entries h = refl
lists_last t card (message octets space) entries h = refl
