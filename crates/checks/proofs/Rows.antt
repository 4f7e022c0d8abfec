-- The rows of the table.
--     row-bad, row_port     the rows about TLVs: something is missing or at fault, and nothing is
--     located-by       the port that is named, from the terms of a call on it
--     port_unknown, .. the row about the port, from its number and whether it is up
--     passed-tells     all that a message that passes has shown
--     passed_named     and its Target names the port that the verdict gives
--     refused-tells    the codes with which a message can be refused, each with the test that failed and those before it
--     passes           what a message must show to pass
-- Assumes nothing.
use mathlib.Core.Path.{◌≡◌, refl, sym, ap, ◌∙◌}
use mathlib.Core.Bool.{Bool, true, false, cond}
use mathlib.Core.List.{List, [], ◌∷◌}
use Prim.Native.Nat.{ℕ, ◌≤◌, ◌<◌}
use native.Mathlib.Omega.{arith}
use lib.ListN.{length}
use lib.Dec.{eqb, ltb}
use borrow.Author.Tests.{ltb-true, ltb-false, eqb-true, eqb-false, eq-eqb, ne_eqb}
use Rattle.std.specs.Prelude.{Option, Some, None, Result, Ok, Err}
use Rattle.header.specs.declared.Header.{Header}
use Rattle.tlv.specs.Depth.{depth_of, list_ok}
use Rattle.items.specs.Items.{items_of}
use Rattle.circuits.specs.Circuits.{port_of}
use Rattle.circuits.proofs.Circuits.{port_found}
use Rattle.pool.specs.declared.Pool.{Pool}
use Rattle.card.specs.Cards.{Card, port_at, with_pool}
use Rattle.card.specs.declared.Terms.{Terms}
use Rattle.card.specs.Parts.{HasTerms}
use Rattle.card.proofs.Parts.{ports_are, is_up}
use Rattle.rules.specs.Rules.{handled, result_ok, transaction_ok, rules_of}
use Rattle.rules.specs.Named.{missing}
use Rattle.rules.proofs.Walk.{empty_by}
use Rattle.checks.specs.Table.{id_in, number_of, port_named, Located, located, faults, named_rows, table_of}

-- how many types are missing
abbrev absences : ℕ → List ℕ → ℕ
absences kind s = length (missing (rules_of kind) (items_of s))

none-by : (n : ℕ) → ltb 0 n ≡ false → eqb n 0 ≡ true
none-by n h = eq-eqb n 0 (omega (arith, ltb-false 0 n h))

some_by : (n : ℕ) → ltb 0 n ≡ true → eqb n 0 ≡ false
some_by n h = ne_eqb n 0 (λ e. omega (arith, ltb-true 0 n h))

module _ (ids : List ℕ) (card : Card) (kind : ℕ) (s : List ℕ) where
  row_54 : ltb 0 (absences kind s) ≡ true → Err 0x54 ≡ named_rows ids card kind s
  unfolding named_rows
  row_54 h = rw (some_by (absences kind s) h)

  row_55 : ltb 0 (absences kind s) ≡ false → ltb 0 (length (faults kind s)) ≡ true → Err 0x55 ≡ named_rows ids card kind s
  unfolding named_rows
  row_55 g h = rw (none-by (absences kind s) g, some_by (length (faults kind s)) h)

  -- something is missing or at fault
  pub row-bad : (missing (rules_of kind) (items_of s) ≡ [] → faults kind s ≡ [] → ⊥) → Err (cond (ltb 0 (absences kind s)) 0x54 0x55) ≡ named_rows ids card kind s
  row-bad bad = by (ltb 0 (absences kind s)) refl
    where
      faulty : ltb 0 (absences kind s) ≡ false → (f : Bool) → ltb 0 (length (faults kind s)) ≡ f → f ≡ true
      faulty g true h = refl
      faulty g false h = absurd (bad (empty_by (missing (rules_of kind) (items_of s)) g) (empty_by (faults kind s) h))

      by : (b : Bool) → ltb 0 (absences kind s) ≡ b → Err (cond b 0x54 0x55) ≡ named_rows ids card kind s
      by true g = row_54 g
      by false g = row_55 g (faulty g (ltb 0 (length (faults kind s))) refl)

  pub row_port : (missing (rules_of kind) (items_of s) ≡ []) × (faults kind s ≡ []) → located card (port_of ids card.head.port_count (id_in s)) ≡ named_rows ids card kind s
  unfolding named_rows
  row_port (g, h) = rw (eq-eqb (absences kind s) 0 (ap length g), eq-eqb (length (faults kind s)) 0 (ap length h))

-- ---- the port by its number
module _ (ids : List ℕ) (count : ℕ) (s : List ℕ) where
  found_at : (f : Option ℕ) → number_of f < 64 → f ≡ Some (number_of f)
  unfolding number_of
  found_at None l = absurd (omega (arith, l))
  found_at (Some p) l = refl

  none-at : (f : Option ℕ) → port_of ids count (id_in s) ≡ f → 64 ≤ number_of f → f ≡ None
  unfolding number_of
  none-at None e l = refl
  none-at (Some p) e l = absurd (omega (arith, l, (port_found ids count (id_in s) e).small))

  module _ {named : ℕ} (e : named ≡ port_named ids count s) where
    pub is_named : named < 64 → port_of ids count (id_in s) ≡ Some named
    unfolding port_named
    is_named l = found_at (port_of ids count (id_in s)) (omega (arith, e)) ∙ ap Some (sym e)

    pub none_named : 64 ≤ named → port_of ids count (id_in s) ≡ None
    unfolding port_named
    none_named l = none-at (port_of ids count (id_in s)) refl (omega (arith, e))

-- from the terms of a call on that port, whatever the maps hold
pub located-by : {ids : List ℕ} {card : Card} {s : List ℕ} {named : ℕ} {terms : Terms} (pool : Pool) → HasTerms card named terms
    → named ≡ port_named ids terms.head.port_count s → Located ids (with_pool card pool) s named terms.port.up
located-by {ids} {s = s} pool h e = record { port = e ∙ ap (λ (n : ℕ). port_named ids n s) (sym (ports_are h)); state = λ l. is_up h l refl }

module _ (ids : List ℕ) (card : Card) (s : List ℕ) {named : ℕ} {up : Bool} (g : Located ids card s named up) where
  pub port_unknown : 64 ≤ named → Err 0x500 ≡ located card (port_of ids card.head.port_count (id_in s))
  unfolding located
  port_unknown l = rw (none_named ids card.head.port_count s g.port l)

  pub port_up_lem : named < 64 → up ≡ true → Ok named ≡ located card (port_of ids card.head.port_count (id_in s))
  unfolding located
  port_up_lem l u = rw (is_named ids card.head.port_count s g.port l, g.state l, u)

  pub port_down_lem : named < 64 → up ≡ false → Err 0x6 ≡ located card (port_of ids card.head.port_count (id_in s))
  unfolding located
  port_down_lem l u = rw (is_named ids card.head.port_count s g.port l, g.state l, u)

-- ---- what a verdict tells
-- every row is passed, and the message's Target names port p, which is up
pub record TablePassed (ids : List ℕ) (card : Card) (h : Header) (s : List ℕ) (p : ℕ) : Type 0 where
  pub known : handled h.kind ≡ true
  pub result : result_ok h.kind h.result ≡ true
  pub numbered : transaction_ok h.kind h.transaction ≡ true
  pub sound : list_ok (depth_of h.result) false s ≡ true
  pub whole : missing (rules_of h.kind) (items_of s) ≡ []
  pub faultless : faults h.kind s ≡ []
  pub found : port_of ids card.head.port_count (id_in s) ≡ Some p
  pub small : p < 64
  pub below : p < card.head.port_count
  pub up : (port_at card p).up ≡ true

-- the rows before those about TLVs are passed
pub record Sound (h : Header) (s : List ℕ) : Type 0 where
  pub known : handled h.kind ≡ true
  pub result : result_ok h.kind h.result ≡ true
  pub numbered : transaction_ok h.kind h.transaction ≡ true
  pub sound : list_ok (depth_of h.result) false s ≡ true

-- the row that refuses a message; those before it are passed
pub data TableRefused (ids : List ℕ) (card : Card) (h : Header) (s : List ℕ) : ℕ → Type 0 where
  unhandled : handled h.kind ≡ false → TableRefused ids card h s 0x51
  unfit : handled h.kind ≡ true → result_ok h.kind h.result ≡ false → TableRefused ids card h s 0x2
  zero : handled h.kind ≡ true → result_ok h.kind h.result ≡ true → transaction_ok h.kind h.transaction ≡ false → TableRefused ids card h s 0x2
  broken : handled h.kind ≡ true → result_ok h.kind h.result ≡ true → transaction_ok h.kind h.transaction ≡ true
      → list_ok (depth_of h.result) false s ≡ false → TableRefused ids card h s 0x53
  lacking : Sound h s → (missing (rules_of h.kind) (items_of s) ≡ [] → ⊥) → TableRefused ids card h s 0x54
  faulty : Sound h s → missing (rules_of h.kind) (items_of s) ≡ [] → (faults h.kind s ≡ [] → ⊥) → TableRefused ids card h s 0x55
  unknown : Sound h s → missing (rules_of h.kind) (items_of s) ≡ [] → faults h.kind s ≡ []
      → port_of ids card.head.port_count (id_in s) ≡ None → TableRefused ids card h s 0x500
  down : {p : ℕ} → Sound h s → missing (rules_of h.kind) (items_of s) ≡ [] → faults h.kind s ≡ []
      → port_of ids card.head.port_count (id_in s) ≡ Some p → (port_at card p).up ≡ false → TableRefused ids card h s 0x6

pub empty : {A : Type 0} (l : List A) → length l ≡ 0 → l ≡ []
empty [] e = refl
empty (x ∷ l) e = absurd (omega arith)

filled : {A : Type 0} (l : List A) → (length l ≡ 0 → ⊥) → l ≡ [] → ⊥
filled l h e = h (ap length e)

module _ (ids : List ℕ) (card : Card) (h : Header) (s : List ℕ) where
  abbrev Tells : Result ℕ ℕ → Type 0
  Tells (Err code) = TableRefused ids card h s code
  Tells (Ok p) = TablePassed ids card h s p

  module _ (past : Sound h s) (whole : missing (rules_of h.kind) (items_of s) ≡ []) (faultless : faults h.kind s ≡ []) where
    up-tells : (p : ℕ) → port_of ids card.head.port_count (id_in s) ≡ Some p → (b : Bool) → (port_at card p).up ≡ b → Tells (cond b (Ok p) (Err 0x6))
    up-tells p e true u =
        let g = port_found ids card.head.port_count (id_in s) e in
        record {
          known = past.known;
          result = past.result;
          numbered = past.numbered;
          sound = past.sound;
          whole = whole;
          faultless = faultless;
          found = e;
          small = g.small;
          below = g.below;
          up = u;
        }
    up-tells p e false u = down past whole faultless e u

    port_tells : (f : Option ℕ) → port_of ids card.head.port_count (id_in s) ≡ f → Tells (located card f)
    unfolding located
    port_tells None e = unknown past whole faultless e
    port_tells (Some p) e = up-tells p e (port_at card p).up refl

  named_tells : Sound h s → (a b : Bool) → eqb (absences h.kind s) 0 ≡ a → eqb (length (faults h.kind s)) 0 ≡ b
      → Tells (cond a (cond b (located card (port_of ids card.head.port_count (id_in s))) (Err 0x55)) (Err 0x54))
  named_tells past true true ha hb =
      port_tells past (empty _ (eqb-true _ _ ha)) (empty _ (eqb-true _ _ hb)) (port_of ids card.head.port_count (id_in s)) refl
  named_tells past true false ha hb = faulty past (empty _ (eqb-true _ _ ha)) (filled _ (eqb-false _ _ hb))
  named_tells past false b ha hb = lacking past (filled _ (eqb-false _ _ ha))

  rows_tell : (a b c d : Bool) → handled h.kind ≡ a → result_ok h.kind h.result ≡ b → transaction_ok h.kind h.transaction ≡ c
      → list_ok (depth_of h.result) false s ≡ d
      → Tells (cond a (cond b (cond c (cond d (named_rows ids card h.kind s) (Err 0x53)) (Err 0x2)) (Err 0x2)) (Err 0x51))
  unfolding named_rows
  rows_tell true true true true ha hb hc hd = named_tells (record { known = ha; result = hb; numbered = hc; sound = hd }) _ _ refl refl
  rows_tell true true true false ha hb hc hd = broken ha hb hc hd
  rows_tell true true false d ha hb hc hd = zero ha hb hc
  rows_tell true false c d ha hb hc hd = unfit ha hb
  rows_tell false b c d ha hb hc hd = unhandled ha

  tells : Tells (table_of ids card h s)
  unfolding table_of
  tells = rows_tell _ _ _ _ refl refl refl refl

  pub passed-tells : {p : ℕ} → table_of ids card h s ≡ Ok p → TablePassed ids card h s p
  passed-tells e = rw e at tells

  pub passed_named : {p : ℕ} → table_of ids card h s ≡ Ok p → port_named ids card.head.port_count s ≡ p
  unfolding port_named number_of
  passed_named e = ap number_of (passed-tells e).found

  pub refused-tells : {code : ℕ} → table_of ids card h s ≡ Err code → TableRefused ids card h s code
  refused-tells e = rw e at tells

  pub passes : {p : ℕ} → TablePassed ids card h s p → table_of ids card h s ≡ Ok p
  unfolding table_of named_rows located
  passes t = rw (t.known, t.result, t.numbered, t.sound, t.whole, t.faultless, t.found, t.up)
