-- All tests of a start pass exactly where start takes its tables and its first number.
--     whole-tables, whole-start
-- Assumes nothing.
use Prim.Native.Nat.{ℕ, zero, suc, ◌+◌, ◌≤◌, ◌<◌}
use mathlib.Core.Path.{◌≡◌, refl, sym, ap, ap₂, ◌∙◌}
use mathlib.Core.Logic.{⊎_elim}
use mathlib.Core.Bool.{Bool, true, false, cond, ◌&&◌}
use mathlib.Core.List.{List, [], ◌∷◌, ◌++◌}
use native.Mathlib.Nat.{eq-or-lt_of_le}
use native.Mathlib.Omega.{arith}
use lib.Dec.{eqb, leb}
use Rattle.octets.specs.Tests.{every}
use Rattle.octets.proofs.Tests.{both, same_by}
use Rattle.flows.specs.Flows.{good_flow, known_family, good_group, good_source}
use Rattle.rows.specs.Rows.{all_of, none_of, rows_ok}
use Rattle.rows.proofs.Rows.{all_at, all_by}
use Rattle.channels.specs.Channels.{channel_at, rate_at, is_row}
use Rattle.circuits.specs.Circuits.{id_length, id_at, has_id}
use Rattle.tables.specs.Tables.{id_ok, channel_ok, entry_ok, entry_ok_at, tables_ok}
use Rattle.card.specs.Start.{Started, fresh_card, first_ok, start_of}
use Rattle.faults.specs.Faults.{Check, check, all_pass, rows_from, port_checks, channel_checks, entry_checks, table_checks, start_checks}

pass_two : (xs ys : List Check) → all_pass (xs ++ ys) ≡ (all_pass xs && all_pass ys)
unfolding all_pass
pass_two [] ys = refl
pass_two (c ∷ cs) ys = ap (λ (b : Bool). c.passes && b) (pass_two cs ys) ∙ go c.passes (all_pass cs) (all_pass ys)
  where
    go : (x y z : Bool) → (x && (y && z)) ≡ ((x && y) && z)
    go true y z = refl
    go false y z = refl

-- ---- the rows of a table
module _ (rows : ℕ → List Check) (test : ℕ → Bool) (each : (i : ℕ) → all_pass (rows i) ≡ test i) where
  pass_at : (i n : ℕ) → all_pass (rows_from i n rows) ≡ true → (k : ℕ) → i ≤ k → k < i + n → test k ≡ true
  unfolding rows_from
  pass_at i zero e k a b = absurd (omega arith)
  pass_at i (suc n) e k a b =
      let t = both (all_pass (rows i)) (all_pass (rows_from (suc i) n rows)) (sym (pass_two (rows i) (rows_from (suc i) n rows)) ∙ e) in
      ⊎_elim (λ (s : i ≡ k). ap test (sym s) ∙ sym (each i) ∙ t.0) (λ (l : i < k). pass_at (suc i) n t.1 k l (omega arith)) (eq-or-lt_of_le a)

  pass_by : (i n : ℕ) → ((k : ℕ) → i ≤ k → k < i + n → test k ≡ true) → all_pass (rows_from i n rows) ≡ true
  unfolding rows_from all_pass
  pass_by i zero h = refl
  pass_by i (suc n) h =
      pass_two (rows i) (rows_from (suc i) n rows)
      ∙ ap₂ ◌&&◌ (each i ∙ h i (omega arith) (omega arith)) (pass_by (suc i) n (λ k a b. h k (omega arith) (omega arith)))

  pass_rows : (n : ℕ) → all_pass (rows_from 0 n rows) ≡ all_of n test
  pass_rows n =
      same_by (all_pass (rows_from 0 n rows)) (all_of n test)
      (λ e. all_by n test (λ k l. pass_at 0 n e k (omega arith) (omega arith)))
      (λ e. pass_by 0 n (λ k a b. all_at n test e k (omega arith)))

  pass_table : (table most n : ℕ) → all_pass (table_checks table most n rows) ≡ rows_ok most n test
  unfolding table_checks all_pass rows_ok every
  pass_table table most n = ap (λ (b : Bool). leb n most && b) (pass_rows n ∙ go (all_of n test))
    where
      go : (b : Bool) → b ≡ (b && true)
      go true = refl
      go false = refl

-- ---- each row
three : (a b d : Bool) → ((a && (b && true)) && (d && true)) ≡ (a && (b && (d && true)))
three true true d = refl
three true false d = refl
three false b d = refl

five : (a b x y z d : Bool) → ((a && (b && true)) && (x && (y && (z && (d && true))))) ≡ (a && (b && ((x && (y && (z && true))) && (d && true))))
five true true true true true d = refl
five true true true true false d = refl
five true true true false z d = refl
five true true false y z d = refl
five true false x y z d = refl
five false b x y z d = refl

pass_port : (ids : List ℕ) (p : ℕ) → all_pass (port_checks ids p) ≡ id_ok ids p
unfolding port_checks all_pass id_ok every
pass_port ids p = three (leb 1 (id_length ids p)) (leb (id_length ids p) 63) (none_of p (has_id ids (id_at ids p)))

pass_channel : (t : List ℕ) (i : ℕ) → all_pass (channel_checks t i) ≡ channel_ok t i
unfolding channel_checks all_pass channel_ok good_flow every
pass_channel t i =
    let f = channel_at t i in
    five (leb 1 (rate_at t i)) (leb (rate_at t i) 10000000) (known_family f.family) (good_group f.family f.group)
    (good_source f.family f.sourced f.source) (none_of i (is_row t f))

pass_entry : (t : List ℕ) (i : ℕ) → all_pass (entry_checks t i) ≡ entry_ok_at t i
unfolding entry_checks all_pass entry_ok every
pass_entry t i = refl

-- ---- all of them
module _ (ids : List ℕ) (ports : ℕ) (channels : List ℕ) (channel_count : ℕ) (entries : List ℕ) (entry_count first : ℕ) where
  pub whole-tables : all_pass (start_checks ids ports channels channel_count entries entry_count first) ≡ every (tables_ok ids ports channels channel_count entries entry_count ∷ first_ok first ∷ [])
  unfolding start_checks tables_ok every all_pass
  whole-tables =
      let a = table_checks 1 64 ports (port_checks ids) in
      let b = table_checks 2 256 channel_count (channel_checks channels) in
      let d = table_checks 3 128 entry_count (entry_checks entries) in
      let e = check 4 0 11 (first_ok first) ∷ [] in
      pass_two a (b ++ (d ++ e))
      ∙ ap₂ ◌&&◌ (pass_table (port_checks ids) (id_ok ids) (pass_port ids) 1 64 ports)
      (pass_two b (d ++ e)
      ∙ ap₂ ◌&&◌ (pass_table (channel_checks channels) (channel_ok channels) (pass_channel channels) 2 256 channel_count)
      (pass_two d e
      ∙ ap (λ (x : Bool). x && (first_ok first && true)) (pass_table (entry_checks entries) (entry_ok_at entries) (pass_entry entries) 3 128 entry_count)))
      ∙ go (rows_ok 64 ports (id_ok ids)) (rows_ok 256 channel_count (channel_ok channels)) (rows_ok 128 entry_count (entry_ok_at entries)) (first_ok first)
    where
      go : (a b d e : Bool) → (a && (b && (d && (e && true)))) ≡ ((a && (b && (d && true))) && (e && true))
      go true true true e = refl
      go true true false e = refl
      go true false d e = refl
      go false b d e = refl

  pub whole-start : (white add : Bool) → all_pass (start_checks ids ports channels channel_count entries entry_count first) ≡ eqb (start_of ids ports channels channel_count entries entry_count white add first).number 0
  unfolding start_of
  whole-start white add =
      whole-tables
      ∙ go (every (tables_ok ids ports channels channel_count entries entry_count ∷ first_ok first ∷ []))
      (record { card = fresh_card ports channel_count entry_count white add first; number = 0 })
      (record { card = fresh_card 0 0 0 false false 1; number = 14 }) refl refl
    where
      go : (b : Bool) (x y : Started) → true ≡ eqb x.number 0 → false ≡ eqb y.number 0 → b ≡ eqb (cond b x y).number 0
      go true x y h k = h
      go false x y h k = k
