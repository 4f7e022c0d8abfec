-- What is known of what follows past the table: a command's result code fits its field, and a port's rows are at most 16. Assumes nothing.
use Rattle.std.specs.Prelude.{Option, Some, None}
use mathlib.Core.Path.{◌≡◌, refl, ap}
use mathlib.Core.List.{List, [], ◌∷◌}
use mathlib.Core.Bool.{Bool, true, false, cond}
use Prim.Native.Nat.{ℕ, suc, ◌+◌, ◌≤◌, ◌<◌}
use native.Mathlib.Omega.{arith}
use lib.ListN.{length, take, length-take}
use lib.Dec.{eqb}
use Rattle.fields.specs.Fields.{command_in}
use Rattle.flows.specs.Flows.{good_flow}
use Rattle.flow_octets.specs.FlowOctets.{flow_formed, flow_named}
use Rattle.channels.specs.Channels.{channel_of}
use Rattle.pool.specs.declared.Pool.{Pool}
use Rattle.flows.specs.declared.Flow.{Flow}
use Rattle.pool.specs.Pool.{is_active, has_flow, rows_of}
use Rattle.card.specs.Cards.{Card}
use Rattle.joins.specs.Joins.{admit_number}
use Rattle.listing.specs.Listing.{row_before, placed, placed_all, in_order, rows_in_order}
use Rattle.commands.specs.Commands.{Ran, add_new, add_row, delete_flow, carried_out, ran_of}
use Rattle.commands.specs.Directives.{Directive, shape_ok, flow_content, flow_directive, directive_of}
use Rattle.commands.specs.Directives.Directive.{malformed}
use Rattle.replyback.proofs.Cases.{by_cond}

-- ---- the result code of a command fits its field
abbrev Small : Ran → Type 0
Small r = r.code < 4096

module _ (channels : List ℕ) (card : Card) (p : ℕ) where
  add-code : (accounting : ℕ) (x : Option ℕ) → (add_row channels card p accounting x).code < 4096
  unfolding add_row add_new
  add-code accounting None = omega arith
  add-code accounting (Some k) =
      by_cond Small (is_active card.pool p k) _ _ (λ _. omega arith)
      (λ _. by_cond Small (eqb (admit_number channels card card.head.add_cac p k) 0) _ _ (λ _. omega arith) (λ _. omega arith))

  delete-code : (f : Flow) → (delete_flow channels card p f).code < 4096
  unfolding delete_flow
  delete-code f = by_cond Small (has_flow channels card.pool p f) _ _ (λ _. omega arith) (λ _. omega arith)

  Fits : Directive → Type 0
  Fits o = (carried_out channels card p o).code < 4096

  malformed-code : (code : ℕ) → code < 4096 → Fits (malformed code)
  unfolding Fits carried_out
  malformed-code code h = h

  flow_code : (code accounting : ℕ) (c : List ℕ) → Fits (flow_directive code accounting c)
  unfolding flow_directive Fits carried_out
  flow_code code accounting c =
      by_cond Fits (flow_formed c) _ _
      (λ _. by_cond Fits (good_flow (flow_named c)) _ _
      (λ _. by_cond Fits (eqb code 1) _ _
      (λ _. add-code accounting (channel_of channels card.head.channel_count (flow_named c)))
      (λ _. delete-code (flow_named c)))
      (λ _. malformed-code 0x65 (omega arith)))
      (λ _. malformed-code 0x55 (omega arith))

  pub code_fits : (c : List ℕ) → (ran_of channels card p c).code < 4096
  unfolding directive_of Fits carried_out
  code_fits c =
      by_cond Fits (shape_ok c) _ _
      (λ _. by_cond Fits (eqb (command_in c).code 3) _ _ (λ _. omega arith) (λ _. flow_code (command_in c).code (command_in c).accounting (flow_content c)))
      (λ _. malformed-code 0x64 (omega arith))

-- ---- a port's rows
module _ (before : ℕ → ℕ → Bool) where
  longer-by : (b : Bool) (k j : ℕ) (xs ys : List ℕ) (n : ℕ) → length xs ≡ n → length ys ≡ n → length (cond b (k ∷ xs) (j ∷ ys)) ≡ suc n
  longer-by true k j xs ys n e f = ap suc e
  longer-by false k j xs ys n e f = ap suc f

  placed-length : (k : ℕ) (js : List ℕ) → length (placed before k js) ≡ suc (length js)
  unfolding placed
  placed-length k [] = refl
  placed-length k (j ∷ js) = longer-by (before k j) k j (placed before j js) (placed before k js) (suc (length js)) (placed-length j js) (placed-length k js)

  all_length : (done ks : List ℕ) → length (placed_all before done ks) ≡ length ks + length done
  unfolding placed_all
  all_length done [] = omega arith
  all_length done (k ∷ ks) = omega (arith, all_length (placed before k done) ks, placed-length k done)

pub rows_few : (channels : List ℕ) (pool : Pool) (p : ℕ) → length (rows_in_order channels pool p) ≤ 16
unfolding rows_in_order in_order
rows_few channels pool p = omega (arith, all_length (row_before channels) [] (take 16 (rows_of pool p)), length-take 16 (rows_of pool p))
