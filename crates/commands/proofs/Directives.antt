-- What a Command asks for, case by case, from the tests that lead there. Assumes nothing.
use native.Mathlib.Omega.{arith}
use mathlib.Core.Path.{◌≡◌, sym, ap, ap₂, ◌∙◌}
use mathlib.Core.Bool.{Bool, true, false, cond}
use mathlib.Core.List.{List, [], ◌∷◌}
use Prim.Native.Nat.{ℕ, ◌≤◌}
use lib.Dec.{eqb, leb}
use borrow.Author.Tests.{le-leb, leb-true, eq-eqb, ne_eqb}
use Rattle.octets.specs.Tests.{every}
use Rattle.octets.proofs.Tests.{each, every-by, false_by, same_by, taken, left}
use Rattle.fields.specs.declared.Command.{Command}
use Rattle.fields.specs.Fields.{command_in}
use Rattle.flows.specs.declared.Flow.{Flow}
use Rattle.flows.specs.Flows.{good_flow}
use Rattle.flow_octets.specs.FlowOctets.{flow_formed, flow_named}
use Rattle.commands.specs.Directives.{flows_asked, flow_count, flow_content, shape_ok, Directive, flow_directive, directive_of}
use Rattle.commands.specs.Directives.Directive.{malformed, add, delete, delete_all}

-- the tests of a shape
abbrev tests : List ℕ → List Bool
tests c =
    leb 1 (command_in c).code ∷ leb (command_in c).code 3 ∷ leb (command_in c).accounting 1 ∷ eqb (flow_count c) (flows_asked (command_in c).code) ∷ []

-- x is the Command's fixed fields
module _ (c : List ℕ) {x : Command} (e : x ≡ command_in c) where
  code_is : x.code ≡ (command_in c).code
  code_is = ap (λ (y : Command). y.code) e

  accounting_is : x.accounting ≡ (command_in c).accounting
  accounting_is = ap (λ (y : Command). y.accounting) e

  -- a shape is wrong with one number wrong
  pub shape_wrong : (1 ≤ x.code → x.code ≤ 3 → x.accounting ≤ 1 → ⊥) → false ≡ shape_ok c
  unfolding shape_ok
  shape_wrong wrong =
      false_by (every (tests c))
      (λ h.
      let t = each (tests c) h in
      wrong (omega (arith, code_is, leb-true)) (omega (arith, code_is, leb-true)) (omega (arith, accounting_is, leb-true)))

  -- with the numbers right, the flows decide
  pub shape_flows : {n m : ℕ} → 1 ≤ x.code → x.code ≤ 3 → x.accounting ≤ 1 → n ≡ flow_count c → m ≡ flows_asked x.code
      → eqb n m ≡ shape_ok c
  unfolding shape_ok
  shape_flows low high counts en em =
      ap₂ eqb en (em ∙ ap flows_asked code_is)
      ∙ same_by (eqb (flow_count c) (flows_asked (command_in c).code)) (every (tests c))
      (λ h. every-by (tests c) (le-leb 1 (command_in c).code (omega (arith, code_is)), (le-leb (command_in c).code 3 (omega (arith, code_is)), (le-leb (command_in c).accounting 1 (omega (arith, accounting_is)), (h, tt)))))
      (λ h. (each (tests c) h).1.1.1.0)

  abbrev asks : Directive
  asks = flow_directive (command_in c).code (command_in c).accounting (flow_content c)

  pub directive_64 : shape_ok c ≡ false → malformed 0x64 ≡ directive_of c
  unfolding directive_of
  directive_64 h = left (shape_ok c) (cond (eqb (command_in c).code 3) delete_all asks) (malformed 0x64) h

  module _ (ok : shape_ok c ≡ true) where
    past : cond (eqb (command_in c).code 3) delete_all asks ≡ directive_of c
    unfolding directive_of
    past = taken (shape_ok c) (cond (eqb (command_in c).code 3) delete_all asks) (malformed 0x64) ok

    pub directive_all : x.code ≡ 3 → delete_all ≡ directive_of c
    directive_all h = taken (eqb (command_in c).code 3) delete_all asks (eq-eqb _ 3 (sym code_is ∙ h)) ∙ past

    pub directive_flow : (x.code ≡ 3 → ⊥) → {t : List ℕ} → t ≡ flow_content c → flow_directive x.code x.accounting t ≡ directive_of c
    directive_flow h et =
        ap₂ (λ (y : Command) (u : List ℕ). flow_directive y.code y.accounting u) e et
        ∙ left (eqb (command_in c).code 3) delete_all asks (ne_eqb _ 3 (λ q. h (code_is ∙ q))) ∙ past

-- an Add or a Delete of the flow with content c
module _ (code accounting : ℕ) (c : List ℕ) where
  abbrev kind : Directive
  kind = cond (eqb code 1) (add (flow_named c) accounting) (delete (flow_named c))

  abbrev good : Directive
  good = cond (good_flow (flow_named c)) kind (malformed 0x65)

  pub directive_55 : flow_formed c ≡ false → malformed 0x55 ≡ flow_directive code accounting c
  unfolding flow_directive
  directive_55 h = left (flow_formed c) good (malformed 0x55) h

  -- f is the flow that it names
  module _ (formed : flow_formed c ≡ true) {f : Flow} (e : f ≡ flow_named c) where
    here : good ≡ flow_directive code accounting c
    unfolding flow_directive
    here = taken (flow_formed c) good (malformed 0x55) formed

    pub directive_65 : good_flow f ≡ false → malformed 0x65 ≡ flow_directive code accounting c
    directive_65 h = left (good_flow (flow_named c)) kind (malformed 0x65) (sym (ap good_flow e) ∙ h) ∙ here

    module _ (h : good_flow f ≡ true) where
      sound : kind ≡ flow_directive code accounting c
      sound = taken (good_flow (flow_named c)) kind (malformed 0x65) (sym (ap good_flow e) ∙ h) ∙ here

      pub directive_add : code ≡ 1 → add f accounting ≡ flow_directive code accounting c
      directive_add one = ap (λ (g : Flow). add g accounting) e ∙ taken (eqb code 1) (add (flow_named c) accounting) (delete (flow_named c)) (eq-eqb code 1 one) ∙ sound

      pub directive_delete : (code ≡ 1 → ⊥) → delete f ≡ flow_directive code accounting c
      directive_delete other = ap delete e ∙ left (eqb code 1) (add (flow_named c) accounting) (delete (flow_named c)) (ne_eqb code 1 other) ∙ sound
