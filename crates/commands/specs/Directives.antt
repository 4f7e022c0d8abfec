-- What a Command asks for, read off its content c (CARD.md, "Multicast Replication Control (144)"): 0x64, 0x55, 0x65,
-- else well-formed. Assumes nothing: these are definitions.
use Rattle.std.specs.Prelude.{ℕ, Bool, cond, List, [], ◌∷◌, eqb, leb}
use Rattle.octets.specs.Tests.{every}
use Rattle.items.specs.Items.{items_of, count_of, first_of}
use Rattle.fields.specs.Fields.{command_in, command_tlvs}
use Rattle.flows.specs.declared.Flow.{Flow}
use Rattle.flows.specs.Flows.{good_flow}
use Rattle.flow_octets.specs.FlowOctets.{flow_formed, flow_named}

-- "one Multicast-Flow for Add (1) and Delete (2), nothing for Delete All (3)"
unfoldable pub flows_asked : ℕ → ℕ
flows_asked code = cond (eqb code 3) 0 1

-- the Multicast-Flows directly inside a Command: how many, and the content of the first
unfoldable pub flow_count : List ℕ → ℕ
flow_count c = count_of 0x0019 (items_of (command_tlvs c))

unfoldable pub flow_content : List ℕ → List ℕ
flow_content c = first_of 0x0019 (items_of (command_tlvs c))

-- code 1 to 3, accounting 0 or 1, and as many flows as are called for
unfoldable pub shape_ok : List ℕ → Bool
shape_ok c =
    every (leb 1 (command_in c).code
    ∷ leb (command_in c).code 3
    ∷ leb (command_in c).accounting 1
    ∷ eqb (flow_count c) (flows_asked (command_in c).code)
    ∷ [])

pub data Directive : Type 0 where
  -- not well-formed, with the result code that says so
  malformed : ℕ → Directive
  -- an Add of a flow, with its accounting
  add : Flow → ℕ → Directive
  delete : Flow → Directive
  delete_all : Directive

-- a flow whose fields and address are good is added or deleted
unfoldable pub flow_directive : ℕ → ℕ → List ℕ → Directive
flow_directive code accounting c =
    cond (flow_formed c)
    (cond (good_flow (flow_named c))
    (cond (eqb code 1) (add (flow_named c) accounting) (delete (flow_named c)))
    (malformed 0x65))
    (malformed 0x55)

unfoldable pub directive_of : List ℕ → Directive
directive_of c =
    cond (shape_ok c)
    (cond (eqb (command_in c).code 3) delete_all (flow_directive (command_in c).code (command_in c).accounting (flow_content c)))
    (malformed 0x64)
