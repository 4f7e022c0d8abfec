-- The messages that the card begins (CARD.md, "What the card writes"). Assumes nothing: these are definitions.
use Rattle.std.specs.Prelude.{ℕ, List, ◌++◌}
use Rattle.flows.specs.declared.Flow.{Flow}
use Rattle.header.specs.Header.{message_of}
use Rattle.writers.specs.Tlvs.{target_of, command_of, request_of}
use Rattle.flow_octets.specs.FlowOctets.{flow_tlv}
use Rattle.replies.specs.Replies.{begin_header}

-- Admission Control (145): Result 0, Target, then one Command (Add, accounting 0) with the flow
unfoldable pub admission_of : ℕ → List ℕ → Flow → List ℕ
admission_of transaction id f = message_of (begin_header 145 transaction) (target_of id ++ command_of 1 0 (flow_tlv f))

-- Bandwidth Reallocation Request (146): Result 0, Target, Bandwidth-Request
unfoldable pub reallocation_of : ℕ → List ℕ → ℕ → ℕ → List ℕ
reallocation_of transaction id required preferred =
    message_of (begin_header 146 transaction) (target_of id ++ request_of required preferred)
