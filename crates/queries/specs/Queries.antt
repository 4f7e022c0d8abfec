-- Delegated Bandwidth Query (148) and Multicast Flow Query (149), past the table: "Same type, Result 3, code 0, Target, then the
-- delegation as Bandwidth-Allocation, or the active flows, one Multicast-Flow each, in order". Assumes nothing: these are definitions.
use Rattle.std.specs.Prelude.{ℕ, List, [], ◌∷◌, ◌++◌}
use Rattle.header.specs.declared.Header.{Header}
use Rattle.header.specs.Header.{message_of}
use Rattle.writers.specs.Tlvs.{target_of}
use Rattle.replies.specs.Replies.{reply_header, amount_reply}
use Rattle.flow_octets.specs.FlowOctets.{flow_tlv}
use Rattle.channels.specs.Channels.{channel_at}
use Rattle.circuits.specs.Circuits.{id_at}
use Rattle.card.specs.Cards.{Card, port_at}
use Rattle.card.specs.Outcome.{Outcome, writes}
use Rattle.listing.specs.Listing.{rows_in_order}

unfoldable pub delegation_query : List ℕ → Card → Header → ℕ → Outcome
delegation_query ids card h p = writes card (amount_reply h h.kind 3 0 (id_at ids p) (port_at card p).delegation)

-- the Multicast-Flows of some channels, one directly after the other
unfoldable pub flow_tlvs : List ℕ → List ℕ → List ℕ
flow_tlvs channels [] = []
flow_tlvs channels (k ∷ ks) = flow_tlv (channel_at channels k) ++ flow_tlvs channels ks

unfoldable pub flows_reply : Header → List ℕ → List ℕ → List ℕ → List ℕ
flows_reply h id channels ks = message_of (reply_header h h.kind 3 0) (target_of id ++ flow_tlvs channels ks)

unfoldable pub flow_query : List ℕ → List ℕ → Card → Header → ℕ → Outcome
flow_query ids channels card h p = writes card (flows_reply h (id_at ids p) channels (rows_in_order channels card.pool p))
