-- Each kind of message that the card writes reads back as the same fields (CARD.md, "What the card writes"). Assumes
-- nothing: these are definitions; the statements are proved in proofs/, and owed by `replyback::largest_reply`.
use Rattle.std.specs.Prelude.{ℕ, ◌<◌, ◌≡◌, true, false, List, [], ◌∷◌, ◌++◌, length}
use Rattle.header.specs.declared.Header.{Header}
use Rattle.tlv.specs.Depth.{list_ok}
use Rattle.items.specs.Items.{Item, item, items_of}
use Rattle.fields.specs.Fields.{command_in, command_tlvs, allocation_in, request_in, sequence_in, length_ok}
use Rattle.flows.specs.declared.Flow.{Flow}
use Rattle.flows.specs.Flows.{good_flow}
use Rattle.flow_octets.specs.FlowOctets.{flow_formed, flow_named}
use Rattle.channels.specs.Channels.{channel_at}
use Rattle.replies.specs.Replies.{reply_header, begin_header, success_of, amount_reply}
use Rattle.begun.specs.Begun.{admission_of, reallocation_of}
use Rattle.rules.specs.Rules.{rules_of}
use Rattle.rules.specs.Named.{missing}
use Rattle.checks.specs.Table.{id_in, faults, refused_of}
use Rattle.commands.specs.Directives.{directive_of}
use Rattle.commands.specs.Directives.Directive.{add}
use Rattle.control.specs.Control.{commands_in, failure_of}
use Rattle.queries.specs.Queries.{flows_reply}
use Rattle.replyback.specs.Says.{Says, Names, Refuses, absent}

-- ---- what the card begins

-- Admission Control (145): Target, and one Command: Add, accounting 0, with one Multicast-Flow, that of f
pub record Admits (w : List ℕ) (transaction : ℕ) (id : List ℕ) (f : Flow) : Type 0 where
  pub target : List ℕ
  pub command : List ℕ
  pub flow : List ℕ
  pub says : Says w (begin_header 145 transaction) (item 0x1000 target ∷ item 0x0011 command ∷ [])
  pub circuit : Names target id
  pub asks : command_in command ≡ record { code = 1; accounting = 0 }
  pub flows : items_of (command_tlvs command) ≡ item 0x0019 flow ∷ []
  pub formed : flow_formed flow ≡ true
  pub named : flow_named flow ≡ f
  -- as a Command of a 144 it would be an Add of f
  pub order : directive_of command ≡ add f 0

-- Bandwidth Reallocation Request (146): Target, Bandwidth-Request
pub record Requests (w : List ℕ) (transaction : ℕ) (id : List ℕ) (required preferred : ℕ) : Type 0 where
  pub target : List ℕ
  pub request : List ℕ
  pub says : Says w (begin_header 146 transaction) (item 0x1000 target ∷ item 0x0016 request ∷ [])
  pub circuit : Names target id
  pub fixed : length_ok 0x0016 request ≡ true
  pub amounts : request_in request ≡ record { required = required; preferred = preferred }

-- ---- refusals, of a message with header h

-- port unknown, port down: a Target with the circuit id alone is enclosed
pub record RefusesPort (w : List ℕ) (h : Header) (code : ℕ) (id : List ℕ) : Type 0 where
  pub target : List ℕ
  pub refuses : Refuses w h code (item 0x1000 target ∷ [])
  pub circuit : Names target id

-- the rows of the table, where s is what follows the header. Of the TLVs at fault the first is copied, type and content; the check of
-- lengths and depth comes before that row
pub record RowsBack (h : Header) (s : List ℕ) : Type 0 where
  pub unhandled : Refuses (refused_of h s 0x51) h 0x51 []
  pub result : Refuses (refused_of h s 0x2) h 0x2 []
  pub broken : Refuses (refused_of h s 0x53) h 0x53 []
  pub missing : Refuses (refused_of h s 0x54) h 0x54 (absent (missing (rules_of h.kind) (items_of s)))
  pub fault : (i : Item) (is : List Item) → list_ok 3 false s ≡ true → faults h.kind s ≡ i ∷ is
      → Refuses (refused_of h s 0x55) h 0x55 (i ∷ [])
  pub unknown : RefusesPort (refused_of h s 0x500) h 0x500 (id_in s)
  pub down : RefusesPort (refused_of h s 0x6) h 0x6 (id_in s)

-- a failed command: Target, Sequence-Number, and the Command as received, whose content is c
pub record Fails (w : List ℕ) (h : Header) (code : ℕ) (id : List ℕ) (number : ℕ) (c : List ℕ) : Type 0 where
  pub target : List ℕ
  pub sequence : List ℕ
  pub refuses : Refuses w h code (item 0x1000 target ∷ item 0x0022 sequence ∷ item 0x0011 c ∷ [])
  pub circuit : Names target id
  pub fixed : length_ok 0x0022 sequence ≡ true
  pub counts : sequence_in sequence ≡ number

-- ---- answers

-- Bandwidth Transfer (147), Delegated Bandwidth Query (148), with header h: Target, Bandwidth-Allocation
pub record Carries (w : List ℕ) (h : Header) (id : List ℕ) (amount : ℕ) : Type 0 where
  pub target : List ℕ
  pub allocation : List ℕ
  pub says : Says w h (item 0x1000 target ∷ item 0x0015 allocation ∷ [])
  pub circuit : Names target id
  pub fixed : length_ok 0x0015 allocation ≡ true
  pub carried : allocation_in allocation ≡ amount

-- one well-formed Multicast-Flow for the flow of each channel, in their order
pub data FlowsOf (channels : List ℕ) : List Item → List ℕ → Type 0 where
  none : FlowsOf channels [] []
  more : {c : List ℕ} {k : ℕ} {is : List Item} {ks : List ℕ} → flow_formed c ≡ true → flow_named c ≡ channel_at channels k
      → FlowsOf channels is ks → FlowsOf channels (item 0x0019 c ∷ is) (k ∷ ks)

-- Multicast Flow Query (149), with header h: Target, and the flows
pub record Lists (w : List ℕ) (h : Header) (id : List ℕ) (channels ks : List ℕ) : Type 0 where
  pub target : List ℕ
  pub flows : List Item
  pub says : Says w h (item 0x1000 target ∷ flows)
  pub circuit : Names target id
  pub each : FlowsOf channels flows ks

-- the flows of some channels are good
abbrev pub Good : List ℕ → List ℕ → Type 0
Good channels [] = Unit {0}
Good channels (k ∷ ks) = (good_flow (channel_at channels k) ≡ true) × Good channels ks

-- ---- all of them, where the numbers of the header fit their fields

pub record KindsBack : Type 0 where
  pub admission : (transaction : ℕ) (id : List ℕ) (f : Flow) → transaction < 16777216
      → length f.group ≡ 4 → length f.source ≡ 4 → good_flow f ≡ true → Admits (admission_of transaction id f) transaction id f
  pub reallocation : (transaction : ℕ) (id : List ℕ) (required preferred : ℕ) → transaction < 16777216
      → Requests (reallocation_of transaction id required preferred) transaction id required preferred
  pub success : (h : Header) → h.transaction < 16777216 → Says (success_of h) (reply_header h 91 3 0) []
  pub rows : (h : Header) (s : List ℕ) → h.transaction < 16777216 → RowsBack h s
  -- c is one of the Commands of a message whose TLVs passed the check
  pub failure : (h : Header) (code : ℕ) (id : List ℕ) (number : ℕ) (s c : List ℕ) (front after : List (List ℕ))
      → h.transaction < 16777216 → code < 4096
      → list_ok 3 false s ≡ true → commands_in s ≡ front ++ (c ∷ after) → Fails (failure_of h code id number c) h code id number c
  pub amount : (h : Header) (kind result code : ℕ) (id : List ℕ) (amount : ℕ) → h.transaction < 16777216 → result < 16 → code < 4096
      → Carries (amount_reply h kind result code id amount) (reply_header h kind result code) id amount
  pub listing : (h : Header) (id channels ks : List ℕ) → h.transaction < 16777216 → Good channels ks
      → Lists (flows_reply h id channels ks) (reply_header h h.kind 3 0) id channels ks
