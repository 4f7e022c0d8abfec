-- What the card begins, and its answers, read back; and with the refusals every kind. Assumes nothing.
use mathlib.Core.Path.{◌≡◌, refl, ap, ◌∙◌}
use mathlib.Core.List.{List, [], ◌∷◌, ◌++◌}
use mathlib.Core.Bool.{true, false}
use Prim.Native.Nat.{ℕ, suc, ◌<◌}
use native.Mathlib.Omega.{arith}
use Rattle.octets.specs.Tests.{every}
use Rattle.header.specs.declared.Header.{Header}
use Rattle.tlv.specs.Depth.{list_ok}
use Rattle.items.specs.Items.{Item, item, items_of, of_type, count_of, first_of}
use Rattle.fields.specs.Fields.{command_in, command_tlvs}
use Rattle.flows.specs.declared.Flow.{Flow}
use Rattle.flows.specs.Flows.{good_flow}
use Rattle.flows.proofs.Good.{good-flow}
use Rattle.flow_octets.specs.FlowOctets.{flow_tlv, flow_octets, FlowBack}
use Rattle.flow_octets.proofs.Back.{back}
use Rattle.channels.specs.Channels.{channel_at}
use Rattle.writers.specs.Tlvs.{target_of, command_of, request_of, allocation_of}
use Rattle.replies.specs.Replies.{reply_header, begin_header, success_of, amount_reply}
use Rattle.begun.specs.Begun.{admission_of, reallocation_of}
use Rattle.commands.specs.Directives.{flows_asked, flow_count, flow_content, shape_ok, flow_directive, directive_of}
use Rattle.commands.specs.Directives.Directive.{add}
use Rattle.queries.specs.Queries.{flow_tlvs, flows_reply}
use Rattle.readback.proofs.Tlv.{items-none, items_back, items-last}
use Rattle.readback.proofs.Fields.{read_back}
use Rattle.readback.proofs.Checked.{passes, alone}
use Rattle.replyback.specs.Says.{Says}
use Rattle.replyback.specs.Kinds.{Admits, Requests, Carries, FlowsOf, Lists, Good, KindsBack}
use Rattle.replyback.specs.Kinds.FlowsOf.{none, more}
use Rattle.replyback.proofs.Composed.{last, target_content, names, target-before, says, any_result}
use Rattle.replyback.proofs.Refusals.{rows_back, failure_back}

-- ---- a Multicast-Flow
module _ (f : Flow) (b : FlowBack f) where
  flow-before : (rest : List ℕ) {is : List Item} → items_of rest ≡ is → items_of (flow_tlv f ++ rest) ≡ item 0x0019 (flow_octets f) ∷ is
  flow-before rest e =
      ap (λ (w : List ℕ). items_of (w ++ rest)) b.content
      ∙ items_back 0x0019 (flow_octets f) rest
      ∙ ap (λ (js : List Item). item 0x0019 (flow_octets f) ∷ js) e

  flow-last : items_of (flow_tlv f) ≡ item 0x0019 (flow_octets f) ∷ []
  flow-last = ap items_of b.content ∙ items-last 0x0019 (flow_octets f)

flow-passes : (d : ℕ) (f : Flow) (rest : List ℕ) → list_ok (suc d) false rest ≡ true → list_ok (suc d) false (flow_tlv f ++ rest) ≡ true
unfolding flow_tlv
flow-passes d f rest h = passes.flow d false _ _ _ _ _ rest h

-- ---- 145
module _ (transaction : ℕ) (id : List ℕ) (f : Flow) (ht : transaction < 16777216) (b : FlowBack f) (good : good_flow f ≡ true) where
  abbrev command : List ℕ
  command = (read_back.command 1 0 (flow_tlv f)).content

  command_is : command_in command ≡ record { code = 1; accounting = 0 }
  command_is = (read_back.command 1 0 (flow_tlv f)).fields.0

  one-flow : items_of (command_tlvs command) ≡ item 0x0019 (flow_octets f) ∷ []
  one-flow = ap items_of (read_back.command 1 0 (flow_tlv f)).fields.1 ∙ flow-last f b

  flow_is : flow_content command ≡ flow_octets f
  unfolding flow_content first_of of_type
  flow_is = ap (first_of 0x0019) one-flow

  flow_counts : flow_count command ≡ 1
  unfolding flow_count count_of of_type
  flow_counts = ap (count_of 0x0019) one-flow

  shape : shape_ok command ≡ true
  unfolding shape_ok flows_asked every
  shape = rw (command_is, flow_counts)

  order_is : directive_of command ≡ add f 0
  unfolding directive_of flow_directive
  order_is = rw (shape, command_is, flow_is, b.formed, b.named, good)

  admission_back : Admits (admission_of transaction id f) transaction id f
  unfolding admission_of
  admission_back =
      record {
        target = target_content id;
        command = command;
        flow = flow_octets f;
        says = says (begin_header 145 transaction) (target_of id ++ command_of 1 0 (flow_tlv f)) (omega arith) (omega arith) ht
            (target-before id _ (last (read_back.command 1 0 (flow_tlv f))))
            (passes.target 1 false id _ (alone 3 false _ (passes.command 2 false 1 0 (flow_tlv f) (alone 2 false _ (flow-passes 1 f)))));
        circuit = names id;
        asks = command_is;
        flows = one-flow;
        formed = b.formed;
        named = b.named;
        order = order_is;
      }

-- ---- 146
reallocation-back : (transaction : ℕ) (id : List ℕ) (required preferred : ℕ) → transaction < 16777216
    → Requests (reallocation_of transaction id required preferred) transaction id required preferred
unfolding reallocation_of
reallocation-back transaction id required preferred ht =
    let r = read_back.request required preferred in
    record {
      target = target_content id;
      request = r.content;
      says = says (begin_header 146 transaction) (target_of id ++ request_of required preferred) (omega arith) (omega arith) ht
          (target-before id _ (last r)) (passes.target 1 false id _ (alone 3 false _ (passes.request 2 false required preferred)));
      circuit = names id;
      fixed = r.fields.0;
      amounts = r.fields.1;
    }

-- ---- 91 Success
success_back : (h : Header) → h.transaction < 16777216 → Says (success_of h) (reply_header h 91 3 0) []
unfolding success_of
success_back h ht = says (reply_header h 91 3 0) [] (omega arith) (omega arith) ht items-none (passes.none 4 false)

-- ---- 147, 148
amount-back : (h : Header) (kind result code : ℕ) (id : List ℕ) (amount : ℕ) → h.transaction < 16777216 → result < 16 → code < 4096
    → Carries (amount_reply h kind result code id amount) (reply_header h kind result code) id amount
unfolding amount_reply
amount-back h kind result code id amount ht hr hc =
    let r = read_back.allocation amount in
    record {
      target = target_content id;
      allocation = r.content;
      says = says (reply_header h kind result code) (target_of id ++ allocation_of amount) hr hc ht (target-before id _ (last r))
          (any_result result _ (passes.target 1 false id _ (alone 3 false _ (passes.allocation 2 false amount))));
      circuit = names id;
      fixed = r.fields.0;
      carried = r.fields.1;
    }

-- ---- 149
channel-back : (channels : List ℕ) (k : ℕ) → good_flow (channel_at channels k) ≡ true → FlowBack (channel_at channels k)
unfolding channel_at
channel-back channels k good = back (channel_at channels k) (good-flow (channel_at channels k) good) refl refl

-- the TLVs of some channels' flows
abbrev flow_items : List ℕ → List ℕ → List Item
flow_items channels [] = []
flow_items channels (k ∷ ks) = item 0x0019 (flow_octets (channel_at channels k)) ∷ flow_items channels ks

module _ (channels : List ℕ) where
  flows_read : (ks : List ℕ) → Good channels ks → items_of (flow_tlvs channels ks) ≡ flow_items channels ks
  unfolding flow_tlvs
  flows_read [] g = items-none
  flows_read (k ∷ ks) g = flow-before (channel_at channels k) (channel-back channels k g.0) (flow_tlvs channels ks) (flows_read ks g.1)

  flows_name : (ks : List ℕ) → Good channels ks → FlowsOf channels (flow_items channels ks) ks
  flows_name [] g = none
  flows_name (k ∷ ks) g = let b = channel-back channels k g.0 in more b.formed b.named (flows_name ks g.1)

  flows_pass : (ks : List ℕ) → list_ok 4 false (flow_tlvs channels ks) ≡ true
  unfolding flow_tlvs
  flows_pass [] = passes.none 4 false
  flows_pass (k ∷ ks) = flow-passes 3 (channel_at channels k) (flow_tlvs channels ks) (flows_pass ks)

-- whatever the flows of the channels are, the message reads and passes
pub listing_says : (h : Header) (id channels ks : List ℕ) {is : List Item} → h.transaction < 16777216 → items_of (flow_tlvs channels ks) ≡ is
    → Says (flows_reply h id channels ks) (reply_header h h.kind 3 0) (item 0x1000 (target_content id) ∷ is)
unfolding flows_reply
listing_says h id channels ks ht e =
    says (reply_header h h.kind 3 0) (target_of id ++ flow_tlvs channels ks) (omega arith) (omega arith) ht
    (target-before id _ e) (passes.target 2 false id _ (flows_pass channels ks))

listing_back : (h : Header) (id channels ks : List ℕ) → h.transaction < 16777216 → Good channels ks
    → Lists (flows_reply h id channels ks) (reply_header h h.kind 3 0) id channels ks
listing_back h id channels ks ht g =
    record {
      target = target_content id;
      flows = flow_items channels ks;
      says = listing_says h id channels ks ht (flows_read channels ks g);
      circuit = names id;
      each = flows_name channels ks g;
    }

pub kinds_back : KindsBack
kinds_back =
    record {
      admission = λ transaction id f ht lg ls good. admission_back transaction id f ht (back f (good-flow f good) lg ls) good;
      reallocation = reallocation-back;
      success = success_back;
      rows = rows_back;
      failure = λ h code id number s c front after ht hc hs e. failure_back h s ht code id number c front after hc hs e;
      amount = amount-back;
      listing = listing_back;
    }
