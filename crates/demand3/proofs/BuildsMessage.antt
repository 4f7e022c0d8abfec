-- A 144 with Result 1 on the start of BuildsStart.antt, without admission control, after port up: Add of the first flow, Add of the second.
--     both_added, command      its octets
--     second_reached           the second Add is reached
--     second_starts            and starts by the rule
--     first_alone              after the first alone, the second flow is not active
-- And a 146 for port 1 (`other_asked`).
-- Assumes nothing.
use Rattle.std.specs.Prelude.{Some}
use Prim.Native.Nat.{ℕ, ◌≤◌}
use mathlib.Core.Path.{◌≡◌, refl, sym, ap, subst, ◌∙◌}
use mathlib.Core.Logic.{inl, inr}
use mathlib.Core.Bool.{Bool, true, false}
use mathlib.Core.List.{List, [], ◌∷◌, ◌++◌}
use native.Mathlib.Omega.{arith}
use lib.ListN.{length, drop}
use Rattle.octets.specs.Tests.{every}
use Rattle.header.specs.Header.{size_ok, usable, header_in}
use Rattle.tlv.specs.First.{first_tlv}
use Rattle.tlv.specs.Fold.{fold_by, fold_up_to, fold_tlvs}
use Rattle.tlv.specs.Depth.{inside_of, held_ok, inside_ok, all_tlvs, list_ok}
use Rattle.items.specs.Items.{items_of, of_type, count_of, first_of}
use Rattle.fields.specs.Fields.{circuit_ids, command_in}
use Rattle.fields.specs.Flow.{width_of, length_agrees}
use Rattle.flows.specs.Words.{same, zeros}
use Rattle.flows.specs.Flows.{known_family, width, in_width, is_group, good_group, good_source, good_flow}
use Rattle.flow_octets.specs.FlowOctets.{type_ok, flow_formed, word_in, flow_named}
use Rattle.rows.specs.Rows as rows
use Rattle.circuits.specs.Circuits.{id_length, id_at, port_of}
use Rattle.listing.specs.Listing.{active_at}
use Rattle.checks.specs.Table.{id_in}
use Rattle.commands.specs.Directives.{flows_asked, flow_count, flow_content, shape_ok, flow_directive, directive_of}
use Rattle.commands.specs.Directives.Directive.{add}
use Rattle.commands.specs.Commands.{ran_of}
use Rattle.control.specs.Control.{commands_in}
use Rattle.demand3.specs.Reads.{kind_in, result_in, transaction_in, tlvs_in, port_in}
use Rattle.demand3.specs.Ledger.{Line, Ledger, write, holds, begins, acts, acts_all}
use Rattle.demand3.specs.Claim.{Starts, Wanted, Succeeds, AllSucceed, ledger_after, Reaches}
use Rattle.demand3.proofs.Figures.{reads-active}
use Rattle.demand3.proofs.Command.{carried_out_agrees, carried_out_code}
use Rattle.demand3.proofs.BuildsStart.{small, first, second, others, both_listed, tables, raised, one_up, upped, up_agrees}

-- an Add of 239.0.0.n
abbrev pub command : ℕ → List ℕ
command n = 1 ∷ 0 ∷ 0 ∷ 0 ∷ 0 ∷ 0x19 ∷ 0 ∷ 8 ∷ 1 ∷ 1 ∷ 0 ∷ 0 ∷ 239 ∷ 0 ∷ 0 ∷ n ∷ []

-- header, Target, Commands
abbrev pub both_added : List ℕ
both_added =
    0x88 ∷ 0x0C ∷ 0 ∷ 64 ∷ 0x32 ∷ 144 ∷ 0x10 ∷ 0 ∷ 0 ∷ 0 ∷ 0 ∷ 1 ∷ 0x80 ∷ 0x01 ∷ 0 ∷ 64
    ∷ 0x10 ∷ 0x00 ∷ 0 ∷ 8 ∷ 0 ∷ 1 ∷ 0 ∷ 1 ∷ 112 ∷ 0 ∷ 0 ∷ 0
    ∷ (0 ∷ 0x11 ∷ 0 ∷ 16 ∷ command 1) ++ (0 ∷ 0x11 ∷ 0 ∷ 16 ∷ command 2)

-- ---- what is read off it
abbrev s : List ℕ
s = drop 16 both_added

pub added_kind : kind_in both_added ≡ 144
unfolding kind_in header_in
added_kind = refl

added_result : result_in both_added ≡ 1
unfolding result_in header_in
added_result = refl

added_transaction : 1 ≤ transaction_in both_added
unfolding transaction_in header_in
added_transaction = omega arith

in_order : (size_ok both_added ≡ true) × (usable both_added ≡ true) × (list_ok 3 false s ≡ true)
unfolding size_ok usable every list_ok all_tlvs inside_ok held_ok inside_of fold_tlvs fold_up_to fold_by first_tlv
in_order = (refl, refl, refl)

one-target : (count_of 0x1000 (tlvs_in both_added) ≡ 1) × (circuit_ids (first_of 0x1000 (tlvs_in both_added)) ≡ 1)
unfolding tlvs_in items_of of_type count_of first_of fold_tlvs fold_up_to fold_by first_tlv
one-target = (refl, refl)

pub added_port : port_in (small false) both_added ≡ Some 0
unfolding port_in port_of rows.first_row rows.first_from id_at id_length same id_in items_of of_type first_of fold_tlvs fold_up_to fold_by first_tlv
added_port = refl

pub added_commands : commands_in s ≡ command 1 ∷ command 2 ∷ []
unfolding items_of of_type fold_tlvs fold_up_to fold_by first_tlv
added_commands = refl

both_orders : (directive_of (command 1) ≡ add first 0) × (directive_of (command 2) ≡ add second 0)
unfolding directive_of shape_ok flows_asked flow_count flow_content flow_directive command_in count_of first_of items_of of_type fold_tlvs fold_up_to fold_by first_tlv flow_formed
    type_ok length_agrees width_of every flow_named word_in width good_flow known_family good_group is_group in_width good_source zeros
both_orders = (refl, refl)

-- ---- the first Add succeeds
first-succeeds : (l : Ledger) → l 0 ≡ raised → Succeeds (small false) l 0 (directive_of (command 1))
unfolding Succeeds Starts
first-succeeds l e =
    subst (Succeeds (small false) l 0) (sym both_orders.0)
    ((both_listed false).0, inr (inl (omega (arith, ap (λ (x : Line). length x.flows) e))))

-- the line after it
abbrev one-flow : Line
one-flow = begins raised first false

after_first : acts_all (small false) (one_up 0) (command 1 ∷ []) ≡ one-flow
unfolding acts_all acts write holds
after_first = ap (acts (small false) raised) both_orders.0

second_idle : holds second one-flow.flows ≡ false
unfolding holds
second_idle = rw others

pub first_alone : active_at (small false).channels (ran_of (small false).channels (upped false) 0 (command 1)).card 0 second ≡ false
unfolding write acts_all
first_alone =
    let a = up_agrees false in
    let done = (carried_out_code (small false) (upped false) one_up a 0 (omega arith) refl (command 1)).1 (first-succeeds one_up refl) in
    reads-active (small false) (ran_of (small false).channels (upped false) 0 (command 1)).card (write one_up 0 (acts (small false) raised (directive_of (command 1))))
    (carried_out_agrees (small false) (upped false) one_up a 0 (omega arith) refl (directive_of (command 1)) done) (tables false) 0 (omega arith) second
    ∙ ap (λ (x : Line). holds second x.flows) after_first
    ∙ second_idle

-- ---- the second Add is reached, and starts
second_wanted : Wanted (small false) (ledger_after (small false) one_up 0 (command 1 ∷ [])) 0 second
unfolding write
second_wanted =
    subst (λ (x : Line). Wanted (small false) (write one_up 0 x) 0 second) (sym after_first)
    (record { port = omega arith; is_listed = (both_listed false).1; is_up = refl; idle = second_idle })

pub second_reached : Reaches (small false) one_up both_added 0 second (command 1 ∷ []) []
unfolding AllSucceed write
second_reached =
    record {
      sound = record {
        size = in_order.0;
        header = in_order.1;
        is_kind = added_kind;
        transaction = added_transaction;
        lengths = in_order.2;
        target = one-target.0;
        circuit = one-target.1;
        port = added_port;
      };
      result = inl added_result;
      here = command 2;
      commands = added_commands;
      accounting = 0;
      is_add = both_orders.1;
      succeed = (first-succeeds (write one_up 0 (one_up 0)) refl, tt);
      wanted = second_wanted;
    }

pub second_starts : Starts (small false) false (ledger_after (small false) one_up 0 (command 1 ∷ [])) 0 second
unfolding Starts write
second_starts = subst (λ (x : Line). Starts (small false) false (write one_up 0 x) 0 second) (sym after_first) (inl (omega arith))

-- ---- a 146 for port 1: header, Target, Bandwidth-Request for 500, if possible for 0
abbrev pub other_asked : List ℕ
other_asked =
    0x88 ∷ 0x0C ∷ 0 ∷ 36 ∷ 0x32 ∷ 146 ∷ 0 ∷ 0 ∷ 0 ∷ 0 ∷ 0 ∷ 1 ∷ 0x80 ∷ 0x01 ∷ 0 ∷ 36
    ∷ 0x10 ∷ 0x00 ∷ 0 ∷ 8 ∷ 0 ∷ 1 ∷ 0 ∷ 1 ∷ 113 ∷ 0 ∷ 0 ∷ 0
    ∷ 0 ∷ 0x16 ∷ 0 ∷ 8 ∷ 0 ∷ 0 ∷ 1 ∷ 244 ∷ 0 ∷ 0 ∷ 0 ∷ 0 ∷ []

pub asked-kind : kind_in other_asked ≡ 146
unfolding kind_in header_in
asked-kind = refl

pub asked_port : (cac : Bool) → port_in (small cac) other_asked ≡ Some 1
unfolding port_in port_of rows.first_row rows.first_from id_at id_length same id_in items_of of_type first_of fold_tlvs fold_up_to fold_by first_tlv
asked_port cac = refl
