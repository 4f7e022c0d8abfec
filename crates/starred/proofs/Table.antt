-- The starred cases hold: both sides are computed, on whole cards. Assumes nothing.
use mathlib.Core.Path.{refl}
use mathlib.Core.List.{flat_map}
use Rattle.octets.specs.Numbers.{oct8, oct16, oct24, oct32}
use Rattle.octets.specs.Tests.{every}
use Rattle.header.specs.Header.{size_ok, usable, header_in, head_in, header_of, message_of}
use Rattle.tlv.specs.First.{first_tlv}
use Rattle.tlv.specs.Fold.{fold_by, fold_up_to, fold_tlvs}
use Rattle.tlv.specs.Depth.{inside_of, held_ok, inside_ok, all_tlvs, list_ok}
use Rattle.items.specs.Items as items
use Rattle.fields.specs.Fields.{request_in, length_ok}
use Rattle.writers.specs.Tlvs.{tlv_of, target_of, allocation_of, request_of}
use Rattle.replies.specs.Replies.{amount_reply}
use Rattle.flows.specs.Words.{same, zeros}
use Rattle.flows.specs.Flows.{same_flow, known_family, width, in_width, is_group, good_group, good_source, good_flow}
use Rattle.rows.specs.Rows as places
use Rattle.channels.specs.Channels.{channel_at, rate_at, channel_of}
use Rattle.lists.specs.Prefix.{bits, bits_of, prefix_matches}
use Rattle.lists.specs.Lists.{entry_at, entry_matches, matching, longest, of_length, with_longest, most_specific, has, by_priority, decision, list_decision}
use Rattle.circuits.specs.Circuits.{id_length, id_at, port_of}
use Rattle.tables.specs.Tables.{id_ok, channel_ok, known_list, within_address, entry_ok, tables_ok}
use Rattle.sums.specs.Sums.{sum_to, map_to}
use Rattle.ports.specs.Ports.{may_ask}
use Rattle.pool.specs.Pool.{sum_over, free_in, room_in, began}
use Rattle.card.specs.Cards.{is_port}
use Rattle.card.specs.Start.{first_ok, start_of}
use Rattle.card.specs.Figures.{delegation_of, committed_at}
use Rattle.begun.specs.Begun.{reallocation_of}
use Rattle.joins.specs.Joins.{fits, admit_number, white_of, by_list, join_row, join_of}
use Rattle.joins.specs.Asks.{asked_of, ask_of}
use Rattle.listing.specs.Listing.{active_row, active_at}
use Rattle.rules.specs.Rules.{handled, result_ok, transaction_ok, rules_of, is_among, rules_among}
use Rattle.rules.specs.Named.{lacks, missing, content_ok, stood, at_fault, from_fault}
use Rattle.checks.specs.Table.{id_in, located, named_rows, table_of}
use Rattle.transfers.specs.Transfers.{reduced_to, transfer_fails, transfer_gives, reallocated}
use Rattle.messages.specs.Messages.{is_answer, is_notice, by_type, requested, by_result, by_head, received_of}
use Rattle.demand3.specs.Calls.{outcome_of, started_of, by_call}
use Rattle.demand3.specs.Reads.{tlvs_in, amount_in}
use Rattle.starred.specs.Givens.{id_row, group_at, channels_from, rates, tables, up_with, owners_from, channels_in, pool_with, card_with, many, committed3000, committed3500, crowded, group_flow, join_call, ask_call, request_call}
use Rattle.starred.specs.Starred.{shown_by, shown, case_rows, Starred}

pub table : Starred
unfolding flat_map every map_to sum_to
    places.first_from places.first_row places.all_of places.none_of places.rows_ok
    oct8 oct16 oct24 oct32 header_of message_of tlv_of target_of allocation_of request_of amount_reply reallocation_of
    size_ok usable header_in head_in first_tlv fold_by fold_up_to fold_tlvs inside_of held_ok inside_ok all_tlvs list_ok
    items.items_of items.of_type items.count_of items.first_of request_in length_ok tlvs_in amount_in
    same zeros same_flow known_family width in_width is_group good_group good_source good_flow channel_at rate_at channel_of
    bits bits_of prefix_matches entry_at entry_matches matching longest of_length with_longest most_specific has by_priority decision list_decision id_length id_at port_of
    id_ok channel_ok known_list within_address entry_ok tables_ok first_ok start_of started_of
    is_port delegation_of committed_at active_row active_at sum_over free_in room_in began may_ask
    outcome_of fits admit_number white_of by_list join_row join_of asked_of ask_of
    received_of by_head by_result is_answer is_notice requested by_type table_of handled is_among result_ok transaction_ok named_rows rules_of rules_among lacks missing content_ok stood at_fault from_fault id_in located
    reallocated reduced_to transfer_fails transfer_gives
    id_row group_at channels_from rates tables up_with owners_from channels_in pool_with card_with many committed3000 committed3500 crowded
    group_flow join_call ask_call request_call by_call shown_by shown case_rows Starred
table = refl
