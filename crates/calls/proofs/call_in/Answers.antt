use lib.ListN.{length}
use Rattle.card.specs.Cards.{Areas, no_areas, with_pool, with_areas}
use Rattle.card.proofs.Parts.{areas_kept, areas_as}
use Rattle.calls.proofs.Cases.{host_port, message_port, comes_for, of_host, of_message_lem}
use Rattle.calls.proofs.call_in.Goals as goal

pub returns-then-call-lt6 : goal.returns-then-call-lt6
returns-then-call-lt6 c =
    let areas : Areas = no_areas in
    let a = c.args in
    comes_for (host_port a.ids.now a.terms.head.port_count a.call a.octets.now c.requires.1 c.if-call-lt6.true)
    (areas_as c.host_in.ensures (λ card t. of_host (with_areas (with_pool card a.pool.now) areas) a.ids.now a.channels.now a.entries.now a.call (length a.reply.now) a.octets.now c.if-call-lt6.true))

pub message_in-requires : goal.message_in-requires
message_in-requires c =
    let a = c.args in
    (c.requires.0, message_port a.ids.now a.terms.head.port_count a.call a.octets.now c.requires.1 c.if-call-lt6.false)

pub returns : goal.returns
returns c =
    let areas : Areas = no_areas in
    let a = c.args in
    areas_as (areas_kept c.message_in.ensures areas)
    (λ card t. of_message_lem (with_areas (with_pool card a.pool.now) areas) a.ids.now a.channels.now a.entries.now a.call (length a.reply.now) a.octets.now c.if-call-lt6.false)
