use Rattle.std.specs.Prelude.{Some}
use native.Mathlib.Omega.{arith}
use mathlib.Core.Path.{◌≡◌, refl, sym, ap, ◌∙◌}
use mathlib.Core.Bool.{true, false}
use lib.ListN.{length}
use lib.Dec.{ltb}
use borrow.Author.Tests.{lt-ltb, le-ltb}
use Rattle.octets.proofs.Parts.{rest_part}
use Rattle.header.specs.Header.{size_ok, header_in, head_in}
use Rattle.card.specs.Cards.{with_pool}
use Rattle.card.proofs.Parts.{comes-kept, comes_as}
use Rattle.checks.specs.Table.{port_named}
use Rattle.messages.specs.Messages.{by_result}
use Rattle.messages.proofs.Cases.{size_least, rest_short, named_usable, right_by, no_room, unusable_is, usable_is}
use Rattle.messages.proofs.message_in.Goals as goal

pub returns-then-reply-lt4608 : goal.returns-then-reply-lt4608
returns-then-reply-lt4608 c =
    let a = c.args in
    comes-kept refl 13 c.unchanged.ensures
    (λ card t. no_room a.ids.now a.channels.now (with_pool card a.pool.now) a.octets.now _ (lt-ltb _ _ c.if-reply-lt4608.true))

pub returns-then-p-gt64 : goal.returns-then-p-gt64
returns-then-p-gt64 c =
    let full : ltb (length c.args.reply.now) 4608 ≡ false = le-ltb _ _ c.if-reply-lt4608.false in
    let a = c.args in
    comes-kept refl 15 c.unchanged-then-p-gt64.ensures
    (λ card t. unusable_is a.ids.now a.channels.now (with_pool card a.pool.now) a.octets.now _ full a.terms.head.port_count c.requires.1 c.if-p-gt64.true)

pub header_fields-requires : goal.header_fields-requires
header_fields-requires c =
    let right : (size_ok c.args.octets.now ≡ true) × (head_in c.args.octets.now ≡ Some (header_in c.args.octets.now)) = let a = c.args in right_by a.ids.now a.terms.head.port_count a.octets.now c.requires.1 c.if-p-gt64.false in size_least c.args.octets.now right.0

pub slice_bounds-by_result-count : goal.slice_bounds-by_result-count
slice_bounds-by_result-count c =
    let right : (size_ok c.args.octets.now ≡ true) × (head_in c.args.octets.now ≡ Some (header_in c.args.octets.now)) = let a = c.args in right_by a.ids.now a.terms.head.port_count a.octets.now c.requires.1 c.if-p-gt64.false in size_least c.args.octets.now right.0

pub slice_bounds-by_result-start : goal.slice_bounds-by_result-start
slice_bounds-by_result-start c =
    let right : (size_ok c.args.octets.now ≡ true) × (head_in c.args.octets.now ≡ Some (header_in c.args.octets.now)) = let a = c.args in right_by a.ids.now a.terms.head.port_count a.octets.now c.requires.1 c.if-p-gt64.false in omega (arith, size_least c.args.octets.now right.0)

pub by_result-requires : goal.by_result-requires
by_result-requires c =
    let right : (size_ok c.args.octets.now ≡ true) × (head_in c.args.octets.now ≡ Some (header_in c.args.octets.now)) = let a = c.args in right_by a.ids.now a.terms.head.port_count a.octets.now c.requires.1 c.if-p-gt64.false in
    let a = c.args in
    let r = right in
    record {
      space = (omega (arith, c.if-reply-lt4608.false), omega (arith, ap length (rest_part 16 a.octets.now), rest_short a.octets.now r.0));
      named = (c.requires.0, c.requires.1 ∙ sym (named_usable a.ids.now a.terms.head.port_count a.octets.now r.0 r.1) ∙ ap (port_named a.ids.now a.terms.head.port_count) (sym (rest_part 16 a.octets.now)));
    }

pub returns : goal.returns
returns c =
    let full : ltb (length c.args.reply.now) 4608 ≡ false = le-ltb _ _ c.if-reply-lt4608.false in
    let right : (size_ok c.args.octets.now ≡ true) × (head_in c.args.octets.now ≡ Some (header_in c.args.octets.now)) = let a = c.args in right_by a.ids.now a.terms.head.port_count a.octets.now c.requires.1 c.if-p-gt64.false in
    let a = c.args in
    let r = right in
    comes_as c.by_result.ensures
    (λ card t. ap (by_result a.ids.now a.channels.now (with_pool card a.pool.now) c.header_fields.result) (rest_part 16 a.octets.now)
    ∙ usable_is a.ids.now a.channels.now (with_pool card a.pool.now) a.octets.now _ full r.0 (r.1 ∙ ap Some (sym c.header_fields.ensures)))
