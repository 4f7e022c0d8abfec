-- What join and ask come to: nothing is written, or the message that is begun. With the answers to messages: every call. Assumes nothing.
use Rattle.std.specs.Prelude.{Option, Some, None}
use mathlib.Core.Path.{◌≡◌, refl}
use mathlib.Core.List.{List}
use mathlib.Core.Bool.{true}
use Prim.Native.Nat.{ℕ, ◌<◌}
use native.Mathlib.Omega.{arith}
use lib.ListN.{length}
use lib.Dec.{eqb, ltb}
use Rattle.flows.specs.declared.Flow.{Flow}
use Rattle.flows.specs.Flows.{good_flow}
use Rattle.channels.specs.Channels.{channel_of}
use Rattle.lists.specs.declared.Colour.{Colour}
use Rattle.lists.specs.declared.Colour.TheVariants.{Black, Grey, White}
use Rattle.lists.specs.Lists.{list_decision}
use Rattle.circuits.specs.Circuits.{id_at}
use Rattle.circuits.proofs.Circuits.{id_short}
use Rattle.ports.specs.Ports.{may_ask}
use Rattle.pool.specs.Pool.{is_active}
use Rattle.card.specs.Cards.{Card, has_port, port_at}
use Rattle.card.specs.Outcome.{Outcome}
use Rattle.joins.specs.Joins.{admit_number, white_of, grey_of, by_list, join_row, join_of}
use Rattle.joins.specs.Asks.{asked_of, ask_of}
use Rattle.replyback.specs.Every.{MayWrite, JoinBegins, AskBegins, EveryReply}
use Rattle.replyback.specs.Every.MayWrite.{silent, written}
use Rattle.replyback.proofs.Cases.{by_cond}
use Rattle.replyback.proofs.Answers.{kinds_back}
use Rattle.replyback.proofs.Lengths.{sizes}
use Rattle.replyback.proofs.Messages.{message_answers}

module _ (ids : List ℕ) (card : Card) (p : ℕ) (ht : card.head.counter.number < 16777216) where
  -- ---- join
  module _ (f : Flow) (lg : length f.group ≡ 4) (ls : length f.source ≡ 4) (channels entries : List ℕ) where
    abbrev ByJoin : Outcome → Type 0
    ByJoin = MayWrite (JoinBegins ids card p f)

    white-begins : (k : ℕ) → ByJoin (white_of channels card p k)
    unfolding white_of
    white-begins k =
        by_cond ByJoin (eqb (admit_number channels card card.head.white_cac p k) 0) _ _ (λ _. silent refl) (λ _. silent refl)

    list_begins : good_flow f ≡ true → (k : ℕ) (d : Option Colour) → ByJoin (by_list ids channels card p f k d)
    unfolding by_list grey_of
    list_begins good k (Some White) = white-begins k
    list_begins good k (Some Grey) =
        written (
          kinds_back.admission card.head.counter.number (id_at ids p) f ht lg ls good,
          omega (arith, (sizes.short (id_at ids p) (id_short ids p)).admission card.head.counter.number f),
        )
    list_begins good k (Some Black) = silent refl
    list_begins good k None = silent refl

    row-begins : good_flow f ≡ true → (x : Option ℕ) → ByJoin (join_row ids channels entries card p f x)
    unfolding join_row
    row-begins good None = silent refl
    row-begins good (Some k) =
        by_cond ByJoin (is_active card.pool p k) _ _ (λ _. silent refl) (λ _. list_begins good k (list_decision entries card.head.entry_count f))

    join_begins : (space : ℕ) → ByJoin (join_of ids channels entries card p f space)
    unfolding join_of
    join_begins space =
        by_cond ByJoin (ltb space 4608) _ _ (λ _. silent refl)
        (λ _. by_cond ByJoin (has_port card p) _ _
        (λ _. by_cond ByJoin (port_at card p).up _ _
        (λ _. by_cond ByJoin (good_flow f) _ _ (λ good. row-begins good (channel_of channels card.head.channel_count f)) (λ _. silent refl))
        (λ _. silent refl))
        (λ _. silent refl))

  -- ---- ask
  module _ (required preferred : ℕ) where
    abbrev ByAsk : Outcome → Type 0
    ByAsk = MayWrite (AskBegins ids card p required preferred)

    asked_begins : ByAsk (asked_of ids card p required preferred)
    unfolding asked_of
    asked_begins =
        written (
          kinds_back.reallocation card.head.counter.number (id_at ids p) required preferred ht,
          omega (arith, (sizes.short (id_at ids p) (id_short ids p)).reallocation card.head.counter.number required preferred),
        )

    ask_begins : (space : ℕ) → ByAsk (ask_of ids card p required preferred space)
    unfolding ask_of
    ask_begins space =
        by_cond ByAsk (ltb space 4608) _ _ (λ _. silent refl)
        (λ _. by_cond ByAsk (has_port card p) _ _
        (λ _. by_cond ByAsk (port_at card p).up _ _
        (λ _. by_cond ByAsk (may_ask (port_at card p) required preferred) _ _ (λ _. asked_begins) (λ _. silent refl))
        (λ _. silent refl))
        (λ _. silent refl))

pub every_reply : EveryReply
every_reply =
    record {
      message = message_answers;
      join = λ ids channels entries card p f space ht lg ls. join_begins ids card p ht f lg ls channels entries space;
      ask = λ ids card p required preferred space ht. ask_begins ids card p ht required preferred space;
    }
