-- What the host's calls write: join and ask the message that is begun, or nothing; the others nothing. Assumes nothing.
use Rattle.std.specs.Prelude.{Option, Some, None}
use Prim.Native.Nat.{ℕ, ◌<◌}
use mathlib.Core.Path.{◌≡◌, refl, sym}
use mathlib.Core.Bool.{true}
use lib.ListN.{length}
use lib.Dec.{eqb, ltb, leb}
use Rattle.flows.specs.declared.Flow.{Flow}
use Rattle.flows.specs.Flows.{good_flow}
use Rattle.channels.specs.Channels.{channel_at, channel_of}
use Rattle.channels.proofs.Channels.{channel-found}
use Rattle.lists.specs.declared.Colour.{Colour}
use Rattle.lists.specs.declared.Colour.TheVariants.{Black, Grey, White}
use Rattle.lists.specs.Lists.{list_decision}
use Rattle.circuits.specs.Circuits.{id_at}
use Rattle.ports.specs.Ports.{may_ask}
use Rattle.pool.specs.Pool.{is_active, has_flow, committed_of}
use Rattle.card.specs.Cards.{Card, has_port, port_at}
use Rattle.card.specs.Outcome.{Outcome}
use Rattle.card.specs.Calls.{port_up_of, port_down_of, set_delegation_of, leave_flow, leave_of}
use Rattle.joins.specs.Joins.{admit_number, white_of, grey_of, by_list, join_row, join_of}
use Rattle.joins.specs.Asks.{asked_of, ask_of}
use Rattle.replyback.proofs.Cases.{by_cond}
use Rattle.replyback.proofs.Answers.{kinds_back}
use Rattle.demand3.specs.Calls.{Tables, Call}
use Rattle.demand3.specs.Calls.Call.{port_up, port_down, set_delegation, join, leave, ask}
use Rattle.written.specs.Written.{Written}
use Rattle.written.specs.Written.Written.{nothing, admission, reallocation}

module _ (t : Tables) (card : Card) where
  -- what an outcome of a call has to be
  abbrev pub By : Call → Outcome → Type 0
  By x o = Written t card x o.reply

  module _ (p : ℕ) where
    -- ---- nothing
    pub up_writes : By (port_up p) (port_up_of card p)
    unfolding port_up_of
    up_writes = by_cond (By (port_up p)) (has_port card p) _ _ (λ _. nothing) (λ _. nothing)

    pub down_writes : By (port_down p) (port_down_of card p)
    unfolding port_down_of
    down_writes =
        by_cond (By (port_down p)) (has_port card p) _ _
        (λ _. by_cond (By (port_down p)) (port_at card p).up _ _ (λ _. nothing) (λ _. nothing))
        (λ _. nothing)

    pub delegation-writes : (amount : ℕ) → By (set_delegation p amount) (set_delegation_of t.channels card p amount)
    unfolding set_delegation_of
    delegation-writes amount =
        by_cond (By (set_delegation p amount)) (has_port card p) _ _
        (λ _. by_cond (By (set_delegation p amount)) (leb (committed_of t.channels card.pool p) amount) _ _ (λ _. nothing) (λ _. nothing))
        (λ _. nothing)

    pub leave_writes : (f : Flow) → By (leave p f) (leave_of t.channels card p f)
    unfolding leave_of leave_flow
    leave_writes f =
        by_cond (By (leave p f)) (has_port card p) _ _
        (λ _. by_cond (By (leave p f)) (port_at card p).up _ _
        (λ _. by_cond (By (leave p f)) (good_flow f) _ _
        (λ _. by_cond (By (leave p f)) (has_flow t.channels card.pool p f) _ _ (λ _. nothing) (λ _. nothing))
        (λ _. nothing))
        (λ _. nothing))
        (λ _. nothing)

    module _ (range : card.head.counter.number < 16777216) where
      -- ---- join: a flow that is found is a channel's, whose addresses have four words
      module _ (f : Flow) (space : ℕ) where
        abbrev ByJoin : Outcome → Type 0
        ByJoin = By (join p f space)

        abbrev FourWords : Flow → Type 0
        FourWords g = (length g.group ≡ 4) × (length g.source ≡ 4)

        channel_words : (k : ℕ) → FourWords (channel_at t.channels k)
        unfolding channel_at
        channel_words k = (refl, refl)

        list_writes : good_flow f ≡ true → FourWords f → (k : ℕ) (d : Option Colour) → ByJoin (by_list t.ids t.channels card p f k d)
        unfolding by_list grey_of white_of
        list_writes good four k (Some White) =
            by_cond ByJoin (eqb (admit_number t.channels card card.head.white_cac p k) 0) _ _ (λ _. nothing) (λ _. nothing)
        list_writes good four k (Some Grey) =
            admission (kinds_back.admission card.head.counter.number (id_at t.ids p) f range four.0 four.1 good)
        list_writes good four k (Some Black) = nothing
        list_writes good four k None = nothing

        row-writes : good_flow f ≡ true → (r : Option ℕ) → channel_of t.channels card.head.channel_count f ≡ r
            → ByJoin (join_row t.ids t.channels t.entries card p f r)
        unfolding join_row
        row-writes good None e = nothing
        row-writes good (Some k) e =
            by_cond ByJoin (is_active card.pool p k) _ _ (λ _. nothing)
            (λ _. list_writes good (rw (sym (channel-found t.channels card.head.channel_count f e).is) (channel_words k)) k
            (list_decision t.entries card.head.entry_count f))

        pub join_writes : ByJoin (join_of t.ids t.channels t.entries card p f space)
        unfolding join_of
        join_writes =
            by_cond ByJoin (ltb space 4608) _ _ (λ _. nothing)
            (λ _. by_cond ByJoin (has_port card p) _ _
            (λ _. by_cond ByJoin (port_at card p).up _ _
            (λ _. by_cond ByJoin (good_flow f) _ _ (λ good. row-writes good (channel_of t.channels card.head.channel_count f) refl) (λ _. nothing))
            (λ _. nothing))
            (λ _. nothing))

      -- ---- ask
      module _ (required preferred space : ℕ) where
        abbrev ByAsk : Outcome → Type 0
        ByAsk = By (ask p required preferred space)

        asked_writes : ByAsk (asked_of t.ids card p required preferred)
        unfolding asked_of
        asked_writes = reallocation (kinds_back.reallocation card.head.counter.number (id_at t.ids p) required preferred range)

        pub ask_writes : ByAsk (ask_of t.ids card p required preferred space)
        unfolding ask_of
        ask_writes =
            by_cond ByAsk (ltb space 4608) _ _ (λ _. nothing)
            (λ _. by_cond ByAsk (has_port card p) _ _
            (λ _. by_cond ByAsk (port_at card p).up _ _
            (λ _. by_cond ByAsk (may_ask (port_at card p) required preferred) _ _ (λ _. asked_writes) (λ _. nothing))
            (λ _. nothing))
            (λ _. nothing))
