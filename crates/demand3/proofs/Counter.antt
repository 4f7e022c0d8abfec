-- The transaction counter under calls.
--     commands_keep      commands keep whatever does not read the pool
--     call_counter       a call keeps the counter, or takes one number from it
--     counter_range      from a start that is taken the counter is 1 to 16,777,215 after any list of calls
-- Assumes nothing.
use Rattle.std.specs.Prelude.{Option, Some, None}
use Prim.Native.Nat.{ℕ, ◌+◌, ◌≤◌}
use mathlib.Core.Path.{◌≡◌, refl, sym, subst, ◌∙◌}
use mathlib.Core.Bool.{Bool, true, false, cond}
use mathlib.Core.List.{List, [], ◌∷◌}
use mathlib.Core.Logic.{◌⊎◌, inl, inr, ⊎_elim}
use native.Mathlib.Omega.{arith}
use lib.Dec.{eqb, leb}
use borrow.Author.Tests.{leb-true}
use Rattle.octets.specs.Tests.{every}
use Rattle.octets.proofs.Tests.{each}
use Rattle.header.specs.declared.Header.{Header}
use Rattle.channels.specs.Channels.{channel_of}
use Rattle.replies.specs.Replies.{success_of}
use Rattle.circuits.specs.Circuits.{id_at}
use Rattle.ports.specs.declared.Counter.{Counter}
use Rattle.numbers.proofs.Circle.{next_range}
use Rattle.ports.specs.Transactions.{taken_from}
use Rattle.flows.specs.declared.Flow.{Flow}
use Rattle.pool.specs.declared.Pool.{Pool}
use Rattle.pool.specs.Pool.{is_active, has_flow}
use Rattle.card.specs.Cards.{Card, with_pool}
use Rattle.card.specs.Outcome.{Outcome, becomes, writes}
use Rattle.card.specs.Start.{Started, fresh_card, first_ok, start_of}
use Rattle.joins.specs.Joins.{admit_number, grey_of}
use Rattle.joins.specs.Asks.{asked_of}
use Rattle.commands.specs.Directives.{Directive, directive_of}
use Rattle.commands.specs.Directives.Directive.{malformed, add, delete, delete_all}
use Rattle.commands.specs.Commands.{Ran, add_new, add_row, delete_flow, carried_out, ran_of}
use Rattle.control.specs.Control.{failure_of, all_good, commands_from, commands_in, controlled}
use Rattle.transfers.specs.Transfers.{transfer_gives}
use Rattle.demand3.specs.Calls.{Tables, Call, ours, outcome_of, started_of, card_after}
use Rattle.demand3.specs.Claim.{takes}
use Rattle.demand3.proofs.Ways.{Way, stays, replies, rises, falls, sets, closes, reduces, asks, keeps_ports, commanded, grey}
use Rattle.demand3.proofs.Each.{call_way}

-- ---- commands keep what does not read the pool
module _ {A : Type 0} (read : Card → A) (same : (card : Card) (pool : Pool) → read (with_pool card pool) ≡ read card) (channels : List ℕ) (p : ℕ) where
  ran-by : (card : Card) (b : Bool) (v w : Ran) → read v.card ≡ read card → read w.card ≡ read card → read (cond b v w).card ≡ read card
  ran-by card true v w f g = f
  ran-by card false v w f g = g

  module _ (card : Card) where
    add-keeps : (v : ℕ) (r : Option ℕ) → read (add_row channels card p v r).card ≡ read card
    unfolding add_row add_new
    add-keeps v None = refl
    add-keeps v (Some k) =
        ran-by card (is_active card.pool p k) _ _ (same card _)
        (ran-by card (eqb (admit_number channels card card.head.add_cac p k) 0) _ _ (same card _) refl)

    delete-keeps : (f : Flow) → read (delete_flow channels card p f).card ≡ read card
    unfolding delete_flow
    delete-keeps f = ran-by card (has_flow channels card.pool p f) _ _ (same card _) refl

    order_keeps : (o : Directive) → read (carried_out channels card p o).card ≡ read card
    unfolding carried_out
    order_keeps (malformed code) = refl
    order_keeps (add f v) = add-keeps v (channel_of channels card.head.channel_count f)
    order_keeps (delete f) = delete-keeps f
    order_keeps delete_all = same card _

  pub commands_keep : (h : Header) (id : List ℕ) (card : Card) (seq : ℕ) (cs : List (List ℕ)) → read (commands_from channels h id p card seq cs).card ≡ read card
  unfolding commands_from all_good
  commands_keep h id card seq [] = go (eqb h.result 2)
    where
      go : (b : Bool) → read (cond b (writes card (success_of h)) (becomes card)).card ≡ read card
      go true = refl
      go false = refl
  commands_keep h id card seq (c ∷ cs) =
      go (eqb (ran_of channels card p c).code 0) (commands_keep h id (ran_of channels card p c).card (seq + 1) cs ∙ order_keeps card (directive_of c))
    where
      next : Outcome
      next = commands_from channels h id p (ran_of channels card p c).card (seq + 1) cs

      go : (b : Bool) → read next.card ≡ read card → read (cond b next (writes card (failure_of h (ran_of channels card p c).code id seq c))).card ≡ read card
      go true e = e
      go false e = refl

-- ---- one call
module _ (t : Tables) (card : Card) (x : Call) where
  -- the counter is kept, or a number is taken from it
  abbrev pub Counted : Card → Type 0
  Counted card' = (card'.head.counter ≡ card.head.counter) ⊎ (card'.head.counter ≡ (taken_from card.head.counter).next)

  way_counter : (o : Outcome) → Way t card x o → Counted o.card
  unfolding grey_of asked_of controlled transfer_gives
  way_counter o (stays n) = inl refl
  way_counter o (replies reply w) = inl refl
  way_counter o (rises p) = inl refl
  way_counter o (falls p) = inl refl
  way_counter o (sets p amount) = inl refl
  way_counter o (closes p) = inl refl
  way_counter o (reduces h p amount) = inl refl
  way_counter o (asks p required preferred space e h u) = inr refl
  way_counter o (keeps_ports card' e n) = inl n
  way_counter o (commanded h p s) = inl (commands_keep (λ c. c.head.counter) (λ c pool. refl) t.channels p h (id_at t.ids p) card 1 (commands_in s))
  way_counter o (grey p f space e) = inr refl

  pub call_counter : Counted (outcome_of t card x).card
  call_counter = way_counter (outcome_of t card x) (call_way t card x)

-- ---- the range
abbrev pub InRange : Card → Type 0
InRange card = (1 ≤ card.head.counter.number) × (card.head.counter.number ≤ 16777215)

module _ (t : Tables) where
  pub call_range : (card : Card) (x : Call) → InRange card → InRange (outcome_of t card x).card
  call_range card x r =
      ⊎_elim
      (λ (e : (outcome_of t card x).card.head.counter ≡ card.head.counter). subst (λ (c : Counter). (1 ≤ c.number) × (c.number ≤ 16777215)) (sym e) r)
      (λ (e : (outcome_of t card x).card.head.counter ≡ (taken_from card.head.counter).next).
      subst (λ (c : Counter). (1 ≤ c.number) × (c.number ≤ 16777215)) (sym e) (next_range card.head.counter.number r.0 r.1))
      (call_counter t card x)

  pub calls_range : (xs : List Call) (card : Card) → InRange card → InRange (card_after ours t card xs)
  unfolding card_after
  calls_range [] card r = r
  calls_range (x ∷ xs) card r = calls_range xs (outcome_of t card x).card (call_range card x r)

  -- ---- from a start that is taken
  module _ (first : ℕ) (taken : (started_of t first).number ≡ 0) where
    abbrev begins_as : Bool → Started
    begins_as b =
        cond b (record { card = fresh_card t.ports t.channel_count t.entry_count t.white_cac t.add_cac first; number = 0 })
        (record { card = fresh_card 0 0 0 false false 1; number = 14 })

    abbrev in_range : List Bool
    in_range = leb 1 first ∷ leb first 16777215 ∷ []

    -- the first number is the one given, and in range
    pub first_counter : ((started_of t first).card.head.counter.number ≡ first) × ((1 ≤ first) × (first ≤ 16777215))
    unfolding started_of start_of first_ok
    first_counter = go (every (takes t ∷ every in_range ∷ [])) refl taken
      where
        go : (b : Bool) → every (takes t ∷ every in_range ∷ []) ≡ b → (begins_as b).number ≡ 0
            → ((begins_as b).card.head.counter.number ≡ first) × ((1 ≤ first) × (first ≤ 16777215))
        go true e n =
            let s = each in_range (each (takes t ∷ every in_range ∷ []) e).1.0 in
            (refl, (leb-true 1 first s.0, leb-true first 16777215 s.1.0))
        go false e n = absurd (omega arith)

    pub first_range : InRange (started_of t first).card
    first_range = subst (λ (n : ℕ). (1 ≤ n) × (n ≤ 16777215)) (sym first_counter.0) first_counter.1

    pub counter_range : (calls : List Call) → InRange (card_after ours t (started_of t first).card calls)
    counter_range calls = calls_range calls (started_of t first).card first_range
