-- Join on a card that agrees with a ledger.
--     join_step           card and ledger agree after it
--     join-white          a white-listed join of a flow that is wanted comes to admission
--     join-starts         it starts exactly where the ledger says so: demand 3's clause for joins
-- Assumes nothing.
use Rattle.std.specs.Prelude.{Option, Some, None}
use Prim.Native.Nat.{ℕ, ◌≤◌, ◌<◌}
use mathlib.Core.Path.{◌≡◌, refl, sym, ap, subst, ◌∙◌}
use mathlib.Core.Bool.{Bool, true, false, cond, ◌||◌}
use mathlib.Core.Logic.{◌↔◌}
use lib.Dec.{eqb, ltb}
use borrow.Author.Tests.{eqb-true, eq-eqb, le-ltb}
use Rattle.flows.specs.declared.Flow.{Flow}
use Rattle.flows.specs.Flows.{good_flow}
use Rattle.flows.proofs.Same.{same-flow_refl}
use Rattle.channels.specs.Channels.{channel_of}
use Rattle.channels.proofs.Channels.{channel-found}
use Rattle.lists.specs.declared.Colour.{Colour}
use Rattle.lists.specs.declared.Colour.TheVariants.{Black, Grey, White}
use Rattle.lists.specs.Lists.{list_decision}
use Rattle.ports.specs.Transactions.{taken_from}
use Rattle.pool.specs.Pool.{is_active, began}
use Rattle.card.specs.Cards.{Card, has_port, port_at, with_pool}
use Rattle.card.specs.Outcome.{Outcome, keeps, becomes}
use Rattle.joins.specs.Joins.{admit_number, white_of, grey_of, by_list, join_row, join_of}
use Rattle.listing.specs.Listing.{active_at}
use Rattle.demand3.specs.Calls.{Tables, ours, outcome_of, seen}
use Rattle.demand3.specs.Calls.Call.{join}
use Rattle.demand3.specs.Ledger.{Line, Ledger, write, holds, begins, entry, entered}
use Rattle.demand3.specs.Claim.{Wanted, Starts}
use Rattle.demand3.proofs.Rows.{found, listed_by}
use Rattle.demand3.proofs.Agree.{Agree, TablesTaken, write_same}
use Rattle.demand3.proofs.Figures.{active_is, below, has_port_lem, reads-active}
use Rattle.demand3.proofs.Steps.{counter_step}
use Rattle.demand3.proofs.Admit.{admits, admits_step}
use Rattle.demand3.proofs.Host.{Goes, goes_by, on_port}

module _ (t : Tables) (card : Card) (l : Ledger) (a : Agree t card l) (p : ℕ) (f : Flow) where
  -- the ledger after a join that begins
  abbrev begun : Ledger
  begun = write l p (begins (l p) f t.white_cac)

  abbrev admission : ℕ → ℕ
  admission k = admit_number t.channels card card.head.white_cac p k

  abbrev started : ℕ → Outcome
  started k = becomes (with_pool card (began card.pool p k card.head.white_cac 0))

  -- ---- card and ledger agree after it
  module _ (port : p < 64) (up : (port_at card p).up ≡ true) (k : ℕ) (e : found t f ≡ Some k) (idle : is_active card.pool p k ≡ false) where
    white_step : Goes t l begun (white_of t.channels card p k)
    unfolding white_of
    white_step =
        goes_by t l begun (eqb (admission k) 0) (started k) (keeps card (admission k))
        (λ s. admits_step t card l a p port f k e a.white 0 (sym (a.at p port).is_up ∙ up) (sym (active_is t card l a p port f k e) ∙ idle) (eqb-true (admission k) 0 s))
        (λ s. subst (λ (b : Bool). Agree t card (cond b begun l)) (sym s) a)

    list_step : (d : Option Colour) → Goes t l begun (by_list t.ids t.channels card p f k d)
    unfolding by_list grey_of
    list_step (Some White) = white_step
    list_step (Some Grey) = counter_step t card l a (taken_from card.head.counter).next
    list_step (Some Black) = a
    list_step None = a

  row_step : p < 64 → (port_at card p).up ≡ true → (r : Option ℕ) → found t f ≡ r → Goes t l begun (join_row t.ids t.channels t.entries card p f r)
  unfolding join_row
  row_step port up None e = a
  row_step port up (Some k) e =
      let d = list_decision t.entries card.head.entry_count f in
      goes_by t l begun (is_active card.pool p k) (keeps card 1) (by_list t.ids t.channels card p f k d) (λ h. a) (λ h. list_step port up k e h d)

  -- the outcome past the refusals for buffer, port, state and address
  abbrev row : ℕ → Outcome
  row n = join_row t.ids t.channels t.entries card p f (channel_of t.channels n f)

  module _ (space : ℕ) where
    pub join_step : Agree t (outcome_of t card (join p f space)).card (entered t l (seen ours t card (join p f space)))
    unfolding outcome_of entered entry join_of
    join_step =
        let good = cond (good_flow f) (row card.head.channel_count) (keeps card 8) in
        let up = cond (port_at card p).up good (keeps card 6) in
        goes_by t l begun (ltb space 4608) (keeps card 13) (cond (has_port card p) up (keeps card 7)) (λ r. a)
        (λ r. goes_by t l begun (has_port card p) up (keeps card 7)
        (λ h. goes_by t l begun (port_at card p).up good (keeps card 6)
        (λ u. goes_by t l begun (good_flow f) (row card.head.channel_count) (keeps card 8)
        (λ g. subst (λ (n : ℕ). Goes t l begun (row n)) (sym a.channels) (row_step (on_port card p h) u (found t f) refl))
        (λ g. a)) (λ u. a)) (λ h. a))

    -- ---- a join of a flow that is wanted, white-listed and with room for a reply
    module _ (taken : TablesTaken t) (w : Wanted t l p f) (white : list_decision t.entries t.entry_count f ≡ Some White) (large : 4608 ≤ space) where
      port : p < 64
      port = below t card l a taken p w.port

      is_good : (k : ℕ) → found t f ≡ Some k → good_flow f ≡ true
      is_good k e =
          let g = channel-found t.channels t.channel_count f e in
          ap good_flow (sym g.is) ∙ (taken.channel k g.below).good

      pub join-white : (k : ℕ) → found t f ≡ Some k → join_of t.ids t.channels t.entries card p f space ≡ white_of t.channels card p k
      unfolding join_of join_row by_list
      join-white k e =
          let found_here : channel_of t.channels card.head.channel_count f ≡ Some k = ap (λ (n : ℕ). channel_of t.channels n f) a.channels ∙ e in
          let decided : list_decision t.entries card.head.entry_count f ≡ (Some White) = ap (λ (n : ℕ). list_decision t.entries n f) a.entries ∙ white in
          rw (le-ltb space 4608 large, has_port_lem t card l a taken p w.port, (a.at p port).is_up ∙ w.is_up, is_good k e, found_here, active_is t card l a p port f k e ∙ w.idle, decided)

      -- its number is 0 exactly where admission's is
      white-number : (k : ℕ) → ((white_of t.channels card p k).number ≡ 0) ↔ (admission k ≡ 0)
      unfolding white_of
      white-number k = (λ z. there (eqb (admission k) 0) refl z, λ z. ap (λ (b : Bool). (cond b (started k) (keeps card (admission k))).number) (eq-eqb (admission k) 0 z))
        where
          there : (b : Bool) → eqb (admission k) 0 ≡ b → (cond b (started k) (keeps card (admission k))).number ≡ 0 → admission k ≡ 0
          there true s z = eqb-true (admission k) 0 s
          there false s z = z

      number-starts : ((outcome_of t card (join p f space)).number ≡ 0) ↔ Starts t t.white_cac l p f
      unfolding outcome_of
      number-starts =
          listed_by t f w.is_listed (λ k e.
          let same = ap (λ (o : Outcome). o.number) (join-white k e) in
          let rule = admits t card l a p port f k e a.white in
          (λ z. rule.0 ((white-number k).0 (sym same ∙ z)), λ s. same ∙ (white-number k).1 (rule.1 s)))

      -- and the flow is active after it exactly then
      active-number : active_at t.channels (outcome_of t card (join p f space)).card p f ≡ eqb (outcome_of t card (join p f space)).number 0
      unfolding entered entry holds
      active-number =
          reads-active t (outcome_of t card (join p f space)).card (entered t l (seen ours t card (join p f space))) join_step taken p w.port f
          ∙ go (eqb (outcome_of t card (join p f space)).number 0)
        where
          go : (b : Bool) → holds f (cond b begun l p).flows ≡ b
          go true = ap (λ (x : Line). holds f x.flows) (write_same l p (begins (l p) f t.white_cac)) ∙ ap (λ (b : Bool). b || holds f (l p).flows) (same-flow_refl f)
          go false = w.idle

      pub join-starts : (((outcome_of t card (join p f space)).number ≡ 0) ↔ Starts t t.white_cac l p f)
          × ((active_at t.channels (outcome_of t card (join p f space)).card p f ≡ true) ↔ Starts t t.white_cac l p f)
      join-starts = (
        number-starts,
        (
          λ z. number-starts.0 (eqb-true (outcome_of t card (join p f space)).number 0 (sym active-number ∙ z)),
          λ s. active-number ∙ eq-eqb (outcome_of t card (join p f space)).number 0 (number-starts.1 s),
        ),
      )
