-- The cases of join and ask, each from the tests that lead to it. Assumes nothing.
use Rattle.std.specs.Prelude.{Some, Option}
use mathlib.Core.Path.{◌≡◌, refl, sym, ap, ◌∙◌}
use mathlib.Core.Bool.{true, false, cond}
use mathlib.Core.List.{List}
use Prim.Native.Nat.{ℕ}
use lib.Dec.{eqb, ltb}
use borrow.Author.Tests.{eq-eqb, ne_eqb}
use Rattle.octets.proofs.Tests.{taken, left}
use Rattle.flows.specs.declared.Flow.{Flow}
use Rattle.flows.specs.Flows.{good_flow}
use Rattle.channels.specs.Channels.{channel_of}
use Rattle.lists.specs.declared.Colour.{Colour}
use Rattle.lists.specs.Lists.{list_decision}
use Rattle.pool.specs.Pool.{is_active, began}
use Rattle.ports.specs.Ports.{may_ask}
use Rattle.card.specs.Cards.{Card, has_port, port_at, with_pool}
use Rattle.card.specs.Outcome.{Outcome, keeps, becomes}
use Rattle.joins.specs.Joins.{admit_number, white_of, by_list, join_row, join_of}
use Rattle.joins.specs.Asks.{asked_of, ask_of}

-- the three checks that both begin with: 13, 7, 6; after them stands `next`
unfoldable checks : Card → ℕ → ℕ → Outcome → Outcome
checks card p space next =
    cond (ltb space 4608) (keeps card 13) (cond (has_port card p) (cond (port_at card p).up next (keeps card 6)) (keeps card 7))

module _ (card : Card) (p space : ℕ) (next : Outcome) where
  abbrev up : Outcome
  up = cond (port_at card p).up next (keeps card 6)

  abbrev here : Outcome
  here = cond (has_port card p) up (keeps card 7)

  check_13 : ltb space 4608 ≡ true → keeps card 13 ≡ checks card p space next
  unfolding checks
  check_13 h = taken (ltb space 4608) (keeps card 13) here h

  module _ (full : ltb space 4608 ≡ false) where
    check_7 : has_port card p ≡ false → keeps card 7 ≡ checks card p space next
    unfolding checks
    check_7 h = left (has_port card p) up (keeps card 7) h ∙ left (ltb space 4608) (keeps card 13) here full

    module _ (port : has_port card p ≡ true) where
      check_6 : (port_at card p).up ≡ false → keeps card 6 ≡ checks card p space next
      unfolding checks
      check_6 h = left (port_at card p).up next (keeps card 6) h ∙ taken (has_port card p) up (keeps card 7) port ∙ left (ltb space 4608) (keeps card 13) here full

      check_on : (port_at card p).up ≡ true → next ≡ checks card p space next
      unfolding checks
      check_on h = taken (port_at card p).up next (keeps card 6) h ∙ taken (has_port card p) up (keeps card 7) port ∙ left (ltb space 4608) (keeps card 13) here full

module _ (ids channels entries : List ℕ) (card : Card) (p : ℕ) (f : Flow) (space : ℕ) where
  abbrev row : Outcome
  row = join_row ids channels entries card p f (channel_of channels card.head.channel_count f)

  abbrev past : Outcome
  past = cond (good_flow f) row (keeps card 8)

  join_is : checks card p space past ≡ join_of ids channels entries card p f space
  unfolding join_of checks
  join_is = refl

  pub join_13 : ltb space 4608 ≡ true → keeps card 13 ≡ join_of ids channels entries card p f space
  join_13 h = check_13 card p space past h ∙ join_is

  module _ (full : ltb space 4608 ≡ false) where
    pub join_7 : has_port card p ≡ false → keeps card 7 ≡ join_of ids channels entries card p f space
    join_7 h = check_7 card p space past full h ∙ join_is

    module _ (port : has_port card p ≡ true) where
      pub join_6 : (port_at card p).up ≡ false → keeps card 6 ≡ join_of ids channels entries card p f space
      join_6 h = check_6 card p space past full port h ∙ join_is

      module _ (is_up : (port_at card p).up ≡ true) where
        pub join_8 : good_flow f ≡ false → keeps card 8 ≡ join_of ids channels entries card p f space
        join_8 h = left (good_flow f) row (keeps card 8) h ∙ check_on card p space past full port is_up ∙ join_is

        pub join-row : good_flow f ≡ true → row ≡ join_of ids channels entries card p f space
        join-row h = taken (good_flow f) row (keeps card 8) h ∙ check_on card p space past full port is_up ∙ join_is

module _ (ids : List ℕ) (card : Card) (p required preferred space : ℕ) where
  abbrev may : Outcome
  may = cond (may_ask (port_at card p) required preferred) (asked_of ids card p required preferred) (keeps card 12)

  ask_is : checks card p space may ≡ ask_of ids card p required preferred space
  unfolding ask_of checks
  ask_is = refl

  pub ask_13 : ltb space 4608 ≡ true → keeps card 13 ≡ ask_of ids card p required preferred space
  ask_13 h = check_13 card p space may h ∙ ask_is

  module _ (full : ltb space 4608 ≡ false) where
    pub ask_7 : has_port card p ≡ false → keeps card 7 ≡ ask_of ids card p required preferred space
    ask_7 h = check_7 card p space may full h ∙ ask_is

    module _ (port : has_port card p ≡ true) where
      pub ask_6 : (port_at card p).up ≡ false → keeps card 6 ≡ ask_of ids card p required preferred space
      ask_6 h = check_6 card p space may full port h ∙ ask_is

      module _ (is_up : (port_at card p).up ≡ true) where
        pub ask_12 : may_ask (port_at card p) required preferred ≡ false → keeps card 12 ≡ ask_of ids card p required preferred space
        ask_12 h = left (may_ask (port_at card p) required preferred) (asked_of ids card p required preferred) (keeps card 12) h ∙ check_on card p space may full port is_up ∙ ask_is

        pub ask_on : may_ask (port_at card p) required preferred ≡ true → asked_of ids card p required preferred ≡ ask_of ids card p required preferred space
        ask_on h = taken (may_ask (port_at card p) required preferred) (asked_of ids card p required preferred) (keeps card 12) h ∙ check_on card p space may full port is_up ∙ ask_is

-- ---- a flow of channel k
-- n is what admission answers
module _ (channels : List ℕ) (card : Card) (p k : ℕ) {n : ℕ} (e : n ≡ admit_number channels card card.head.white_cac p k) where
  abbrev number : ℕ
  number = admit_number channels card card.head.white_cac p k

  abbrev begins : Outcome
  begins = becomes (with_pool card (began card.pool p k card.head.white_cac 0))

  pub white-refused : (n ≡ 0 → ⊥) → keeps card n ≡ white_of channels card p k
  unfolding white_of
  white-refused h = ap (keeps card) e ∙ left (eqb number 0) begins (keeps card number) (ne_eqb number 0 (λ q. h (e ∙ q)))

  pub white-begins : n ≡ 0 → begins ≡ white_of channels card p k
  unfolding white_of
  white-begins h = taken (eqb number 0) begins (keeps card number) (eq-eqb number 0 (sym e ∙ h))

module _ (ids channels entries : List ℕ) (card : Card) (p : ℕ) (f : Flow) (k : ℕ) where
  abbrev decides : Option Colour → Outcome
  decides d = by_list ids channels card p f k d

  pub row_1 : is_active card.pool p k ≡ true → keeps card 1 ≡ join_row ids channels entries card p f (Some k)
  unfolding join_row
  row_1 h = taken (is_active card.pool p k) (keeps card 1) (decides (list_decision entries card.head.entry_count f)) h

  -- d is what the lists decide
  pub row_list : is_active card.pool p k ≡ false → {d x : Option Colour} → x ≡ list_decision entries card.head.entry_count f → x ≡ d
      → decides d ≡ join_row ids channels entries card p f (Some k)
  unfolding join_row
  row_list h {d} e g =
      ap decides (sym g ∙ e) ∙ left (is_active card.pool p k) (keeps card 1) (decides (list_decision entries card.head.entry_count f)) h
