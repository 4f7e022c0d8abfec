-- The start on which worthless builds are tried: ports "p" and "q", two IPv4 channels of 1000 kbit/s, one white entry for all IPv4 groups.
--     small, small-taken               the tables, with both switches as asked, are taken
--     first, second                    the two flows
--     started, started_is, tables      the card at start
--     raised, one_up, up-claim         the ledger after port up, and demand 3 there
--     upped, up-number, up_agrees      our card there
-- Assumes nothing.
use Rattle.std.specs.Prelude.{Some}
use Prim.Native.Nat.{ℕ}
use mathlib.Core.Path.{◌≡◌, refl, subst}
use mathlib.Core.Bool.{Bool, true, false, cond}
use mathlib.Core.List.{[], ◌∷◌, ◌++◌}
use native.Mathlib.Omega.{arith}
use lib.ListN.{replicate}
use lib.Dec.{eqb}
use borrow.Author.Tests.{eq-eqb}
use Rattle.octets.specs.Tests.{every}
use Rattle.flows.specs.Words.{same, zeros}
use Rattle.flows.specs.Flows.{same_flow, known_family, width, in_width, is_group, good_group, good_source, good_flow}
use Rattle.flows.specs.declared.Flow.{Flow}
use Rattle.rows.specs.Rows.{first_from, first_row, all_of, none_of, rows_ok}
use Rattle.channels.specs.Channels.{channel_at, rate_at, channel_of}
use Rattle.circuits.specs.Circuits.{id_length, id_at}
use Rattle.lists.specs.declared.Colour.TheVariants.{White}
use Rattle.lists.specs.Prefix.{bits, bits_of, prefix_matches}
use Rattle.lists.specs.Lists.{entry_at, entry_matches, matching, longest, of_length, with_longest, most_specific, has, by_priority, decision, list_decision}
use Rattle.tables.specs.Tables.{id_ok, channel_ok, known_list, within_address, entry_ok, tables_ok}
use Rattle.card.specs.Cards.{Card, is_port}
use Rattle.card.specs.Outcome.{Outcome}
use Rattle.card.specs.Start.{fresh_card, first_ok, start_of}
use Rattle.card.specs.Calls.{port_up_of}
use Rattle.demand3.specs.Calls.{Tables, Call, outcome_of, started_of, card_after, history}
use Rattle.demand3.specs.Calls.Call.{port_up}
use Rattle.demand3.specs.Ledger.{Line, Ledger, opened, write, holds, entry, entered, ledger_from}
use Rattle.demand3.specs.Reads.{listed, rate_by, rate_of}
use Rattle.demand3.specs.Claim.{takes, Wanted, Demand3, Claim}
use Rattle.demand3.specs.Builds.{calling}
use Rattle.demand3.proofs.Agree.{Agree, TablesTaken}
use Rattle.demand3.proofs.Fresh.{agree_fresh, start-takes}
use Rattle.demand3.proofs.Host.{up_step}

-- what a table does not have counts as 0
abbrev pub small : Bool → Tables
small cac =
    record {
      ids = 1 ∷ 112 ∷ (replicate 62 0 ++ 1 ∷ 113 ∷ []);
      ports = 2;
      channels = 1 ∷ 0 ∷ 1000 ∷ 4009754625 ∷ 0 ∷ 0 ∷ 0 ∷ 0 ∷ 0 ∷ 0 ∷ 0 ∷ 1 ∷ 0 ∷ 1000 ∷ 4009754626 ∷ [];
      channel_count = 2;
      entries = 1 ∷ 1 ∷ 4 ∷ 0 ∷ 3758096384 ∷ [];
      entry_count = 1;
      white_cac = cac;
      add_cac = cac;
    }

pub small-taken : (cac : Bool) → takes (small cac) ≡ true
unfolding tables_ok rows_ok all_of none_of every id_ok id_length id_at channel_ok rate_at channel_at good_flow known_family good_group is_group in_width width
    good_source zeros same_flow same entry_ok entry_at known_list within_address
small-taken cac = refl

-- ---- its flows: 239.0.0.1 and 239.0.0.2, without source
abbrev group : ℕ → Flow
group g = record { family = 1; sourced = 0; group = g ∷ 0 ∷ 0 ∷ 0 ∷ []; source = 0 ∷ 0 ∷ 0 ∷ 0 ∷ [] }

abbrev pub first : Flow
first = group 4009754625

abbrev pub second : Flow
second = group 4009754626

pub others : same_flow first second ≡ false
unfolding same_flow same every
others = refl

module _ (cac : Bool) where
  pub both_listed : (listed (small cac) first ≡ true) × (listed (small cac) second ≡ true)
  unfolding listed channel_of first_row first_from channel_at same_flow same every
  both_listed = (refl, refl)

  pub first_rate : rate_of (small cac) first ≡ 1000
  unfolding rate_of rate_by rate_at channel_of first_row first_from channel_at same_flow same every
  first_rate = refl

  pub first-white : list_decision (small cac).entries (small cac).entry_count first ≡ Some White
  unfolding list_decision decision by_priority has most_specific with_longest of_length longest matching entry_matches entry_at prefix_matches bits_of bits same every
  first-white = refl

  -- ---- the card at start
  abbrev pub started : Card
  started = fresh_card 2 2 1 cac cac 1

  pub taken : (started_of (small cac) 1).number ≡ 0
  taken = start-takes (small cac) 1 (small-taken cac) (omega arith) (omega arith)

  pub started_is : (started_of (small cac) 1).card ≡ started
  unfolding started_of start_of first_ok every
  started_is = rw (small-taken cac)

  pub tables : TablesTaken (small cac)
  tables = (agree_fresh (small cac) 1 taken).0

-- ---- after port up
abbrev pub raised : Line
raised = record { is_up = true; delegation = 0; flows = [] }

abbrev pub one_up : Ledger
one_up = write opened 0 raised

-- demand 3 of a build that has our start and answers 0 to port up
pub up-claim : (outcome : Tables → Card → Call → Outcome) (cac : Bool) → Claim (calling outcome) → (outcome (small cac) (started cac) (port_up 0)).number ≡ 0
    → Demand3 (calling outcome) (small cac) (outcome (small cac) (started cac) (port_up 0)).card one_up
unfolding card_after history ledger_from entered entry
up-claim outcome cac c e =
    subst (λ (b : Bool). Demand3 (calling outcome) (small cac) (outcome (small cac) (started cac) (port_up 0)).card (cond b one_up opened))
    (eq-eqb (outcome (small cac) (started cac) (port_up 0)).number 0 e)
    (subst (λ (s : Card). Demand3 (calling outcome) (small cac) (outcome (small cac) s (port_up 0)).card
    (cond (eqb (outcome (small cac) s (port_up 0)).number 0) one_up opened)) (started_is cac)
    (c.holds_after (small cac) 1 (taken cac) (port_up 0 ∷ [])))

module _ (cac : Bool) where
  -- the first flow is wanted there
  pub first_wanted : Wanted (small cac) one_up 0 first
  unfolding write holds
  first_wanted = record { port = omega arith; is_listed = (both_listed cac).0; is_up = refl; idle = refl }

  -- ours answers 0, and agrees with the ledger
  abbrev pub upped : Card
  upped = (outcome_of (small cac) (started cac) (port_up 0)).card

  pub up-number : (outcome_of (small cac) (started cac) (port_up 0)).number ≡ 0
  unfolding outcome_of port_up_of is_port every
  up-number = refl

  pub up_agrees : Agree (small cac) upped one_up
  unfolding outcome_of port_up_of is_port every entered entry
  up_agrees =
      up_step (small cac) (started cac) opened
      (subst (λ (s : Card). Agree (small cac) s opened) (started_is cac) (agree_fresh (small cac) 1 (taken cac)).1) 0
