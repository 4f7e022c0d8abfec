-- The claim fails for each worthless build: on a small start, one clause says what the build does not do.
-- Assumes nothing.
use Prim.Native.Nat.{ℕ}
use mathlib.Core.Path.{◌≡◌, refl, sym, ap, subst, ◌∙◌}
use mathlib.Core.Logic.{inl}
use mathlib.Core.Bool.{Bool, true, false, cond, false≢true}
use mathlib.Core.List.{List, [], ◌∷◌, ◌++◌}
use native.Mathlib.Omega.{arith}
use lib.ListN.{length, drop, length-drop}
use borrow.Author.Tests.{eq-eqb, le-leb}
use Rattle.octets.specs.Tests.{every}
use Rattle.sums.specs.Sums.{sum_by}
use Rattle.header.specs.Header.{header_in}
use Rattle.ports.specs.declared.Port.{Port}
use Rattle.ports.specs.Ports as ports
use Rattle.pool.specs.Pool.{committed_of}
use Rattle.card.specs.Cards.{Card, is_port, port_at}
use Rattle.card.specs.Outcome.{Outcome}
use Rattle.card.specs.Calls.{port_up_of, set_delegation_of}
use Rattle.card.specs.Figures.{up_of, delegation_of}
use Rattle.listing.specs.Listing.{active_at}
use Rattle.commands.specs.Commands.{ran_of}
use Rattle.transfers.specs.Transfers.{transfer_gives}
use Rattle.demand3.specs.Calls.{Tables, Call, ours, outcome_of, started_of, card_after, history, seen, by_call}
use Rattle.demand3.specs.Calls.Call.{port_up, set_delegation, join, message}
use Rattle.demand3.specs.Reads.{IsAbout, NoneIsAbout}
use Rattle.demand3.specs.Ledger.{Line, Ledger, opened, write, with_delegation, holds, begins, entry, entered, ledger_from}
use Rattle.demand3.specs.Claim.{charges, Starts, Claim}
use Rattle.demand3.specs.Builds.{calling, refusing_joins, one_answer, dead, changing_nothing, first_run, first_only, refusing_messages, robbed, robber, inventing, forgetful, Worthless}
use Rattle.demand3.proofs.Agree.{Agree}
use Rattle.demand3.proofs.Figures.{committed_is, has_port_lem, reads-delegation}
use Rattle.demand3.proofs.Steps.{port_set}
use Rattle.demand3.proofs.Transfers.{at_eq}
use Rattle.demand3.proofs.Host.{delegation_step}
use Rattle.demand3.proofs.Join.{join-starts}
use Rattle.demand3.proofs.Calls.{claim}
use Rattle.demand3.proofs.BuildsStart.{
  small,
  first,
  second,
  both_listed,
  first_rate,
  first-white,
  started,
  taken,
  started_is,
  tables,
  raised,
  one_up,
  up-claim,
  first_wanted,
  upped,
  up-number,
  up_agrees,
}
use Rattle.demand3.proofs.BuildsMessage.{command, both_added, added_kind, added_port, added_commands, first_alone, second_reached, second_starts, other_asked, asked-kind, asked_port}

-- ---- after port up: without admission control a join starts, and its number is 0
refuses_every_join : Claim (calling refusing_joins) → ⊥
unfolding refusing_joins by_call Starts write
refuses_every_join c =
    let d = up-claim refusing_joins false c (up-number false) in
    let z = (d.joins 0 first 4608 (first_wanted false) (first-white false) (omega arith)).0.1 (inl (omega arith)) in
    omega arith

-- at start: port 0 goes up, and 2, which is no port, does not
gives_one_answer : (number : ℕ) (does : Tables → Card → Call → Card) (writes : Tables → Card → Call → List ℕ)
    → Claim (calling (one_answer number does writes)) → ⊥
unfolding one_answer
gives_one_answer number does writes c =
    let d = c.holds_after (small true) 1 (taken true) [] in
    let beyond = (d.ups 2).0 ((d.ups 0).1 (omega arith)) in
    omega arith

is_dead : Claim (calling dead) → ⊥
unfolding dead
is_dead c = let z = ((c.holds_after (small true) 1 (taken true) []).ups 0).1 (omega arith) in omega arith

-- the port reads up
changes_nothing : Claim (calling changing_nothing) → ⊥
unfolding changing_nothing up_of write is_port every
changes_nothing c = false≢true ((up-claim changing_nothing true c (up-number true)).is_up 0 (omega arith))

-- ---- after port up, a 144 with two Adds: the second leaves its flow active
only_first : (first_only (small false) (upped false) (message both_added 4608)).card ≡ (ran_of (small false).channels (upped false) 0 (command 1)).card
unfolding first_only by_call first_run
only_first = rw (added_kind, added_commands, added_port)

runs_command_1 : Claim (calling first_only) → ⊥
unfolding first_only by_call
runs_command_1 c =
    let d = up-claim first_only false c (up-number false) in
    let active = (d.last-add both_added 4608 0 second (command 1 ∷ []) second_reached (omega arith)).1 second_starts in
    false≢true (sym first_alone ∙ ap (λ (card : Card). active_at (small false).channels card 0 second) (sym only_first) ∙ active)

-- and acts, with number 0
refuses_every_message : Claim (calling refusing_messages) → ⊥
unfolding refusing_messages by_call
refuses_every_message c =
    let d = up-claim refusing_messages false c (up-number false) in
    let z = ((d.adds both_added 4608 0 second (command 1 ∷ []) [] second_reached (omega arith)).1 second_starts).0 in
    omega arith

-- ---- a join that is charged: port up, 1000 kbit/s delegated, join of the first flow
abbrev calls : List Call
calls = port_up 0 ∷ set_delegation 0 1000 ∷ join 0 first 4608 ∷ []

-- the ledger after a call of ours
abbrev next : Card → Call → Ledger → Ledger
next card x l = entered (small true) l (seen ours (small true) card x)

enters : (card : Card) (x : Call) (l : Ledger) → (outcome_of (small true) card x).number ≡ 0
    → next card x l ≡ entry (small true) l x (outcome_of (small true) card x).reply
unfolding entered
enters card x l e =
    ap (λ (b : Bool). cond b (entry (small true) l x (outcome_of (small true) card x).reply) l) (eq-eqb (outcome_of (small true) card x).number 0 e)

abbrev given : Ledger
given = write one_up 0 (with_delegation raised 1000)

abbrev delegated : Outcome
delegated = outcome_of (small true) (upped true) (set_delegation 0 1000)

delegated-number : delegated.number ≡ 0
unfolding outcome_of set_delegation_of port_up_of is_port every charges sum_by write
delegated-number =
    let none = committed_is (small true) (upped true) one_up (up_agrees true) 0 (omega arith) in
    rw (le-leb (committed_of (small true).channels (upped true).pool 0) 1000 (omega arith))

given_is : next (upped true) (set_delegation 0 1000) one_up ≡ given
unfolding entry write
given_is = enters (upped true) (set_delegation 0 1000) one_up delegated-number

given_agrees : Agree (small true) delegated.card given
given_agrees = subst (Agree (small true) delegated.card) given_is (delegation_step (small true) (upped true) one_up (up_agrees true) 0 1000)

joined_number : (outcome_of (small true) delegated.card (join 0 first 4608)).number ≡ 0
unfolding Starts charges sum_by write holds
joined_number =
    (join-starts (small true) delegated.card given given_agrees 0 first 4608 (tables true)
    (record { port = omega arith; is_listed = (both_listed true).0; is_up = refl; idle = refl }) (first-white true) (omega arith)
    ).0.1 (omega (arith, first_rate true), inl (omega arith))

abbrev charged : Ledger
charged = write given 0 (begins (given 0) first true)

charged_is : ledger_from (small true) opened (history ours (small true) (started_of (small true) 1).card calls) ≡ charged
unfolding history ledger_from entry
charged_is =
    ap (λ (card : Card). ledger_from (small true) opened (history ours (small true) card calls)) (started_is true)
    ∙ ap (λ (l : Ledger). next delegated.card (join 0 first 4608) (next (upped true) (set_delegation 0 1000) l)) (enters (started true) (port_up 0) opened (up-number true))
    ∙ ap (next delegated.card (join 0 first 4608)) given_is
    ∙ enters delegated.card (join 0 first 4608) given joined_number

-- its rate is committed
invents_committed : Claim inventing → ⊥
unfolding history charges sum_by write
invents_committed c =
    let reads : 0 ≡ charges (small true) (ledger_from (small true) opened (history ours (small true) (started_of (small true) 1).card calls) 0) =
    (c.holds_after (small true) 1 (taken true) calls).committed 0 (omega arith) in
    let none : 0 ≡ charges (small true) (charged 0) =
    reads ∙ ap (λ (l : Ledger). charges (small true) (l 0)) charged_is in
    omega (arith, first_rate true)

-- the flow is listed
leaves_out_a_flow : Claim forgetful → ⊥
unfolding history card_after write
leaves_out_a_flow c =
    let card : Card = card_after ours (small true) (started_of (small true) 1).card calls in
    let lines : Ledger = ledger_from (small true) opened (history ours (small true) (started_of (small true) 1).card calls) in
    let all : length (ours.flows (small true) card 0) ≡ length (lines 0).flows = (claim.holds_after (small true) 1 (taken true) calls).count 0 (omega arith) in
    let fewer : length (drop 1 (ours.flows (small true) card 0)) ≡ length (lines 0).flows = (c.holds_after (small true) 1 (taken true) calls).count 0 (omega arith) in
    let one : length (lines 0).flows ≡ 1 = ap (λ (l : Ledger). length (l 0).flows) charged_is in
    omega (arith, length-drop 1 (ours.flows (small true) card 0))

-- ---- after port up and 1000 kbit/s for port 0, a 146 for port 1: port 0 keeps its delegation
abbrev funded : List Call
funded = port_up 0 ∷ set_delegation 0 1000 ∷ []

abbrev asked : List Call
asked = message other_asked 4608 ∷ []

-- the card that robs, after them
abbrev cut : Card
cut = (transfer_gives (small true).ids delegated.card (header_in other_asked) 0 (committed_of (small true).channels delegated.card.pool 0)).card

robbed_is : (robber (small true) delegated.card (message other_asked 4608)).card ≡ cut
unfolding robber by_call robbed
robbed_is = rw (asked-kind, asked_port true)

-- nothing is left of the 1000
cut-reads : ours.delegation cut 0 ≡ 0
unfolding transfer_gives delegation_of charges sum_by write
cut-reads =
    let port = has_port_lem (small true) delegated.card given given_agrees (tables true) 0 (omega arith) in
    let kept = port_set (small true) delegated.card given given_agrees 0 (omega arith)
    (ports.delegated (port_at delegated.card 0) (committed_of (small true).channels delegated.card.pool 0)) in
    ap (λ (b : Bool). cond b (port_at cut 0).delegation 0) port
    ∙ ap (λ (x : Port). x.delegation) kept
    ∙ committed_is (small true) delegated.card given given_agrees 0 (omega arith)

robs_a_port : Claim (calling robber) → ⊥
unfolding robber by_call card_after NoneIsAbout IsAbout write
robs_a_port c =
    let start : Card = (started_of (small true) 1).card in
    let others : NoneIsAbout (small true) asked 0 = (λ e. let z = at_eq (sym (asked_port true) ∙ e) in omega arith, tt) in
    let reads : (calls : List Call) → delegation_of (card_after (calling robber) (small true) start calls) 0
    ≡ (ledger_from (small true) opened (history (calling robber) (small true) start calls) 0).delegation =
    λ calls. (c.holds_after (small true) 1 (taken true) calls).delegation 0 (omega arith) in
    let same : delegation_of (card_after (calling robber) (small true) start (funded ++ asked)) 0 ≡ delegation_of (card_after (calling robber) (small true) start funded) 0 =
    reads (funded ++ asked) ∙ ap (λ (x : Line). x.delegation) (c.others_keep (small true) 1 (taken true) funded asked 0 others) ∙ sym (reads funded) in
    let here : delegation_of (robber (small true) delegated.card (message other_asked 4608)).card 0 ≡ delegation_of delegated.card 0 =
    subst (λ (s : Card). delegation_of (card_after (calling robber) (small true) s (funded ++ asked)) 0 ≡ delegation_of (card_after (calling robber) (small true) s funded) 0)
    (started_is true) same in
    let was : delegation_of delegated.card 0 ≡ 1000 = reads-delegation (small true) delegated.card given given_agrees (tables true) 0 (omega arith) in
    omega (arith, sym cut-reads ∙ ap (λ (x : Card). delegation_of x 0) (sym robbed_is) ∙ here ∙ was)

pub worthless : Worthless
worthless =
    record {
      refuses_every_join = refuses_every_join;
      gives_one_answer = gives_one_answer;
      is_dead = is_dead;
      changes_nothing = changes_nothing;
      runs_command_1 = runs_command_1;
      refuses_every_message = refuses_every_message;
      invents_committed = invents_committed;
      leaves_out_a_flow = leaves_out_a_flow;
      robs_a_port = robs_a_port;
    }
