-- A host's call by its number, the port that it is about, and a call by value.
--     host_port, message_port    the port that a call is about
--     comes_for                  a promise for that port
--     of_host, of_message_lem        the call of a number below 6, and of any other
--     of_number                  the host's call of number n
--     gives                      a call by value, from the call on the core's parts
-- Assumes nothing.
use mathlib.Core.Path.{◌≡◌, refl, sym, ap, subst, ◌∙◌}
use mathlib.Core.List.{List}
use Prim.Native.Nat.{ℕ, ◌<◌, ◌≤◌}
use borrow.Author.Tests.{lt-ltb, le-ltb}
use Rattle.pool.specs.declared.Pool.{Pool}
use Rattle.card.specs.declared.Core.{Core}
use Rattle.card.specs.declared.Returned.{Returned}
use Rattle.card.specs.declared.Terms.{Terms}
use Rattle.card.specs.declared.Effect.{Effect}
use Rattle.card.specs.Cards.{Card, Areas, core_of, card_of}
use Rattle.card.specs.Outcome.{Outcome, Done}
use Rattle.card.specs.Parts.{terms_at, done_with, returned_of, AreasComeTo}
use Rattle.messages.specs.Messages.{received_of, named_in}
use Rattle.demand3.specs.Calls.{outcome_of}
use Rattle.calls.specs.declared.HostCall.{HostCall}
use Rattle.calls.specs.Calls.{tables_of, hosted, call_of, port_about, CallGives}

-- p is the port that the call is about
module _ (ids : List ℕ) (count : ℕ) (c : HostCall) (octets : List ℕ) {p : ℕ} (e : p ≡ port_about ids count c octets) where
  pub host_port : c.which < 6 → p ≡ c.port
  unfolding port_about
  host_port l = rw (lt-ltb c.which 6 l) at e

  pub message_port : 6 ≤ c.which → p ≡ named_in ids count octets
  unfolding port_about
  message_port l = rw (le-ltb c.which 6 l) at e

pub comes_for : {o : Card → Outcome} {p q : ℕ} {terms : Terms} {before after : Pool} {areas left : Areas} {r : Effect} {text written : List ℕ} → p ≡ q
    → AreasComeTo o q terms before after areas left r text written → AreasComeTo o p terms before after areas left r text written
comes_for {o} {terms = terms} {before} {after} {areas} {left} {r} {text} {written} e g =
    subst (λ (n : ℕ). AreasComeTo o n terms before after areas left r text written) (sym e) g

module _ (card : Card) (ids channels entries : List ℕ) (c : HostCall) (space : ℕ) where
  abbrev comes : ℕ → Outcome
  comes n = outcome_of (tables_of card ids channels entries) card (hosted n c space)

  pub of_number : (n : ℕ) → c.which ≡ n → comes n ≡ comes c.which
  of_number n h = ap comes (sym h)

  module _ (octets : List ℕ) where
    abbrev called : Outcome
    called = outcome_of (tables_of card ids channels entries) card (call_of c octets space)

    pub of_host : c.which < 6 → comes c.which ≡ called
    unfolding call_of
    of_host l = rw (lt-ltb c.which 6 l)

    pub of_message_lem : 6 ≤ c.which → received_of ids channels card octets space ≡ called
    unfolding outcome_of call_of
    of_message_lem l = rw (le-ltb c.which 6 l)

-- a call by value, on the port at this place: its terms are read off the core, and what it gave is put into the core
pub gives : {o : Card → Outcome} {p : ℕ} {after : Pool} {areas left : Areas} {r : Effect} {text written : List ℕ} (core : Core) (at : ℕ) → (p < 64 → at ≡ p)
    → AreasComeTo o p (terms_at (card_of core areas) at) core.pool after areas left r text written
    → {d : Returned} → d ≡ returned_of (done_with (card_of core left) at after r) → CallGives (o (card_of core areas)) d left text written
gives {areas = areas} core at k g same =
    let ends = g.each (card_of core areas) (record { same = refl; place = k }) in
    record {
      core = ap (λ (c : Returned). c.core) same ∙ ap (λ (d : Done). core_of d.card) ends.gives;
      number = ap (λ (c : Returned). c.number) same ∙ ap (λ (d : Done). d.number) ends.gives;
      size = ap (λ (c : Returned). c.length) same ∙ ap (λ (d : Done). d.length) ends.gives;
      kept = ap (λ (d : Done). d.card.areas) ends.gives;
      text = ends.text;
    }
