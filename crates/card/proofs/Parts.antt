-- A call on the parts of a card, of every card with its terms.
--     ports_are, .. port_is      what the terms say of the card
--     is_here, is_up             the port's tests
--     comes                      from what was written, and the card after it
--     comes-kept                 nothing is written, and the port's record is kept
--     comes-changed              nothing is written, and the port's record changes
--     comes-wrote, comes_replied     a reply is written, and the port's record changes, or is kept
--     comes_as                   the call comes to the same as another
--     comes_at                   the call is on the port at the terms' place
--     areas_kept, areas_as, areas-changed       the same of a call that is lent areas too
-- Assumes nothing.
use mathlib.Core.Path.{◌≡◌, refl, sym, ap, subst, ◌∙◌}
use mathlib.Core.Bool.{Bool}
use mathlib.Core.List.{List, []}
use Prim.Native.Nat.{ℕ, ◌<◌}
use lib.Seq.{set-get_or}
use Rattle.octets.specs.Writing.{Wrote}
use Rattle.octets.proofs.Writing.{over_none}
use Rattle.ports.specs.declared.Port.{Port}
use Rattle.ports.specs.declared.Change.{Change}
use Rattle.ports.specs.declared.Change.TheVariants.{Kept}
use Rattle.ports.specs.Ports.{fresh_port, changed_by}
use Rattle.pool.specs.declared.Pool.{Pool}
use Rattle.card.specs.Cards.{Card, Areas, is_port, has_port, port_at, with_pool, with_head, with_areas}
use Rattle.card.specs.Outcome.{Outcome, keeps, becomes, writes, Ends}
use Rattle.card.specs.declared.Terms.{Terms}
use Rattle.card.specs.declared.Effect.{Effect}
use Rattle.card.specs.declared.CardHead.{CardHead}
use Rattle.card.specs.Parts.{HasTerms, changed_at, done_with, ComesTo, AreasComeTo}
use Rattle.card.proofs.Ends.{ends_as, ends_wrote}

module _ {card : Card} {p : ℕ} {terms : Terms} (h : HasTerms card p terms) where
  pub ports_are : card.head.port_count ≡ terms.head.port_count
  ports_are = ap (λ (t : Terms). t.head.port_count) h.same

  pub channels_are : card.head.channel_count ≡ terms.head.channel_count
  channels_are = ap (λ (t : Terms). t.head.channel_count) h.same

  pub entries_are : card.head.entry_count ≡ terms.head.entry_count
  entries_are = ap (λ (t : Terms). t.head.entry_count) h.same

  pub white_is : card.head.white_cac ≡ terms.head.white_cac
  white_is = ap (λ (t : Terms). t.head.white_cac) h.same

  pub add_is : card.head.add_cac ≡ terms.head.add_cac
  add_is = ap (λ (t : Terms). t.head.add_cac) h.same

  pub head_is : card.head ≡ terms.head
  head_is = ap (λ (t : Terms). t.head) h.same

  pub record_is : port_at card terms.at ≡ terms.port
  record_is = ap (λ (t : Terms). t.port) h.same

  pub port_is : p < 64 → port_at card p ≡ terms.port
  port_is l = ap (port_at card) (sym (h.place l)) ∙ record_is

  pub is_here : {b : Bool} → is_port terms.head.port_count p ≡ b → has_port card p ≡ b
  is_here e = ap (λ (n : ℕ). is_port n p) ports_are ∙ e

  pub is_up : p < 64 → {b : Bool} → terms.port.up ≡ b → (port_at card p).up ≡ b
  is_up l e = ap (λ (y : Port). y.up) (port_is l) ∙ e

-- the card with another table of ports
abbrev pub with_table : Card → List Port → Card
with_table card table = record { ports = table; pool = card.pool; head = card.head; areas = card.areas }

pub kept_at : (card : Card) (at : ℕ) → changed_at card at Kept ≡ card
unfolding changed_by
kept_at card at = ap (with_table card) (set-get_or card.ports at fresh_port)

-- nothing is written
pub none_written : (text : List ℕ) → Wrote [] 0 text text
none_written text = record { size = refl; text = over_none text }

module _ {o : Card → Outcome} {p : ℕ} {terms : Terms} {before after : Pool} {r : Effect} where
  pub comes : {w text written : List ℕ} → Wrote w r.length text written
      → ((card : Card) → HasTerms card p terms → record { card = (done_with card terms.at after r).card; number = r.number; reply = w } ≡ o (with_pool card before))
      → ComesTo o p terms before after r text written
  comes v f = record { each = λ card h. ends_as (ends_wrote (done_with card terms.at after r).card r.number v) (f card h) }

  pub comes_as : {other : Card → Outcome} {text written : List ℕ} → ComesTo other p terms before after r text written
      → ((card : Card) → HasTerms card p terms → other (with_pool card before) ≡ o (with_pool card before)) → ComesTo o p terms before after r text written
  comes_as g f = record { each = λ card h. ends_as (g.each card h) (f card h) }

  -- a call on the port at the terms' place
  pub comes_at : {text written : List ℕ} → ComesTo o terms.at terms before after r text written → ComesTo o p terms before after r text written
  comes_at g = record { each = λ card h. g.each card (record { same = h.same; place = λ l. refl }) }

-- on one card: nothing is written, and the port's record is kept
pub each-kept : {card : Card} {p : ℕ} {terms : Terms} (h : HasTerms card p terms) {after y : Pool} (s : after ≡ y) {r : Effect} (n : ℕ)
    → r ≡ record { number = n; length = 0; head = terms.head; change = Kept } → {q : Outcome} {text : List ℕ} → keeps (with_pool card y) n ≡ q
    → Ends q (done_with card terms.at after r) text text
each-kept {card} {p} {terms} h {after} {y} s {r} n e {q} {text} f =
    subst (λ (x : Effect). Ends q (done_with card terms.at after x) text text) (sym e)
    (subst (λ (z : Pool). Ends q (done_with card terms.at z (record { number = n; length = 0; head = terms.head; change = Kept })) text text) (sym s)
    (ends_as (ends_wrote _ n (none_written text))
    (ap (λ (k : CardHead). record { card = with_head (changed_at (with_pool card y) terms.at Kept) k; number = n; reply = [] }) (sym (head_is h))
    ∙ ap (λ (x : Card). keeps x n) (kept_at (with_pool card y) terms.at) ∙ f)))

-- y is what the maps are left as
module _ {o : Card → Outcome} {p : ℕ} {terms : Terms} {before after y : Pool} (s : after ≡ y) where
  -- the counter is that of the terms
  pub comes-wrote : {r : Effect} (c : Change) {n : ℕ} {w text written : List ℕ} → r ≡ record { number = 0; length = n; head = terms.head; change = c } → Wrote w n text written
      → ((card : Card) → HasTerms card p terms → record { card = changed_at (with_pool card y) terms.at c; number = 0; reply = w } ≡ o (with_pool card before))
      → ComesTo o p terms before after r text written
  comes-wrote c {n} {w} {text} {written} e v f =
      subst (λ (x : Effect). ComesTo o p terms before after x text written) (sym e)
      (subst (λ (z : Pool). ComesTo o p terms before z (record { number = 0; length = n; head = terms.head; change = c }) text written) (sym s)
      (comes v (λ card h. ap (λ (k : CardHead). record { card = with_head (changed_at (with_pool card y) terms.at c) k; number = 0; reply = w }) (sym (head_is h)) ∙ f card h)))

  -- the port's record is kept
  pub comes_replied : {r : Effect} {n : ℕ} {w text written : List ℕ} → r ≡ record { number = 0; length = n; head = terms.head; change = Kept } → Wrote w n text written
      → ((card : Card) → HasTerms card p terms → writes (with_pool card y) w ≡ o (with_pool card before)) → ComesTo o p terms before after r text written
  comes_replied {w = w} e v f = comes-wrote Kept e v (λ card h. ap (λ (x : Card). writes x w) (kept_at (with_pool card y) terms.at) ∙ f card h)

  pub comes-kept : {r : Effect} (n : ℕ) {text : List ℕ} → r ≡ record { number = n; length = 0; head = terms.head; change = Kept }
      → ((card : Card) → HasTerms card p terms → keeps (with_pool card y) n ≡ o (with_pool card before)) → ComesTo o p terms before after r text text
  comes-kept n e f = record { each = λ card h. each-kept h s n e (f card h) }

  pub comes-changed : p < 64 → {r : Effect} (c : Change) {text : List ℕ} → r ≡ record { number = 0; length = 0; head = terms.head; change = c }
      → ((card : Card) → HasTerms card p terms → becomes (changed_at (with_pool card y) p c) ≡ o (with_pool card before)) → ComesTo o p terms before after r text text
  comes-changed l c {text} e f = comes-wrote c e (none_written text) (λ card h. ap (λ (at : ℕ). becomes (changed_at (with_pool card y) at c)) (h.place l) ∙ f card h)

-- ---- a call that is lent areas too

module _ {o : Card → Outcome} {p : ℕ} {terms : Terms} {before after : Pool} {r : Effect} {text written : List ℕ} where
  -- it leaves them as they are
  pub areas_kept : ComesTo o p terms before after r text written → (areas : Areas) → AreasComeTo o p terms before after areas areas r text written
  areas_kept g areas = record { each = λ card h. g.each (with_areas card areas) (record { same = h.same; place = h.place }) }

  pub areas_as : {other : Card → Outcome} {areas left : Areas} → AreasComeTo other p terms before after areas left r text written
      → ((card : Card) → HasTerms card p terms → other (with_areas (with_pool card before) areas) ≡ o (with_areas (with_pool card before) areas)) → AreasComeTo o p terms before after areas left r text written
  areas_as g f = record { each = λ card h. ends_as (g.each card h) (f card h) }

-- nothing is written, the port's record is kept, and the areas are left as u
pub areas-changed : {o : Card → Outcome} {p : ℕ} {terms : Terms} {before after y : Pool} {areas left u : Areas} (s : after ≡ y) (v : left ≡ u) {r : Effect} (n : ℕ) {text : List ℕ}
    → r ≡ record { number = n; length = 0; head = terms.head; change = Kept }
    → ((card : Card) → HasTerms card p terms → keeps (with_areas (with_pool card y) u) n ≡ o (with_areas (with_pool card before) areas))
    → AreasComeTo o p terms before after areas left r text text
areas-changed {o} {p} {terms} {before} {after} {y} {areas} {left} {u} s v {r} n {text} e f =
    subst (λ (l : Areas). AreasComeTo o p terms before after areas l r text text) (sym v)
    (record { each = λ card h. each-kept {card = with_areas card u} {p = p} (record { same = h.same; place = h.place }) s n e (f card h) })
