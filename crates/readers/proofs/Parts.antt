-- What a reader's tests say of the card, from the counts that it is given.
--     is_no_request                        a request that is not open
--     is_port_lem, not_port                whether p is a port's number
--     state_of_row, active_of_row      of a port, what the row of the flow says
-- Assumes nothing.
use Rattle.std.specs.Prelude.{Option}
use Prim.Native.Nat.{ℕ}
use mathlib.Core.Path.{◌≡◌, sym, ap, ap₂, ◌∙◌}
use mathlib.Core.Bool.{Bool, true, false}
use mathlib.Core.List.{List}
use Rattle.octets.proofs.Tests.{taken}
use Rattle.flows.specs.declared.Flow.{Flow}
use Rattle.channels.specs.Channels.{channel_of}
use Rattle.card.specs.Cards.{Card, is_port, has_port}
use Rattle.listing.specs.Listing.{active_row, active_at}
use Rattle.readers.specs.declared.Request.{Request}
use Rattle.readers.specs.Readers.{no_request, state_row, flow_state_at}

-- the default of a request, field by field
pub is_no_request : {r : Request} → (r.asking ≡ false) × ((r.required ≡ 0) × ((r.preferred ≡ 0) × (r.transaction ≡ 0))) → r ≡ no_request
is_no_request e = ap₂ (λ (x : Bool × ℕ) (y : ℕ × ℕ). record { asking = x.0; required = x.1; preferred = y.0; transaction = y.1 }) (ap₂ (λ (a : Bool) (b : ℕ). (a, b)) e.0 e.1.0) (ap₂ (λ (a : ℕ) (b : ℕ). (a, b)) e.1.1.0 e.1.1.1)

-- b is what the reader's own test answered
module _ (card : Card) (count p : ℕ) {b : Bool} (same : card.head.port_count ≡ count) (test : b ≡ is_port count p) where
  pub is_port_lem : b ≡ true → has_port card p ≡ true
  is_port_lem h = ap (λ (n : ℕ). is_port n p) same ∙ sym test ∙ h

  pub not_port : b ≡ false → has_port card p ≡ false
  not_port h = ap (λ (n : ℕ). is_port n p) same ∙ sym test ∙ h

module _ (channels : List ℕ) (card : Card) (n p : ℕ) (f : Flow) (rows : card.head.channel_count ≡ n) (h : has_port card p ≡ true) (found : Option ℕ) (e : found ≡ channel_of channels n f) where
  row_is : found ≡ channel_of channels card.head.channel_count f
  row_is = e ∙ ap (λ (m : ℕ). channel_of channels m f) (sym rows)

  pub state_of_row : state_row card.pool p found ≡ flow_state_at channels card p f
  unfolding flow_state_at
  state_of_row = ap (state_row card.pool p) row_is ∙ taken _ _ _ h

  pub active_of_row : active_row card.pool p found ≡ active_at channels card p f
  unfolding active_at
  active_of_row = ap (active_row card.pool p) row_is ∙ taken _ _ _ h
