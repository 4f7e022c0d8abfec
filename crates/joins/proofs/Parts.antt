-- What a join on lent maps reads off its terms, of every card with them.
--     found_is, decided_is     the channel that was found, and what the lists decide
--     terms_lent               what admission asks for
-- Assumes nothing.
use Rattle.std.specs.Prelude.{Option}
use mathlib.Core.Path.{◌≡◌, refl, sym, ap, ◌∙◌}
use mathlib.Core.List.{List}
use Prim.Native.Nat.{ℕ, ◌<◌}
use Rattle.flows.specs.declared.Flow.{Flow}
use Rattle.channels.specs.Channels.{channel_of}
use Rattle.lists.specs.declared.Colour.{Colour}
use Rattle.lists.specs.Lists.{list_decision}
use Rattle.ports.specs.declared.Port.{Port}
use Rattle.pool.specs.declared.Pool.{Pool}
use Rattle.card.specs.Cards.{Card, with_pool}
use Rattle.card.specs.declared.Terms.{Terms}
use Rattle.card.specs.Parts.{HasTerms}
use Rattle.card.proofs.Parts.{channels_are, entries_are, port_is}
use Rattle.joins.specs.Joins.{AsLent}

module _ {card : Card} {p : ℕ} {terms : Terms} (h : HasTerms card p terms) where
  pub found_is : (channels : List ℕ) (f : Flow) {found x : Option ℕ} → found ≡ channel_of channels terms.head.channel_count f → found ≡ x
      → x ≡ channel_of channels card.head.channel_count f
  found_is channels f e t = sym t ∙ e ∙ ap (λ (n : ℕ). channel_of channels n f) (sym (channels_are h))

  pub decided_is : (entries : List ℕ) (f : Flow) {x : Option Colour} → x ≡ list_decision entries terms.head.entry_count f
      → x ≡ list_decision entries card.head.entry_count f
  decided_is entries f e = e ∙ ap (λ (n : ℕ). list_decision entries n f) (sym (entries_are h))

  pub terms_lent : p < 64 → (pool : Pool) → AsLent (with_pool card pool) pool p terms.port.delegation
  terms_lent l pool = record { owner = refl; channel = refl; charged = refl; delegation = ap (λ (y : Port). y.delegation) (port_is h l) }
