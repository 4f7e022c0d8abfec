-- What the ledger and the claim read off the tables, a message or a reply; each is what its name says. Assumes nothing: these are
-- definitions.
use Rattle.std.specs.Prelude.{ℕ, ◌≡◌, Bool, not, List, [], ◌∷◌, drop, is_none, Option, Some, None}
use Rattle.flows.specs.declared.Flow.{Flow}
use Rattle.header.specs.Header.{header_in}
use Rattle.items.specs.Items.{Item, items_of, first_of}
use Rattle.fields.specs.Fields.{allocation_in, status_tlvs}
use Rattle.channels.specs.Channels.{channel_of, rate_at}
use Rattle.circuits.specs.Circuits.{port_of}
use Rattle.lists.specs.declared.Colour.TheVariants.{White}
use Rattle.lists.specs.Lists.{list_decision}
use Rattle.checks.specs.Table.{id_in}
use Rattle.demand3.specs.Calls.{Tables, Call, by_call}
-- a port that is found or not, the commands of a 144, and what a command asks for
pub use Rattle.control.specs.Control.{commands_in}
pub use Rattle.commands.specs.Directives.{Directive, directive_of}
pub use Rattle.commands.specs.Directives.Directive.{malformed, add, delete, delete_all}

-- ---- a message or a reply

unfoldable pub kind_in : List ℕ → ℕ
kind_in m = (header_in m).kind

unfoldable pub result_in : List ℕ → ℕ
result_in m = (header_in m).result

unfoldable pub transaction_in : List ℕ → ℕ
transaction_in m = (header_in m).transaction

-- its TLVs at top level
unfoldable pub tlvs_in : List ℕ → List Item
tlvs_in m = items_of (drop 16 m)

-- the port that its Target names
unfoldable pub port_in : Tables → List ℕ → Option ℕ
port_in t m = port_of t.ids t.ports (id_in (drop 16 m))

-- the amount of its Bandwidth-Allocation
unfoldable pub amount_in : List ℕ → ℕ
amount_in m = allocation_in (first_of 0x0015 (tlvs_in m))

-- the TLVs directly inside its Status-Info
unfoldable pub enclosed_in : List ℕ → List Item
enclosed_in m = items_of (status_tlvs (first_of 0x0106 (tlvs_in m)))

-- ---- the tables

-- the flow is that of a listed channel
unfoldable pub listed : Tables → Flow → Bool
listed t f = not (is_none (channel_of t.channels t.channel_count f))

unfoldable pub rate_by : Tables → Option ℕ → ℕ
rate_by t (Some k) = rate_at t.channels k
rate_by t None = 0

-- its channel's rate
unfoldable pub rate_of : Tables → Flow → ℕ
rate_of t f = rate_by t (channel_of t.channels t.channel_count f)

-- the lists decide white for it
abbrev pub IsWhite : Tables → Flow → Type 0
IsWhite t f = list_decision t.entries t.entry_count f ≡ Some White

-- ---- a call

-- it is about port p: a host's call for p, a message whose Target names p
unfoldable pub IsAbout : Tables → Call → ℕ → Type 0
IsAbout t x p = by_call (λ q f space. q ≡ p) (λ q. q ≡ p) (λ m space. port_in t m ≡ Some p) (λ q. q ≡ Some p) x

-- none of some calls is about it
unfoldable pub NoneIsAbout : Tables → List Call → ℕ → Type 0
NoneIsAbout t [] p = Unit {0}
NoneIsAbout t (x ∷ xs) p = (IsAbout t x p → ⊥) × NoneIsAbout t xs p
