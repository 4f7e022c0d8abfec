-- A port's active flows in order of family, group, source (none first): what a host reads, and what a Multicast Flow Query lists.
-- Flows are named by the rows of their channels. Assumes nothing: these are definitions.
use Rattle.std.specs.Prelude.{ℕ, ◌≡◌, Bool, false, cond, List, [], ◌∷◌, take, Option, Some, None}
use Rattle.flows.specs.declared.Flow.{Flow}
use Rattle.flows.specs.Flows.{flow_before}
use Rattle.channels.specs.Channels.{channel_at, channel_of}
use Rattle.sums.specs.Sums.{sum_by}
use Rattle.pool.specs.declared.Pool.{Pool}
use Rattle.pool.specs.Pool.{is_active, rows_of}
use Rattle.card.specs.Cards.{Card, has_port}

-- the flow of row k goes before that of row j
abbrev pub row_before : List ℕ → ℕ → ℕ → Bool
row_before channels k j = flow_before (channel_at channels k) (channel_at channels j)

-- k placed among others that are in order: of k and the first of them one goes first, and the other is placed in what is left
unfoldable pub placed : (ℕ → ℕ → Bool) → ℕ → List ℕ → List ℕ
placed before k [] = k ∷ []
placed before k (j ∷ js) = cond (before k j) (k ∷ placed before j js) (j ∷ placed before k js)

-- one after the other placed among those that are in order already
unfoldable pub placed_all : (ℕ → ℕ → Bool) → List ℕ → List ℕ → List ℕ
placed_all before done [] = done
placed_all before done (k ∷ ks) = placed_all before (placed before k done) ks

unfoldable pub in_order : (ℕ → ℕ → Bool) → List ℕ → List ℕ
in_order before ks = placed_all before [] ks

-- nothing goes before what it stands directly after
pub data Ordered (before : ℕ → ℕ → Bool) : List ℕ → Type 0 where
  none : Ordered before []
  one : (k : ℕ) → Ordered before (k ∷ [])
  more : (k j : ℕ) (js : List ℕ) → before j k ≡ false → Ordered before (j ∷ js) → Ordered before (k ∷ j ∷ js)

-- what `in_order` is for: the same rows, each as often, in order
pub record Listed (channels : List ℕ) (ks : List ℕ) : Type 0 where
  pub same : (w : ℕ → ℕ) → sum_by w (in_order (row_before channels) ks) ≡ sum_by w ks
  pub ordered : Ordered (row_before channels) (in_order (row_before channels) ks)

-- the rows of the port's flows in order; on cards that calls reach no port has more than 16
unfoldable pub rows_in_order : List ℕ → Pool → ℕ → List ℕ
rows_in_order channels pool p = in_order (row_before channels) (take 16 (rows_of pool p))

-- ---- what a host may read; of a number that is no port's: no flow

unfoldable pub flows_at : List ℕ → Card → ℕ → List ℕ
flows_at channels card p = cond (has_port card p) (rows_in_order channels card.pool p) []

unfoldable pub active_row : Pool → ℕ → Option ℕ → Bool
active_row pool p None = false
active_row pool p (Some k) = is_active pool p k

-- the flow is active on the port
unfoldable pub active_at : List ℕ → Card → ℕ → Flow → Bool
active_at channels card p f = cond (has_port card p) (active_row card.pool p (channel_of channels card.head.channel_count f)) false
