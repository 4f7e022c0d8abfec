-- The channel table as rows. Assumes nothing: these are definitions.
use Rattle.std.specs.Prelude.{ℕ, ◌+◌, ◌*◌, min, Bool, List, get_or, Option}
use Rattle.flows.specs.Words.{address_at}
use Rattle.flows.specs.Flows.{same_flow}
use Rattle.flows.specs.declared.Flow.{Flow}
use Rattle.rows.specs.Rows.{first_row}

-- row i of 11 words: family, sourced, rate, group, source
unfoldable pub channel_at : List ℕ → ℕ → Flow
channel_at t i = record {
  family = get_or t (i * 11) 0;
  sourced = get_or t (i * 11 + 1) 0;
  group = address_at t (i * 11 + 3);
  source = address_at t (i * 11 + 7);
}

unfoldable pub rate_at : List ℕ → ℕ → ℕ
rate_at t i = get_or t (i * 11 + 2) 0

-- word k of the group of row i
abbrev pub group_word : List ℕ → ℕ → ℕ → ℕ
group_word t k i = get_or t (i * 11 + 3 + k) 0

-- row i is the flow's
abbrev pub is_row : List ℕ → Flow → ℕ → Bool
is_row t f i = same_flow (channel_at t i) f

-- the first of n channels that is the flow's; the table has 256 rows
unfoldable pub channel_of : List ℕ → ℕ → Flow → Option ℕ
channel_of t n f = first_row (min n 256) (is_row t f)
