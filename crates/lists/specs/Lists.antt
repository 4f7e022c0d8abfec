-- List entries and what they decide (CARD.md, "Flows and lists"). Assumes nothing: these are definitions.
use Rattle.std.specs.Prelude.{ℕ, zero, suc, ◌+◌, ◌*◌, max, min, Bool, false, cond, ◌||◌, List, [], ◌∷◌, get_or, eqb, Option, None, Some}
use Rattle.octets.specs.Tests.{every}
use Rattle.flows.specs.Words.{address_at}
use Rattle.flows.specs.declared.Flow.{Flow}
use Rattle.lists.specs.Prefix.{prefix_matches}
use Rattle.lists.specs.declared.Entry.{Entry}
use Rattle.lists.specs.declared.Colour.{Colour}
use Rattle.lists.specs.declared.Colour.TheVariants.{Black, Grey, White}

-- A list entry has family, list, group prefix and source prefix: row i of 12 words.
unfoldable pub entry_at : List ℕ → ℕ → Entry
entry_at t i = record {
  family = get_or t (i * 12) 0;
  list = get_or t (i * 12 + 1) 0;
  group_length = get_or t (i * 12 + 2) 0;
  source_length = get_or t (i * 12 + 3) 0;
  group = address_at t (i * 12 + 4);
  source = address_at t (i * 12 + 8);
}

-- It matches when both prefixes do; a flow without a source matches only source prefix length 0.
unfoldable pub entry_matches : Entry → Flow → Bool
entry_matches e f =
    every (eqb e.family f.family
    ∷ prefix_matches e.group_length e.group f.group
    ∷ cond (eqb f.sourced 0)
    (eqb e.source_length 0)
    (prefix_matches e.source_length e.source f.source)
    ∷ [])

-- of the first n entries those that match the flow
unfoldable pub matching : List ℕ → Flow → ℕ → List Entry
matching t f zero = []
matching t f (suc n) = cond (entry_matches (entry_at t n) f) (entry_at t n ∷ matching t f n) (matching t f n)

-- ---- which of them decide

-- the length of an entry's group prefix, and of its source prefix
abbrev pub group_length : Entry → ℕ
group_length e = e.group_length

abbrev pub source_length : Entry → ℕ
source_length e = e.source_length

-- the longest of some entries' prefixes
unfoldable pub longest : (Entry → ℕ) → List Entry → ℕ
longest length [] = 0
longest length (e ∷ es) = max (length e) (longest length es)

-- those of the entries whose prefix has n bits
unfoldable pub of_length : (Entry → ℕ) → ℕ → List Entry → List Entry
of_length length n [] = []
of_length length n (e ∷ es) = cond (eqb (length e) n) (e ∷ of_length length n es) (of_length length n es)

-- those whose prefix is the longest
unfoldable pub with_longest : (Entry → ℕ) → List Entry → List Entry
with_longest length es = of_length length (longest length es) es

-- The most specific: those with the longest group prefix, and of these those with the longest source prefix.
unfoldable pub most_specific : List Entry → List Entry
most_specific es = with_longest source_length (with_longest group_length es)

-- ---- what they decide

-- one of the entries is of this list
unfoldable pub has : ℕ → List Entry → Bool
has list [] = false
has list (e ∷ es) = eqb e.list list || has list es

-- black (2) goes before grey (3), grey before white (1)
unfoldable pub by_priority : List Entry → Option Colour
by_priority es = cond (has 2 es) (Some Black) (cond (has 3 es) (Some Grey) (cond (has 1 es) (Some White) None))

-- Of some matching entries the most specific decide.
unfoldable pub decision : List Entry → Option Colour
decision es = by_priority (most_specific es)

-- what n entries decide; the table has 128 rows
unfoldable pub list_decision : List ℕ → ℕ → Flow → Option Colour
list_decision t n f = decision (matching t f (min n 128))
