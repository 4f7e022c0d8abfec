-- What follows from the rule. Statements, owed by the contract of `lists::list_decision`.
use Rattle.std.specs.Prelude.{ℕ, min, ◌≡◌, List, Option}
use Rattle.octets.specs.Members.{Among}
use Rattle.flows.specs.declared.Flow.{Flow}
use Rattle.lists.specs.Lists.{matching, group_length, source_length, with_longest, by_priority, list_decision}
use Rattle.lists.specs.declared.Entry.{Entry}
use Rattle.lists.specs.declared.Colour.{Colour}

-- of the first n entries those that match the flow and have the longest group prefix of these
unfoldable pub of_longest_group : List ℕ → ℕ → Flow → List Entry
of_longest_group t n f = with_longest group_length (matching t f (min n 128))

-- what these decide by their lists alone: the rule before Req 02 (docs/requests/02.md)
unfoldable pub group_decision : List ℕ → ℕ → Flow → Option Colour
group_decision t n f = by_priority (of_longest_group t n f)

-- each of some entries has a source prefix of s bits
abbrev pub EachFrom : ℕ → List Entry → Type 0
EachFrom s es = (e : Entry) → Among e es → source_length e ≡ s

pub record Laws : Type 0 where
  -- where the matching entries of the longest group prefix have one source length, the source decides nothing
  pub one-length : (t : List ℕ) (n : ℕ) (f : Flow) (s : ℕ) → EachFrom s (of_longest_group t n f) → list_decision t n f ≡ group_decision t n f
  -- so it does not for a flow without a source
  pub unsourced : (t : List ℕ) (n : ℕ) (f : Flow) → f.sourced ≡ 0 → list_decision t n f ≡ group_decision t n f
  -- which entries match decides, not in which rows they stand, in which order or how often
  pub any_rows : (t t' : List ℕ) (n n' : ℕ) (f : Flow)
      → ((e : Entry) → Among e (matching t f (min n 128)) → Among e (matching t' f (min n' 128)))
      → ((e : Entry) → Among e (matching t' f (min n' 128)) → Among e (matching t f (min n 128)))
      → list_decision t n f ≡ list_decision t' n' f
