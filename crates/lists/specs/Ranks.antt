-- How the code finds what decides: entry by entry, with the highest rank so far. Assumes nothing: these are definitions.
use Rattle.std.specs.Prelude.{ℕ, Bool, cond, List, [], ◌∷◌, eqb, ltb, Option, None, Some}
use Rattle.lists.specs.declared.Entry.{Entry}
use Rattle.lists.specs.declared.Rank.{Rank}
use Rattle.lists.specs.declared.Colour.{Colour}
use Rattle.lists.specs.declared.Colour.TheVariants.{Black, Grey, White}

-- black goes before grey, grey before white; a list that is none of them counts for nothing
unfoldable pub strength_of : ℕ → ℕ
strength_of list = cond (eqb list 2) 3 (cond (eqb list 3) 2 (cond (eqb list 1) 1 0))

-- what an entry is compared by
unfoldable pub rank_of : Entry → Rank
rank_of e = record { group_length = e.group_length; source_length = e.source_length; strength = strength_of e.list }

abbrev pub lowest : Rank
lowest = record { group_length = 0; source_length = 0; strength = 0 }

-- by the group prefix; of equal ones by the source prefix; of equal ones by the list
unfoldable pub is_above : Rank → Rank → Bool
is_above a b =
    cond (eqb a.group_length b.group_length)
    (cond (eqb a.source_length b.source_length) (ltb b.strength a.strength) (ltb b.source_length a.source_length))
    (ltb b.group_length a.group_length)

-- the highest rank in a list of entries
unfoldable pub highest : List Entry → Rank
highest [] = lowest
highest (e ∷ es) = cond (is_above (rank_of e) (highest es)) (rank_of e) (highest es)

-- what an entry of this strength decides
unfoldable pub decision_of : ℕ → Option Colour
decision_of s = cond (eqb s 3) (Some Black) (cond (eqb s 2) (Some Grey) (cond (eqb s 1) (Some White) None))
