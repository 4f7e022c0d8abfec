-- Flows (CARD.md, "Flows and lists"). Assumes nothing: these are definitions.
use Rattle.std.specs.Prelude.{ℕ, ◌/◌, ◌^◌, Bool, cond, not, ◌||◌, List, [], ◌∷◌, get_or, eqb, leb}
use Rattle.std.specs.declared.cmp.Ordering.{Ordering}
use Rattle.std.specs.Ordering.{is_lt, nat_cmp, on, then_cmp}
use Rattle.octets.specs.Tests.{every}
use Rattle.flows.specs.Words.{same, zeros, zero_from, words_order}
use Rattle.flows.specs.declared.Flow.{Flow}

-- A flow is family, group and source or none.
unfoldable pub same_flow : Flow → Flow → Bool
same_flow a b =
    every (eqb a.family b.family
    ∷ eqb a.sourced b.sourced
    ∷ same a.group b.group
    ∷ same a.source b.source
    ∷ [])

-- ---- good addresses

-- family 1 is IPv4, 2 is IPv6
unfoldable pub known_family : ℕ → Bool
known_family family = eqb family 1 || eqb family 2

-- how many words an address has: IPv4 one, IPv6 four (as any other family, which is never good)
unfoldable pub width : ℕ → ℕ
width family = cond (eqb family 1) 1 4

-- the words that an address of the family does not have are zero
unfoldable pub in_width : ℕ → List ℕ → Bool
in_width family address = zero_from (width family) address

-- IPv4 groups are 224.0.0.0/4 (the first 4 bits are 1110), IPv6 groups ff00::/8 (the first 8 bits are ones)
unfoldable pub is_group : ℕ → List ℕ → Bool
is_group family address =
    cond (eqb family 1)
    (eqb (get_or address 0 0 / 2 ^ 28) 14)
    (eqb (get_or address 0 0 / 2 ^ 24) 255)

unfoldable pub good_group : ℕ → List ℕ → Bool
good_group family group = every (is_group family group ∷ in_width family group ∷ [])

-- where there is none (mark 0) its words are zero; a source (mark 1) is neither all zero nor a group
unfoldable pub good_source : ℕ → ℕ → List ℕ → Bool
good_source family sourced source =
    cond (eqb sourced 0)
    (zeros source)
    (every (leb sourced 1
    ∷ in_width family source
    ∷ not (zeros source)
    ∷ not (is_group family source)
    ∷ []))

unfoldable pub good_flow : Flow → Bool
good_flow f =
    every (known_family f.family
    ∷ good_group f.family f.group
    ∷ good_source f.family f.sourced f.source
    ∷ [])

-- ---- order

-- by family, group, source (none first)
abbrev pub flow_order : Flow → Flow → Ordering
flow_order =
    then_cmp (on (λ f. f.family) nat_cmp)
    (then_cmp (on (λ f. f.group) words_order)
    (then_cmp (on (λ f. f.sourced) nat_cmp)
    (on (λ f. f.source) words_order)))

unfoldable pub flow_before : Flow → Flow → Bool
flow_before a b = is_lt (flow_order a b)
