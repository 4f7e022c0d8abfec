-- The laws of the order of flows. Assumes nothing.
use Rattle.std.proofs.Common.{ap, ◌∙◌}
use Rattle.std.specs.Prelude.{◌≡◌, refl, Bool, true, false, ◌&&◌, eqb}
use Rattle.std.specs.Ordering.{nat_cmp, eq_by_cmp}
use Rattle.std.specs.Cmp.{IsTotalOrder, then_total, on_total, nat_cmp_total, both_tied, unsigned_ties}
use Rattle.std.specs.Cmp.Lexicographic.{pointwise, lists_total, lists_ties}
use Rattle.flows.specs.Flows.{flow_order}
use Rattle.flows.specs.declared.Flow.{Flow}

-- it is a total order
pub flow_total : IsTotalOrder flow_order
flow_total =
    then_total (on_total (λ (f : Flow). f.family) nat_cmp_total)
    (then_total (on_total (λ (f : Flow). f.group) (lists_total nat_cmp_total))
    (then_total (on_total (λ (f : Flow). f.sourced) nat_cmp_total)
    (on_total (λ (f : Flow). f.source) (lists_total nat_cmp_total))))

-- the equality that is derived for the fields, and where the order finds two flows equal
abbrev pub derived_eq : Flow → Flow → Bool
derived_eq a b =
    eqb a.family b.family
    && (eqb a.sourced b.sourced
    && (pointwise eqb a.group b.group
    && pointwise eqb a.source b.source))

second_first : (s t u : Bool) → (s && (t && u)) ≡ (t && (s && u))
second_first true t u = refl
second_first false true u = refl
second_first false false u = refl

pub flow_ties : (a b : Flow) → derived_eq a b ≡ eq_by_cmp flow_order a b
flow_ties a b =
    ap (λ (t : Bool). eqb a.family b.family && t) (second_first (eqb a.sourced b.sourced) (pointwise eqb a.group b.group) (pointwise eqb a.source b.source))
    ∙ both_tied _ _ _ _ (unsigned_ties a.family b.family)
    (both_tied _ _ _ _ (lists_ties nat_cmp unsigned_ties a.group b.group)
    (both_tied _ _ _ _ (unsigned_ties a.sourced b.sourced)
    (lists_ties nat_cmp unsigned_ties a.source b.source)))
