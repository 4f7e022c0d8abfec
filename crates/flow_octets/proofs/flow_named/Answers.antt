use Prim.Native.Nat.{ℕ, ◌+◌, ◌*◌}
use mathlib.Core.Path.{ap, ap₂, ◌∙◌}
use native.Mathlib.Omega.{arith}
use Rattle.flows.specs.Flows.{width}
use Rattle.flows.proofs.Same.{flow_eq}
use Rattle.flow_octets.specs.FlowOctets.{address_in, flow_named}
use Rattle.flow_octets.proofs.FlowOctets.{formed}
use Rattle.flow_octets.proofs.flow_named.Goals as goal

pub read8-family-requires : goal.read8-family-requires
read8-family-requires c = omega (arith, (formed _ c.requires).long)

pub read16-count-requires : goal.read16-count-requires
read16-count-requires c = omega (arith, (formed _ c.requires).long)

pub address_in-group-requires : goal.address_in-group-requires
address_in-group-requires c = let f = formed _ c.requires in let w = c.width-w.ensures.value ∙ ap width c.read8-family.ensures in (c.width-w.ensures.lower_bound.1, omega (arith, f.size))

pub overflow_mul-w-2 : goal.overflow_mul-w-2
overflow_mul-w-2 c =
    let f = formed _ c.requires in
    let w = c.width-w.ensures.value ∙ ap width c.read8-family.ensures in
    let p = ap₂ ◌*◌ w c.read16-count.ensures in
    omega (arith, f.words)

pub address_in-source-requires : goal.address_in-source-requires
address_in-source-requires c =
    let f = formed _ c.requires in
    let w = c.width-w.ensures.value ∙ ap width c.read8-family.ensures in
    let p = ap₂ ◌*◌ w c.read16-count.ensures in
    (omega (arith, f.words), omega (arith, f.size))

pub returns : goal.returns
unfolding flow_named
returns c =
    let t = c.args.c.now in
    let w = c.width-w.ensures.value ∙ ap width c.read8-family.ensures in
    let p = ap₂ ◌*◌ w c.read16-count.ensures in
    flow_eq _ (flow_named t) c.read8-family.ensures (c.address_in-group.ensures ∙ ap (address_in t 4) w) c.read16-count.ensures
    (c.address_in-source.ensures ∙ ap₂ (λ (v k : ℕ). address_in t (4 + 4 * v) k) w p)
