use mathlib.Core.Path.{refl, sym, ◌∙◌}
use mathlib.Core.List.{[]}
use Rattle.octets.proofs.Parts.{rest_part}
use Rattle.tlv.proofs.Firsts.{first_end}
use Rattle.items.proofs.Items.{items_end}
use Rattle.rules.specs.Rules.{rules_of}
use Rattle.rules.proofs.Walk.{extent_all, extent_fits, extent_rest}
use Rattle.rules.proofs.from_fault.Goals as goal

pub slice_bounds-result-count-in-Some : goal.slice_bounds-result-count-in-Some
slice_bounds-result-count-in-Some c = extent_fits (rules_of c.args.kind) c.args.tlvs.now c.extent_of.ensures c.in-Some.is

pub slice_bounds-result-start-in-Some : goal.slice_bounds-result-start-in-Some
slice_bounds-result-start-in-Some c = extent_fits (rules_of c.args.kind) c.args.tlvs.now c.extent_of.ensures c.in-Some.is

pub returns-in-None : goal.returns-in-None
returns-in-None c = items_end [] (first_end [] refl) refl ∙ sym (extent_all (rules_of c.args.kind) c.args.tlvs.now c.extent_of.ensures c.in-None.is).1

pub returns-in-Some : goal.returns-in-Some
returns-in-Some c = rw rest_part (extent_rest (rules_of c.args.kind) c.args.tlvs.now c.extent_of.ensures c.in-Some.is)
