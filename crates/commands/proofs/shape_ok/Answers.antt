use mathlib.Core.Path.{◌≡◌, ap, ◌∙◌}
use mathlib.Core.Bool.{false}
use native.Mathlib.Omega.{arith}
use mathlib.Core.List.{List}
use Prim.Native.Nat.{ℕ}
use Rattle.items.specs.Items.{items_of, count_of}
use Rattle.commands.specs.Directives.{flow_count, shape_ok}
use Rattle.commands.proofs.Directives.{shape_wrong, shape_flows}
use borrow.Author.Rules.{rules}
use Rattle.commands.proofs.shape_ok.Goals as goal

pub returns-then-command-le1 : goal.returns-then-command-le1
unfolding flow_count
returns-then-command-le1 c =
    let t = c.if-command-le1.true in
    shape_flows _ c.requires t.0 t.1 t.2 (c.count_of.ensures ∙ ap (λ (u : List ℕ). count_of 0x0019 (items_of u)) c.command_tlvs.ensures) c.flows_asked.ensures

pub returns-else-command-le1 : goal.returns-else-command-le1
returns-else-command-le1 c =
    let wrong : false ≡ shape_ok c.args.c.now = shape_wrong _ c.requires (λ low high counts. omega (arith, c.if-command-le1.either)) in
    search (rules, wrong)
