use mathlib.Core.Path.{refl, ◌∙◌}
use native.Mathlib.Omega.{arith}
use lib.ListN.{length-set}
use Rattle.octets.proofs.Writing.{over-turn, over_done, over_none}
use Rattle.hexadecimal.specs.Hex.{octets_in}
use Rattle.hexadecimal.proofs.Hex.{all_digits, length-octets, octet_at}
use Rattle.hexadecimal.proofs.put_pairs.Goals as goal

pub loop-i-init : goal.loop-i-init
loop-i-init c = (omega arith, refl, over_none _)

pub pair-requires : goal.pair-requires
pair-requires c =
    (all_digits c.args.s.now _ c.requires.2 (omega arith), all_digits c.args.s.now _ c.requires.2 (omega arith))

pub loop-i-preserved : goal.loop-i-preserved
loop-i-preserved c = (
  omega arith,
  simp length-set (omega arith),
  over-turn (octets_in c.args.s.now) c.args.buf.now c.loop-i.i _ c.loop-i.invariant.2
      (c.pair.ensures ∙ octet_at c.args.s.now c.loop-i.i (omega arith))
      (omega (arith, length-octets c.args.s.now c.args.n c.requires.0))
      (omega (arith, length-octets c.args.s.now c.args.n c.requires.0)),
)

pub returns : goal.returns
returns c =
    over_done (octets_in c.args.s.now) c.args.buf.now c.loop-i.i c.loop-i.invariant.2
    (omega (arith, length-octets c.args.s.now c.args.n c.requires.0))
