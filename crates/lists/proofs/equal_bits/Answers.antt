use Rattle.lists.proofs.EqualBits.{equal-zeros, prefix_laws}
use Rattle.lists.proofs.equal_bits.Goals as goal

pub returns : goal.returns
returns c = record { value = equal-zeros c.args.a c.args.b c.ranges.a.fits c.ranges.b.fits; prefix_laws = prefix_laws }
