use mathlib.Core.Path.{refl}
use mathlib.Core.Logic.{⊎_elim}
use native.Mathlib.Omega.{arith}
use borrow.Author.Tests.{ne_eqb}
use borrow.Author.Rules.{rules}
use Rattle.octets.proofs.Writing.{over_none}
use Rattle.checks.specs.Table.{enclosed_of}
use Rattle.checks.proofs.Named.{id-fits, enclosed_500, enclosed_6}
use Rattle.checks.proofs.put_enclosed.Goals as goal

pub put_target-requires : goal.put_target-requires
put_target-requires c = rw c.id_in.ensures (omega (arith, id-fits c.args.tlvs.now, c.requires.1), omega (arith, id-fits c.args.tlvs.now, c.requires))

pub returns-in-84 : goal.returns-in-84
unfolding enclosed_of
returns-in-84 c = rw c.in-84.is (rw c.rules_of.ensures.rules at c.put_missing.ensures)

pub returns-in-85 : goal.returns-in-85
unfolding enclosed_of
returns-in-85 c = rw c.in-85.is c.put_fault.ensures

pub returns-in-1280 : goal.returns-in-1280
returns-in-1280 c = rw (⊎_elim (enclosed_6 c.args.kind c.args.tlvs.now) (enclosed_500 c.args.kind c.args.tlvs.now) c.in-1280.is) (rw c.id_in.ensures at c.put_target.ensures)

pub returns-in_default : goal.returns-in_default
unfolding enclosed_of
returns-in_default c = rw (ne_eqb c.args.code 0x54 (λ e. search rules), ne_eqb c.args.code 0x55 (λ e. search rules), ne_eqb c.args.code 0x500 (λ e. search rules), ne_eqb c.args.code 0x6 (λ e. search rules)) (record { size = refl; text = over_none _ })
