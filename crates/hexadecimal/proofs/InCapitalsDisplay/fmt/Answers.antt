use Rattle.std.proofs.Common.{rules, ◌/◌, ◌%◌, [], ◌∷◌, get_or}
use Rattle.std.proofs.lemmas.Fmt.{hex_byte}
use Rattle.std.proofs.lemmas.Grind.{put_two}
use native.Mathlib.Omega.{arith}
use mathlib.Core.Bool.{true}
use Rattle.hexadecimal.specs.Hex.{capital}
use Rattle.hexadecimal.proofs.Hex.{text_more}
use Rattle.hexadecimal.proofs.InCapitalsDisplay.fmt.Goals as goal

pub loop-x-preserved : goal.loop-x-preserved
loop-x-preserved g c = λ p.
    let x = get_or c.args.self.now.0.now c.loop-x.x-index 0 in
    let two = capital (x / 16) ∷ capital (x % 16) ∷ [] in
    put_two _ _ _ _ _ two _ (c.loop-x.invariant p) (search (rules, hex_byte true x (search rules))) (text_more _ _ (omega arith))
