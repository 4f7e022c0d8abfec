use native.Mathlib.Nat.{add-sub_cancel_left}
use Rattle.circuits.specs.Circuits.{id_at, id_length}
use Rattle.circuits.proofs.id_at.Goals as goal

pub returns : goal.returns
unfolding id_at id_length
returns c = rw add-sub_cancel_left
