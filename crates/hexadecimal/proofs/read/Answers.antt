use mathlib.Core.Path.{refl}
use native.Mathlib.Omega.{arith}
use Rattle.hexadecimal.specs.Hex.{left_by}
use Rattle.hexadecimal.proofs.Hex.{digits_le, found, none_found, no_digit, odd_digit, no_room, octets}
use Rattle.hexadecimal.proofs.read.Goals as goal

pub returns-in-Some-clause-value : goal.returns-in-Some-clause-value
returns-in-Some-clause-value c = let h = found c.args.s.now _ c.in-Some.ensures in no_digit _ _ _ h.0 h.1

pub returns-in-Some-clause-buf_after : goal.returns-in-Some-clause-buf_after
unfolding left_by
returns-in-Some-clause-buf_after c = refl

pub returns-then-s-eq1-clause-value : goal.returns-then-s-eq1-clause-value
returns-then-s-eq1-clause-value c = odd_digit _ _ (none_found _ c.in_default.ensures) (omega arith)

pub returns-then-s-eq1-clause-buf_after : goal.returns-then-s-eq1-clause-buf_after
unfolding left_by
returns-then-s-eq1-clause-buf_after c = refl

pub returns-then-buf-n-clause-value : goal.returns-then-buf-n-clause-value
returns-then-buf-n-clause-value c = no_room _ _ (none_found _ c.in_default.ensures) (λ e. omega arith) (omega arith)

pub returns-then-buf-n-clause-buf_after : goal.returns-then-buf-n-clause-buf_after
unfolding left_by
returns-then-buf-n-clause-buf_after c = refl

pub put_pairs-requires : goal.put_pairs-requires
put_pairs-requires c =
    let h = none_found c.args.s.now c.in_default.ensures in (omega arith, omega arith, omega (arith, h, digits_le c.args.s.now))

pub returns-clause-value : goal.returns-clause-value
returns-clause-value c = octets _ _ (none_found _ c.in_default.ensures) (λ e. omega arith) (omega arith)

pub returns-clause-buf_after : goal.returns-clause-buf_after
unfolding left_by
returns-clause-buf_after c = c.put_pairs.ensures
