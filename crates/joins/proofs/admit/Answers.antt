use mathlib.Core.Path.{◌≡◌, sym, ◌∙◌}
use mathlib.Core.Bool.{true}
use Rattle.pool.specs.Pool.{has_room}
use Rattle.joins.specs.Joins.{admit_number, admission_number, refusal_number}
use Rattle.joins.proofs.Lent.{room_lent}
use Rattle.joins.proofs.admit.Goals as goal
use Rattle.joins.proofs.admit.Goals.{else-cac-via-then-cac+else-not-rate_fits, else-cac-via-else-cac}

pub returns-then-not-has_room : goal.returns-then-not-has_room
unfolding admit_number admission_number refusal_number
returns-then-not-has_room c card l = rw (room_lent l ∙ sym c.has_room.ensures ∙ c.if-not-has_room.true)

pub returns-then-not-rate_fits : goal.returns-then-not-rate_fits
unfolding admit_number admission_number refusal_number
returns-then-not-rate_fits c card l =
    let room : has_room c.args.pool.now c.args.p ≡ true = sym c.has_room.ensures ∙ c.if-not-has_room.false in
    rw (room_lent l ∙ room, c.if-cac.true, sym (c.rate_fits.ensures card l) ∙ c.if-not-rate_fits.true)

pub returns : goal.returns
unfolding admit_number admission_number
returns c card l =
    let room : has_room c.args.pool.now c.args.p ≡ true = sym c.has_room.ensures ∙ c.if-not-has_room.false in
    elim c.else-cac.branch [ else-cac-via-then-cac+else-not-rate_fits w ↦ rw (room_lent l ∙ room, w.if-cac.true, sym (w.rate_fits.ensures card l) ∙ w.if-not-rate_fits.false) | else-cac-via-else-cac w ↦ rw (room_lent l ∙ room, w.if-cac.false) ]
