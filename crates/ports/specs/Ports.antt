-- One port's record (CARD.md, "Records and room"): up or down, delegation, at most one open request. Its flows are in
-- the pool. Assumes nothing: these are definitions.
use Rattle.std.specs.Prelude.{ℕ, Bool, true, false, cond, not, [], ◌∷◌, eqb, leb, ltb}
use Rattle.octets.specs.Tests.{every}
use Rattle.ports.specs.declared.Port.{Port}
use Rattle.ports.specs.declared.Change.{Change}
use Rattle.ports.specs.declared.Change.TheVariants.{Kept, BroughtUp, TakenDown, Delegated, Closed, Asked}

-- a port starts down, with delegation 0
abbrev pub fresh_port : Port
fresh_port = record { up = false; asking = false; delegation = 0; required = 0; preferred = 0; transaction = 0 }

-- the open request, if any, is closed
abbrev pub closed : Port → Port
closed x = record { up = x.up; asking = false; delegation = x.delegation; required = 0; preferred = 0; transaction = 0 }

-- port up: an open request stays
abbrev pub brought_up : Port → Port
brought_up x =
    record { up = true; asking = x.asking; delegation = x.delegation; required = x.required; preferred = x.preferred; transaction = x.transaction }

-- port down closes its request; its delegation stays. Down on a down port changes nothing
unfoldable pub taken_down : Port → Port
taken_down x =
    cond x.up
    (record { up = false; asking = false; delegation = x.delegation; required = 0; preferred = 0; transaction = 0 })
    x

-- set delegation closes an open request
abbrev pub delegated : Port → ℕ → Port
delegated x amount = record { up = x.up; asking = false; delegation = amount; required = 0; preferred = 0; transaction = 0 }

-- a request with its figures and the transaction number of the message that carries it
abbrev pub asked : Port → ℕ → ℕ → ℕ → Port
asked x required preferred transaction =
    record { up = x.up; asking = true; delegation = x.delegation; required = required; preferred = preferred; transaction = transaction }

-- the record after a change
unfoldable pub changed_by : Change → Port → Port
changed_by Kept x = x
changed_by BroughtUp x = brought_up x
changed_by TakenDown x = taken_down x
changed_by (Delegated amount) x = delegated x amount
changed_by Closed x = closed x
changed_by (Asked required preferred transaction) x = asked x required preferred transaction

-- delegation < required <= preferred and none is open
unfoldable pub may_ask : Port → ℕ → ℕ → Bool
may_ask x required preferred = every (ltb x.delegation required ∷ leb required preferred ∷ not x.asking ∷ [])

-- the open request has this transaction number
unfoldable pub answers : Port → ℕ → Bool
answers x transaction = every (x.asking ∷ eqb x.transaction transaction ∷ [])

-- an amount from required to preferred, both included
unfoldable pub within : Port → ℕ → Bool
within x amount = every (leb x.required amount ∷ leb amount x.preferred ∷ [])
