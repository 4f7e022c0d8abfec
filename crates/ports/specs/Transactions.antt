-- The transaction counter (CARD.md, "What the card writes"). Assumes nothing: these are definitions.
use Rattle.std.specs.Prelude.{ℕ, ◌+◌, cond, leb}
use Rattle.ports.specs.declared.Counter.{Counter}
use Rattle.ports.specs.declared.Taken.{Taken}

-- the number after 16,777,215 is 1
abbrev pub next_number : ℕ → ℕ
next_number n = cond (leb 16777215 n) 1 (n + 1)

-- the number that the next message takes, and the counter after it
abbrev pub taken_from : Counter → Taken
taken_from c = record { number = c.number; next = record { number = next_number c.number } }
