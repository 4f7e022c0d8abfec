-- The two 16-bit fields of the header that two numbers share (CARD.md, "Octets"). Assumes nothing: these are
-- definitions.
use Rattle.std.specs.Prelude.{ℕ, ◌+◌, ◌*◌, ◌/◌, ◌%◌}

-- four bits of Result, and twelve of Result Code
abbrev pub result_of : ℕ → ℕ
result_of x = x / 4096

abbrev pub code_of : ℕ → ℕ
code_of x = x % 4096

abbrev pub result_and_code : ℕ → ℕ → ℕ
result_and_code result code = result % 16 * 4096 + code % 4096

-- the I bit, and fifteen bits of submessage number
abbrev pub i_bit_of : ℕ → ℕ
i_bit_of x = x / 32768

abbrev pub submessage_of : ℕ → ℕ
submessage_of x = x % 32768

-- with I = 1
abbrev pub i_bit_and_submessage : ℕ → ℕ
i_bit_and_submessage number = 1 * 32768 + number % 32768
