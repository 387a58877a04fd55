-- Names of files, as they are said: a line on standard error stays one line.
use Rattle.std.specs.Prelude.{ℕ, cond, ◌||◌, ltb, eqb}

-- `?` for a control character, by which a name could end the line or change it
abbrev pub masked_byte : ℕ → ℕ
masked_byte byte = cond (ltb byte 32 || eqb byte 127) 63 byte
