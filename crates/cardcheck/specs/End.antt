-- How the end of a file is found.
use Rattle.std.specs.Prelude.{ℕ, Result, Ok, Err, Option, Some, None, cond, ltb}

-- the bytes that one turn reads
abbrev pub turn_bytes : ℕ
turn_bytes = 65536

-- the most bytes that are read to find an end that the system does not tell
abbrev pub most_bytes : ℕ
most_bytes = 16777216

-- the end that the system tells, where it is behind so many bytes
abbrev pub end_told : {E : Type 0} → Result ℕ E → ℕ → Option ℕ
end_told (Ok end) count = cond (ltb count end) (Some end) None
end_told (Err reason) count = None
