-- What can be said of reading: no contract of the toolchain says which bytes a file gives, but of a reader whose bytes are known it
-- does.
use Rattle.std.specs.Prelude.{ℕ, ◌≤◌, ◌<◌, List, Option, Result, Ok, Err, length, take}
use Rattle.std.specs.Io.KnownBytes.{Consumes, IsAtEnd}

-- the bytes read are among so many
abbrev pub ReadWithin : {E : Type 0} → ℕ → Result ℕ E → Type 0
ReadWithin most (Ok n) = n ≤ most
ReadWithin most (Err reason) = Unit {0}

-- of an input that had `old` left, the first of these bytes are those read; where there was room for more, none is left
abbrev pub ReadsStart : {E : Type 0} → (old new : Option (List ℕ)) → (bytes : List ℕ) → Result ℕ E → Type 0
ReadsStart old new bytes (Ok n) = Consumes old new (take n bytes) × (n < length bytes → IsAtEnd new)
ReadsStart old new bytes (Err reason) = Unit {0}
