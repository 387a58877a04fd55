-- What is due behind a head, as the code hands it on.
use Rattle.std.specs.Prelude.{ℕ}
use Rattle.words.specs.Frame.{Due}

abbrev pub due_of : ℕ → ℕ → ℕ → Due
due_of p limit count = record { modulus = p; limit = limit; count = count }
