-- The version of the library as one number.
use Rattle.std.specs.Prelude.{ℕ, ◌+◌, ◌*◌}

abbrev pub version_number : (major minor patch : ℕ) → ℕ
version_number major minor patch = 10000 * major + 100 * minor + patch

-- what the file VERSION says
abbrev pub version : ℕ
version = version_number 0 11 1
