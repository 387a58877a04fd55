-- The limits of document 01, "Bounds", and of the panel (document 02, item 4): a parameter of the definitions and laws on words and
-- values.
use Rattle.std.specs.Prelude.{ℕ, ◌+◌, ◌*◌}

pub record Limits : Type 0 where
  -- rows and columns: 1 to so many
  pub rows : ℕ
  pub columns : ℕ
  -- right sides: 1 to so many
  pub sides : ℕ
  -- coefficients of one polynomial of a system, of a certificate: the greatest degree and one more
  pub system_coefficients : ℕ
  pub certificate_coefficients : ℕ

abbrev pub office : Limits
office = record { rows = 8; columns = 8; sides = 8; system_coefficients = 16; certificate_coefficients = 121 }

abbrev pub panel : Limits
panel = record { rows = 4; columns = 4; sides = 1; system_coefficients = 8; certificate_coefficients = 29 }

-- how many polynomials a matrix with so many right sides has
abbrev pub system_count : (rows columns sides : ℕ) → ℕ
system_count rows columns sides = rows * columns + sides * rows

-- how many a solution has: d, N, w and Z. An absence has one for each row.
abbrev pub solution_count : ℕ → ℕ → ℕ
solution_count rows columns = 1 + columns + 1 + rows

-- a head, so many polynomials with so many coefficients each, an end
abbrev pub words_for : ℕ → ℕ → ℕ
words_for count coefficients = 2 + count * (1 + coefficients)

-- "the longest sheet is 2,178 words" (document 02, item 1), "longest card 2,198 words"
abbrev pub longest_system : Limits → ℕ
longest_system limits = words_for (system_count limits.rows limits.columns limits.sides) limits.system_coefficients

abbrev pub longest_certificate : Limits → ℕ
longest_certificate limits = words_for (solution_count limits.rows limits.columns) limits.certificate_coefficients
