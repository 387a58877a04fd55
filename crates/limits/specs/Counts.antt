-- The most polynomials of a system, and of a certificate, within the office's limits.
use Rattle.std.specs.Prelude.{ℕ}
use Rattle.words.specs.Limits.{office, system_count, solution_count}

abbrev pub system_polynomials : ℕ
system_polynomials = system_count office.rows office.columns office.sides

abbrev pub certificate_polynomials : ℕ
certificate_polynomials = solution_count office.rows office.columns
