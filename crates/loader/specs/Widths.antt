-- The widths of the slots that hold a polynomial: the number of its coefficients, then so many as the office's limits allow. The
-- most polynomials of one line.
use Rattle.std.specs.Prelude.{ℕ, ◌+◌}
use Rattle.words.specs.Limits.{office, system_count}

abbrev pub system_width : ℕ
system_width = 1 + office.system_coefficients

abbrev pub certificate_width : ℕ
certificate_width = 1 + office.certificate_coefficients

-- A, and one right side
abbrev pub line_polynomials : ℕ
line_polynomials = system_count office.rows office.columns 1
