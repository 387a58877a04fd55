-- Numbers of 4, 8, 16, 32 and 64 bits: each is below the bound, which is one more than the most.
use Rattle.std.specs.Prelude.{ℕ}

abbrev pub bound4 : ℕ
bound4 = 16

abbrev pub most4 : ℕ
most4 = 15

abbrev pub bound8 : ℕ
bound8 = 256

abbrev pub most8 : ℕ
most8 = 255

abbrev pub bound16 : ℕ
bound16 = 65536

abbrev pub most16 : ℕ
most16 = 65535

abbrev pub bound32 : ℕ
bound32 = 4294967296

abbrev pub most32 : ℕ
most32 = 4294967295

abbrev pub bound64 : ℕ
bound64 = 18446744073709551616
