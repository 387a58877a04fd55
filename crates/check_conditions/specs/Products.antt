-- Products of polynomials in two areas of slots: those of a system and those of a certificate.
use Rattle.std.specs.Prelude.{List, ℕ, ◌+◌, ◌-◌, ◌*◌}
use Rattle.algebra.specs.Coefficients.{mul}
use Rattle.modular.specs.Modulo.{modulo}
use Rattle.words.specs.Limits.{office}
use Rattle.loader.specs.Slot.{slot}
use Rattle.loader.specs.Widths.{system_width, certificate_width}

-- the most products of a sum, one for each row or column of a system, and the most coefficients of each
abbrev pub longest_sum : ℕ
longest_sum = office.rows

abbrev pub longest_product : ℕ
longest_product = office.system_coefficients + office.certificate_coefficients - 1

-- slot first + k·step of a system times slot start + k of a certificate
unfoldable pub product : ℕ → List ℕ → ℕ → ℕ → List ℕ → ℕ → ℕ → List ℕ
unfolding mul modulo slot
product p system first step certificate start k =
    mul (modulo p) (slot system_width system (first + k * step)) (slot certificate_width certificate (start + k))
