-- Limits that the words can hold: sizes fit into four bits, numbers of coefficients and of words into a payload.
use Rattle.std.specs.Prelude.{ℕ, ◌+◌, ◌≤◌, ◌<◌}
use native.Mathlib.Nat.{mul-le-mul}
use Rattle.std.proofs.Common.{arith}
use Rattle.modular.specs.Bits.{bound16, most16, bound4, most4}
use Rattle.words.specs.Limits.{Limits, office, panel, system_count, words_for}
use Rattle.words.specs.Word.{payload_bound}

pub record LimitsFit (limits : Limits) : Type 0 where
  pub rows : limits.rows ≤ most4
  pub columns : limits.columns ≤ most4
  pub sides : limits.sides ≤ bound4
  pub system_coefficients : limits.system_coefficients ≤ most16
  pub certificate_coefficients : limits.certificate_coefficients ≤ most16

pub office_fits : LimitsFit office
office_fits =
    record {
      rows = omega arith;
      columns = omega arith;
      sides = omega arith;
      system_coefficients = omega arith;
      certificate_coefficients = omega arith;
    }

pub panel_fits : LimitsFit panel
panel_fits =
    record {
      rows = omega arith;
      columns = omega arith;
      sides = omega arith;
      system_coefficients = omega arith;
      certificate_coefficients = omega arith;
    }

-- what keeps the first keeps the second
pub record Narrower (kept limits : Limits) : Type 0 where
  pub rows : kept.rows ≤ limits.rows
  pub columns : kept.columns ≤ limits.columns
  pub sides : kept.sides ≤ limits.sides
  pub system_coefficients : kept.system_coefficients ≤ limits.system_coefficients
  pub certificate_coefficients : kept.certificate_coefficients ≤ limits.certificate_coefficients

pub narrower_same : (limits : Limits) → Narrower limits limits
narrower_same limits =
    record {
      rows = omega arith;
      columns = omega arith;
      sides = omega arith;
      system_coefficients = omega arith;
      certificate_coefficients = omega arith;
    }

pub panel_narrower : Narrower panel office
panel_narrower =
    record {
      rows = omega arith;
      columns = omega arith;
      sides = omega arith;
      system_coefficients = omega arith;
      certificate_coefficients = omega arith;
    }

pub system_count_most : {rows columns sides most widest all : ℕ} → rows ≤ most → columns ≤ widest → sides ≤ all
    → system_count rows columns sides ≤ system_count most widest all
system_count_most h k l = omega (arith, mul-le-mul h k, mul-le-mul l h)

pub words_for_most : {count most : ℕ} (coefficients : ℕ) → count ≤ most → words_for count coefficients ≤ words_for most coefficients
words_for_most {count} {most} coefficients h = omega (arith, mul-le-mul h (native.Mathlib.Nat.le_refl (1 + coefficients)))

-- a system or a certificate of no more polynomials than a head can ask for has its count of words in the end word
pub words_for_small : {count coefficients : ℕ} → count ≤ system_count most4 most4 bound4 → coefficients ≤ most16
    → words_for count coefficients < payload_bound
words_for_small {count} {coefficients} h k =
    let k' : 1 + coefficients ≤ bound16 = omega arith in
    omega (arith, mul-le-mul h k')
