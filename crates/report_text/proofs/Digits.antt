-- What the library's `io::decimal` writes is the decimal of the definition.
use Prim.Native.Nat.{ℕ, zero, suc, ◌/◌, ◌%◌, ◌^◌, ◌≤◌, ◌<◌}
use mathlib.Core.Path.{◌≡◌, sym, ap, ap₂, ◌∙◌, subst}
use mathlib.Core.List.{[], ◌∷◌, ◌++◌}
use native.Mathlib.Omega.{arith}
use native.Mathlib.Nat.{pow-suc, pow-le-pow_right}
use lib.Dec.{lit<}
use borrow.Author.Tests.{lt-ltb}
use Rattle.io.specs.Digits.{hex_digit_ascii, last_digits, IsDigitCount}
use Rattle.report_text.specs.Decimal.{digit, decimal}
use Rattle.report_text.specs.DecimalLaws.{decimal_one, decimal_more}

glyph_digit : (d : ℕ) → d < 10 → hex_digit_ascii d ≡ digit d
glyph_digit d h = rw (lt-ltb d 10 h)

-- as many digits as are needed, by a bound below and one above
digits_decimal_between : (k n : ℕ) → n < 10 ^ suc k → (0 < k → 10 ^ k ≤ n) → last_digits 10 (suc k) n ≡ decimal n
digits_decimal_between zero n h g = ap (λ e. e ∷ []) (glyph_digit (n % 10) (omega arith) ∙ omega arith) ∙ sym (decimal_one n h)
digits_decimal_between (suc k) n h g =
    let low = g (omega arith) in
    let ten = pow-le-pow_right (lit< {m = 0} {n = 10} tt) {i = 1} {j = suc k} (omega arith) in
    let below = pow-suc 10 (suc k) in
    let above = pow-suc 10 k in
    let tenth = digits_decimal_between k (n / 10) (omega arith) (λ p. omega arith) in
    ap₂ (λ t e. t ++ (e ∷ [])) tenth (glyph_digit (n % 10) (omega arith)) ∙ sym (decimal_more n (omega arith))

pub digits_decimal : (k n : ℕ) → IsDigitCount 10 1 n k → last_digits 10 k n ≡ decimal n
digits_decimal zero n f = absurd (omega arith)
digits_decimal (suc k) n f = digits_decimal_between k n f.1 (λ h. subst (λ j. 10 ^ j ≤ n) (omega arith) (f.2 (omega arith)))
