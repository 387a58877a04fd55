-- Barrett's step with s = 2^shift: x less the estimate (x / s) · m / 2^32 of its quotient times p, where m is 2^32 s / p.
use mathlib.Core.Path.{◌≡◌, refl}
use Prim.Native.Nat.{ℕ, ◌+◌, ◌-◌, ◌*◌, ◌/◌, ◌%◌, ◌^◌, ◌≤◌, ◌<◌}
use native.Mathlib.Nat.{div-mul-le_self, div-add-mod', mod-lt, mod-eq_of_lt, le_of_lt}
use native.Mathlib.Nat.{mul-le-mul, mul-le-mul_left, mul-le-mul_right, mul-lt-mul_of_pos_right, lt_of_mul-lt-mul_right}
use native.Mathlib.Omega.{arith}
use lib.Pow.{pow_mono, pow_pos}
use Rattle.modular.specs.LargestPrime.{largest_modulus}
use Rattle.modular.specs.Bits.{bound32}
use Rattle.residue.specs.Reciprocal.{Reciprocal}
use Rattle.residue.specs.Sum.{reducible_products, SmallSum}
use Rattle.residue.specs.Barrett.{BarrettStep}
use Rattle.residue.proofs.Remainder.{sub_mul_mod}

-- the most that shift, s and x / s are
abbrev pub most_shift : ℕ
most_shift = 14

abbrev pub most_scale : ℕ
most_scale = 16384

abbrev most_shifted : ℕ
most_shifted = 2147483648

-- s is at most 2^14, as 2 s is a power of two and at most p
pub shift_limit : (k p : ℕ) → 2 * 2 ^ k ≤ p → p ≤ largest_modulus → k ≤ most_shift
shift_limit k p low limit =
    let above : (1 + most_shift ≤ k → ⊥) = λ le. omega (arith, pow_mono le) in
    omega arith

module _ {p shift m : ℕ} (ok : Reciprocal p shift m) where
  abbrev s : ℕ
  s = 2 ^ shift

  pub shift_short : shift ≤ most_shift
  shift_short = shift_limit shift p ok.scale_low ok.limit

  scale_short : s ≤ most_scale
  scale_short = pow_mono shift_short

  reciprocal_low : m * p ≤ bound32 * s
  reciprocal_low = rw ok.reciprocal_is (div-mul-le_self (bound32 * s) p)

  reciprocal_high : bound32 * s ≤ m * p + p
  reciprocal_high =
      let large = ok.prime.large in
      rw ok.reciprocal_is (omega (arith, div-add-mod' (bound32 * s) p, mod-lt (bound32 * s) {m = p} (omega arith)))

  reciprocal_short : m < bound32
  reciprocal_short =
      let large = ok.prime.large in
      let low = ok.scale_low in
      lt_of_mul-lt-mul_right p (omega (arith, reciprocal_low))

  module _ (x : ℕ) (hx : SmallSum p x) where
    abbrev y : ℕ
    y = x / s

    abbrev q : ℕ
    q = y * m / bound32

    shifted_short : y ≤ most_shifted
    shifted_short =
        let high = ok.scale_high in
        let all : y * s < (16 * reducible_products * s + 1) * s =
        omega (arith, div-mul-le_self x s, mul-le-mul (le_of_lt high) (le_of_lt high), pow_pos shift) in
        omega (arith, lt_of_mul-lt-mul_right s all, scale_short)

    quotient_short : q < bound32
    quotient_short =
        omega (arith, div-mul-le_self (y * m) bound32, mul-le-mul shifted_short (le_of_lt reciprocal_short))

    -- the estimate is not too large
    estimate_low : q * p ≤ x
    estimate_low =
        omega (
          arith,
          mul-le-mul_right p (div-mul-le_self (y * m) bound32),
          mul-le-mul_left y reciprocal_low,
          div-mul-le_self x s,
        )

    -- nor too small by more than p
    estimate_near : x < q * p + p + p
    estimate_near =
        let large = ok.prime.large in
        let low = ok.scale_low in
        let next : y * m < (q + 1) * bound32 =
        omega (arith, div-add-mod' (y * m) bound32, mod-lt (y * m) {m = bound32} (omega arith)) in
        omega (
          arith,
          div-add-mod' x s,
          mod-lt x {m = s} (pow_pos shift),
          mul-le-mul_left y reciprocal_high,
          mul-le-mul_right p shifted_short,
          mul-lt-mul_of_pos_right {k = p} next (omega arith),
        )

    -- what the code takes off: its remainders by 2^32 change nothing
    abbrev pub multiple : ℕ
    multiple = y % bound32 * (m % bound32) / bound32 % bound32 * (p % bound32)

    multiple_is : multiple ≡ q * p
    multiple_is =
        let limit = ok.limit in
        let y_is : y % bound32 ≡ y = mod-eq_of_lt (omega (arith, shifted_short)) in
        let m_is : m % bound32 ≡ m = mod-eq_of_lt reciprocal_short in
        let p_is : p % bound32 ≡ p = mod-eq_of_lt (omega arith) in
        let q_is : q % bound32 ≡ q = mod-eq_of_lt quotient_short in
        rw (y_is, m_is, p_is, q_is) refl

    pub multiple_low : multiple ≤ x
    multiple_low = rw multiple_is estimate_low

    pub barrett_step : BarrettStep p x (x - multiple)
    barrett_step = rw multiple_is (record {
      same = sub_mul_mod x q p estimate_low;
      near = omega (arith, estimate_low, estimate_near);
    })
