use Rattle.std.proofs.Common.{◌≡◌, ℕ, ◌+◌, ◌-◌, ◌*◌, ◌/◌, ◌^◌, ◌≤◌, ◌<◌, ap, ◌∙◌, arith}
use lib.Pow.{pow_mono, pow-add}
use Rattle.modular.specs.Bits.{bound32}
use Rattle.modular.specs.Prime.{Prime}
use Rattle.modular.specs.LargestPrime.{largest_modulus}
use Rattle.residue.specs.Reciprocal.{Reciprocal}
use Rattle.residue.proofs.Barrett.{most_shift, most_scale, shift_limit}
use Rattle.residue.proofs.modulus.Modulus.new.Goals as goal

-- 2^r is at most p, and twice it is more than p: the scale is half of it
module _ (p r : ℕ) (prime : Prime p) (limit : p ≤ largest_modulus) (low : 2 ^ r ≤ p) (high : p < 2 * 2 ^ r) where
  abbrev scale : ℕ
  scale = 2 ^ (r - 1)

  halved : 2 ^ r ≡ scale * 2
  halved =
      let more : (r ≤ 0 → ⊥) = λ none. omega (arith, pow_mono none, prime.large) in
      let next : r ≡ r - 1 + 1 = omega arith in
      ap (λ (i : ℕ). 2 ^ i) next ∙ pow-add 2 (r - 1) 1

  shift_short : r - 1 ≤ most_shift
  shift_short = shift_limit (r - 1) p (omega (arith, halved)) limit

  scale_short : scale ≤ most_scale
  scale_short = pow_mono shift_short

  -- of the shift and of the numerator, as the body has them, no more is asked than an equation of numbers
  reciprocal : (s numerator : ℕ) → s ≡ r - 1 → numerator ≡ bound32 * scale → Reciprocal p s (numerator / p)
  reciprocal s numerator shift_is numerator_is = record {
    prime = prime;
    limit = limit;
    scale_low = rw shift_is (omega (arith, halved));
    scale_high = rw shift_is (omega (arith, halved));
    reciprocal_is = rw shift_is (ap (λ x. x / p) numerator_is);
  }

pub overflow_mul-result : goal.overflow_mul-result
overflow_mul-result c =
    let found = c.ilog2-shift.ensures in
    let small = scale_short c.args.p _ c.requires.0 c.requires.1 found.power_le found.next_power_gt in
    record { fits = omega (arith, small) }

pub invariant_of-result : goal.invariant_of-result
invariant_of-result c =
    let found = c.ilog2-shift.ensures in
    let few = shift_short c.args.p _ c.requires.0 c.requires.1 found.power_le found.next_power_gt in
    let small = scale_short c.args.p _ c.requires.0 c.requires.1 found.power_le found.next_power_gt in
    let shown = reciprocal c.args.p _ c.requires.0 c.requires.1 found.power_le found.next_power_gt in
    record { valid = shown _ _ (omega (arith, few)) (omega (arith, small)) }
