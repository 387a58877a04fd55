use Rattle.std.proofs.Common.{◌≡◌, ℕ, ◌-◌, ◌≤◌, ◌<◌, List, length, get_or, drop, sym, ap, refl, ◌∙◌, add-one, arith, rules}
use Rattle.std.proofs.Math.Decide.{dec_lt}
use Rattle.std.proofs.Math.Option.{none}
use Rattle.streams.specs.Side.{zero_digit, nine_digit, digits_from, at_most}
use Rattle.streams.specs.SideLaws.{none_written, first_digit, below_digits, above_digits, next_digit, capped_most, digits_end}
use Rattle.streams.proofs.side.read_side.Goals as goal

-- a byte that is no digit
no_digit : (cs : List ℕ) (value i : ℕ) → i < length cs → (zero_digit ≤ get_or cs i 0 → nine_digit < get_or cs i 0)
    → digits_from value (drop i cs) ≡ none
no_digit cs value i some not = by (dec_lt (get_or cs i 0) zero_digit)
  where
    by : Dec (get_or cs i 0 < zero_digit) → digits_from value (drop i cs) ≡ none
    by (yes low) = below_digits cs value i some low
    by (no high) =
        let l : zero_digit ≤ get_or cs i 0 = omega arith in above_digits cs value i some l (not l)

pub returns-then-is_empty : goal.returns-then-is_empty
returns-then-is_empty c =
    let empty : length c.args.argument.now ≡ 0 = search rules in
    sym (ap at_most (none_written _ empty))

pub loop-byte-init : goal.loop-byte-init
loop-byte-init c =
    let some : length c.args.argument.now ≡ 0 → ⊥ = search rules in
    (omega arith, ap at_most (first_digit _ some))

pub returns-in_err-digit : goal.returns-in_err-digit
returns-in_err-digit c =
    let cs = c.args.argument.now in
    let same : c.from.result ≡ get_or cs c.loop-byte.byte-index 0 = search rules in
    let not : zero_digit ≤ get_or cs c.loop-byte.byte-index 0 → nine_digit < get_or cs c.loop-byte.byte-index 0 =
    λ l. grind (arith, same, l, c.in_err-digit.ensures.cases) in
    rw (c.from_residual.ensures) (sym (c.loop-byte.invariant.1 ∙ ap at_most (no_digit cs _ _ c.loop-byte-test.true not)))

pub loop-byte-preserved : goal.loop-byte-preserved
loop-byte-preserved c =
    let cs = c.args.argument.now in
    let n = c.next_value-value.ensures in
    let same : c.from.result ≡ get_or cs c.loop-byte.byte-index 0 = search rules in
    let digit = c.in_ok-digit.ensures in
    let low : zero_digit ≤ get_or cs c.loop-byte.byte-index 0 = grind (arith, same, digit.value, digit.cases) in
    let high : get_or cs c.loop-byte.byte-index 0 ≤ nine_digit = grind (arith, same, digit.value, digit.cases) in
    let is : c.in_ok-digit.digit ≡ get_or cs c.loop-byte.byte-index 0 - zero_digit = grind (arith, same, digit.value, digit.cases) in (
      capped_most _ n,
      c.loop-byte.invariant.1
          ∙ next_digit _ _ _ c.loop-byte-test.true low high
          ∙ rw (n, is, add-one c.loop-byte.byte-index) refl,
    )

pub returns : goal.returns
returns c = sym (c.loop-byte.invariant.1 ∙ digits_end _ _ _ c.loop-byte-test.false c.loop-byte.invariant.0)
