-- Taking numbers above the most for it does no harm while they are read digit by digit; nor to what is read of a line.
use Rattle.std.specs.Prelude.{ℕ, ◌+◌, ◌-◌, ◌*◌, ◌≤◌, ◌<◌, suc, min, ◌≡◌, refl, Bool, true, false, cond, ◌||◌, List, [], ◌∷◌, length, get_or, drop}
use Rattle.std.proofs.Common.{sym, ◌∙◌, arith, drop_of_length-le, drop-cons, le-leb, le-ltb}
use Rattle.std.proofs.Math.Path.{ap}
use Rattle.std.proofs.Math.Option.{Option, none, some}
use Rattle.std.proofs.Math.Nat.{min-eq_left, min-eq_right, min-le_right}
use Rattle.std.proofs.Math.Decide.{dec_lt}
use Rattle.std.proofs.lemmas.Bool.{lt-leb}
use Rattle.words.specs.Limits.{Limits, office}
use Rattle.words.specs.LimitsLaws.{LimitsFit, office_fits}
use Rattle.words.specs.Outcome.{Outcome, refuse, followed_by}
use Rattle.words.specs.Outcome.Outcome.{accepted, refused}
use Rattle.words.specs.Systems.{Systems, read_systems, line_of, read_line}
use Rattle.words.specs.Bytes.{words_of, broken, too_long, read_line_file}
use Rattle.words.proofs.SystemsLaws.{systems_written_of_read}
use Rattle.streams.specs.Side.{zero_digit, nine_digit, digit?, digits_from, number_written, most_side, at_most, side_said, SideWithin}
use Rattle.std.specs.Prelude.{Option as Asked, Some, None}

-- one digit more
step_capped : (value d : ℕ) → min (10 * min value most_side + d) most_side ≡ min (10 * value + d) most_side
step_capped value d = by (dec_lt most_side value)
  where
    by : Dec (most_side < value) → min (10 * min value most_side + d) most_side ≡ min (10 * value + d) most_side
    by (no h) = ap (λ n. min (10 * n + d) most_side) (min-eq_left {m = most_side} (omega arith))
    by (yes h) =
        let few : most_side ≤ value = omega arith in
        let small : most_side ≤ 10 * min value most_side + d = omega (arith, min-eq_right few) in
        let large : most_side ≤ 10 * value + d = omega arith in
        min-eq_right small ∙ sym (min-eq_right large)

same_capped : (b : Bool) (x y : Option ℕ) → at_most x ≡ at_most y → at_most (cond b x none) ≡ at_most (cond b y none)
same_capped true x y e = e
same_capped false x y e = refl

pub digits_capped : (cs : List ℕ) (value : ℕ) → at_most (digits_from (min value most_side) cs) ≡ at_most (digits_from value cs)
unfolding digits_from
digits_capped [] value = ap some (min-eq_left (min-le_right value most_side))
digits_capped (c ∷ cs) value =
    let d : ℕ = c - zero_digit in
    same_capped (digit? c) (digits_from (10 * min value most_side + d) cs) (digits_from (10 * value + d) cs)
    (sym (digits_capped cs (10 * min value most_side + d))
    ∙ ap (λ n. at_most (digits_from n cs)) (step_capped value d)
    ∙ digits_capped cs (10 * value + d))

-- an argument, digit by digit
pub none_written : (cs : List ℕ) → length cs ≡ 0 → number_written cs ≡ none
unfolding number_written
none_written [] h = refl
none_written (c ∷ cs) h = absurd (omega arith)

pub first_digit : (cs : List ℕ) → (length cs ≡ 0 → ⊥) → number_written cs ≡ digits_from 0 cs
unfolding number_written
first_digit [] h = absurd (h refl)
first_digit (c ∷ cs) h = refl

module _ (cs : List ℕ) (value i : ℕ) (some_left : i < length cs) where
  abbrev c : ℕ
  c = get_or cs i 0

  here : digits_from value (drop i cs) ≡ cond (digit? c) (digits_from (10 * value + (c - zero_digit)) (drop (suc i) cs)) none
  unfolding digits_from
  here = ap (digits_from value) (drop-cons cs i 0 some_left)

  pub below_digits : c < zero_digit → digits_from value (drop i cs) ≡ none
  below_digits h = here ∙ simp (lt-leb zero_digit c h)

  pub above_digits : zero_digit ≤ c → nine_digit < c → digits_from value (drop i cs) ≡ none
  above_digits l h = here ∙ simp (le-leb zero_digit c l, lt-leb c nine_digit h)

  pub next_digit : zero_digit ≤ c → c ≤ nine_digit
      → at_most (digits_from value (drop i cs)) ≡ at_most (digits_from (min (10 * value + (c - zero_digit)) most_side) (drop (suc i) cs))
  next_digit l h =
      let is : digit? c ≡ true = simp (le-leb zero_digit c l, le-leb c nine_digit h) in
      ap at_most (here ∙ ap (λ b. cond b (digits_from (10 * value + (c - zero_digit)) (drop (suc i) cs)) none) is)
      ∙ sym (digits_capped (drop (suc i) cs) (10 * value + (c - zero_digit)))

pub capped_most : {n : ℕ} (m : ℕ) → n ≡ min m most_side → n ≤ most_side
capped_most {n} m e = omega (arith, e, min-le_right m most_side)

pub digits_end : (cs : List ℕ) (value i : ℕ) → length cs ≤ i → value ≤ most_side → at_most (digits_from value (drop i cs)) ≡ some value
unfolding digits_from
digits_end cs value i all most =
    ap (λ l. at_most (digits_from value l)) (drop_of_length-le cs all) ∙ ap some (min-eq_left most)

-- so a number that is read is at most the most
said_most : (r : Asked ℕ) (o : Option ℕ) → side_said r ≡ at_most o → SideWithin r
said_most (Some n) none e = absurd (let z : ◌≡◌ {A = ℕ} 0 1 = cc in omega arith)
said_most (Some n) (some m) e = let same : n ≡ min m most_side = cc in capped_most m same
said_most None o e = tt

pub said_within : (r : Asked ℕ) (cs : List ℕ) → side_said r ≡ at_most (number_written cs) → SideWithin r
said_within r cs e = said_most r (number_written cs) e

-- ---- what is read of a line

-- two numbers that no sheet within the limits has as a right side are refused alike
pub beyond_same : (limits : Limits) → LimitsFit limits → (k j : ℕ) (ws : List ℕ) → limits.sides ≤ k → limits.sides ≤ j
    → read_line limits k ws ≡ read_line limits j ws
unfolding read_line
beyond_same limits fit k j ws many more =
    each (read_systems limits ws) (λ s e. (systems_written_of_read limits fit ws s e).1.head.sides.1)
  where
    each : (o : Outcome Systems) → ((s : Systems) → o ≡ accepted s → s.head.sides ≤ limits.sides)
        → followed_by o (line_of k) ≡ followed_by o (line_of j)
    each (refused number place) few = refl
    each (accepted s) few =
        let f = few s refl in
        simp (le-ltb k s.head.sides (omega arith), le-ltb j s.head.sides (omega arith))

-- so a line may be asked for by the number that an argument writes, or by the most in its stead
pub capped_line : (k : ℕ) (ws : List ℕ) → read_line office (min k most_side) ws ≡ read_line office k ws
capped_line k ws = by (dec_lt most_side k)
  where
    by : Dec (most_side < k) → read_line office (min k most_side) ws ≡ read_line office k ws
    by (no h) = ap (λ n. read_line office n ws) (min-eq_left {m = most_side} (omega arith))
    by (yes h) =
        ap (λ n. read_line office n ws) (min-eq_right {n = most_side} (omega arith))
        ∙ beyond_same office office_fits most_side k ws (omega arith) (omega arith)

pub capped_file : (k : ℕ) (file : List ℕ) → read_line_file office (min k most_side) file ≡ read_line_file office k file
unfolding read_line_file
capped_file k file = ap (refuse (broken file || too_long office file) 10 0) (capped_line k (words_of file))
