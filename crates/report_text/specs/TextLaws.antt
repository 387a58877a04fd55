-- A solution's report says one denominator, one feedback and one delay: they can be read off it.
use Rattle.std.specs.Prelude.{ℕ, ◌≡◌, refl, List, [], ◌∷◌, ◌++◌, map}
use Rattle.std.proofs.Common.{sym, ap, ◌∙◌, append_assoc, append-nil, arith}
use Rattle.report_text.specs.Ascii.{ascii}
use Rattle.report_text.specs.Decimal.{decimal}
use Rattle.report_text.specs.DecimalLaws.{decimal_value, value_decimal, Digit, Digits, IsDecimal, decimal_form}
use Rattle.report_text.specs.Text.{all_spaced, denominator_line, feedback_line, solution_text}

-- ---- where a number ends

digits_of : (text : List ℕ) → IsDecimal text → Digits text
digits_of [] h = absurd h
digits_of (c ∷ []) h = (h, tt)
digits_of (c ∷ b ∷ text) h = (h.1, h.2)

-- digits end at the first byte that is none
digits_apart : (s t u v : List ℕ) (a b : ℕ) → Digits s → Digits t → ¬ Digit a → ¬ Digit b → s ++ (a ∷ u) ≡ t ++ (b ∷ v)
    → (s ≡ t) × (a ∷ u ≡ b ∷ v)
digits_apart [] [] u v a b ds dt na nb e = (refl, e)
digits_apart [] (c ∷ t) u v a b ds dt na nb e = let z : a ≡ c = cc in absurd (na (omega (arith, z, dt.0)))
digits_apart (c ∷ s) [] u v a b ds dt na nb e = let z : c ≡ b = cc in absurd (nb (omega (arith, z, ds.0)))
digits_apart (c ∷ s) (c' ∷ t) u v a b ds dt na nb e =
    let first : c ≡ c' = cc in
    let rest = digits_apart s t u v a b ds.1 dt.1 na nb cc in
    let same = rest.0 in
    (cc, rest.1)

number_apart : (n m : ℕ) (u v : List ℕ) (a b : ℕ) → ¬ Digit a → ¬ Digit b → decimal n ++ (a ∷ u) ≡ decimal m ++ (b ∷ v)
    → (n ≡ m) × (a ∷ u ≡ b ∷ v)
number_apart n m u v a b na nb e =
    let apart = digits_apart (decimal n) (decimal m) u v a b (digits_of (decimal n) (decimal_form n))
    (digits_of (decimal m) (decimal_form m)) na nb e in
    (sym (value_decimal n) ∙ ap decimal_value apart.0 ∙ value_decimal m, apart.1)

-- ---- numbers, each behind a space, up to the end of the line

abbrev space : ℕ
space = 32

abbrev newline : ℕ
newline = 10

no_digit_space : ¬ Digit space
no_digit_space d = absurd (omega (arith, d.0))

no_digit_newline : ¬ Digit newline
no_digit_newline d = absurd (omega (arith, d.0))

-- the line from its numbers on, and what stands behind it
abbrev listed : List ℕ → List ℕ → List ℕ
listed d u = all_spaced (map decimal d) ++ (newline ∷ u)

-- it begins with a byte that is no digit
record Begins (text : List ℕ) : Type 0 where
  first : ℕ
  rest : List ℕ
  whole : text ≡ first ∷ rest
  no_digit : ¬ Digit first

begins : (d u : List ℕ) → Begins (listed d u)
begins [] u = record { first = newline; rest = u; whole = refl; no_digit = no_digit_newline }
begins (n ∷ d) u = record { first = space; rest = _; whole = refl; no_digit = no_digit_space }

listed_next : (n : ℕ) (d u : List ℕ) → listed (n ∷ d) u ≡ space ∷ (decimal n ++ listed d u)
listed_next n d u = ap (λ t. space ∷ t) (append_assoc (decimal n) (all_spaced (map decimal d)) (newline ∷ u))

next_apart : (n m : ℕ) (d f u v : List ℕ) → decimal n ++ listed d u ≡ decimal m ++ listed f v → (n ≡ m) × (listed d u ≡ listed f v)
next_apart n m d f u v e =
    let D = begins d u in
    let F = begins f v in
    let apart = number_apart n m D.rest F.rest D.first F.first D.no_digit F.no_digit
    (ap (λ t. decimal n ++ t) (sym D.whole) ∙ e ∙ ap (λ t. decimal m ++ t) F.whole) in
    (apart.0, D.whole ∙ apart.1 ∙ sym F.whole)

listed_apart : (d f u v : List ℕ) → listed d u ≡ listed f v → (d ≡ f) × (u ≡ v)
listed_apart [] [] u v e = (refl, cc)
listed_apart [] (m ∷ f) u v e = let z : newline ≡ space = cc in absurd (omega (arith, z))
listed_apart (n ∷ d) [] u v e = let z : space ≡ newline = cc in absurd (omega (arith, z))
listed_apart (n ∷ d) (m ∷ f) u v e =
    let same : space ∷ (decimal n ++ listed d u) ≡ space ∷ (decimal m ++ listed f v) =
    sym (listed_next n d u) ∙ e ∙ listed_next m f v in
    let apart = next_apart n m d f u v cc in
    let first = apart.0 in
    let rest = listed_apart d f u v apart.1 in
    let others = rest.0 in
    (cc, rest.1)

-- ---- the three lines

-- the third from its first number on
abbrev counted : (n k : ℕ) → List ℕ
counted n k = decimal n ++ (ascii " delay " ++ (decimal k ++ ascii "\n"))

regroup : (answer label numbers end next gap n word k : List ℕ)
    → answer ++ (label ++ (numbers ++ end)) ++ (next ++ (((gap ++ n) ++ ((gap ++ word) ++ ((gap ++ k) ++ []))) ++ end))
    ≡ (answer ++ label) ++ (numbers ++ (end ++ ((next ++ gap) ++ (n ++ ((gap ++ word ++ gap) ++ (k ++ end))))))
regroup answer label numbers end next gap n word k = simp (append_assoc, append-nil)

text_is : (d : List ℕ) (n k : ℕ)
    → solution_text d n k ≡ ascii "answer solution\ndenominator" ++ listed d (ascii "feedback " ++ counted n k)
unfolding solution_text denominator_line feedback_line
text_is d n k =
    regroup (ascii "answer solution\n") (ascii "denominator") (all_spaced (map decimal d)) (ascii "\n") (ascii "feedback")
    (ascii " ") (decimal n) (ascii "delay") (decimal k)

after : (s u v : List ℕ) → s ++ u ≡ s ++ v → u ≡ v
after [] u v e = e
after (a ∷ s) u v e = after s u v cc

pub text_apart : (d f : List ℕ) (n k i j : ℕ) → solution_text d n k ≡ solution_text f i j → (d ≡ f) × (n ≡ i) × (k ≡ j)
text_apart d f n k i j e =
    let lists = listed_apart d f _ _ (after (ascii "answer solution\ndenominator") _ _ (sym (text_is d n k) ∙ e ∙ text_is f i j)) in
    let third = number_apart n i _ _ space space no_digit_space no_digit_space (after (ascii "feedback ") _ _ lists.1) in
    let last = number_apart k j _ _ newline newline no_digit_newline no_digit_newline (after (ascii " delay ") _ _ third.1) in
    (lists.0, third.0, last.0)
