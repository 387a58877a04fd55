-- What is expected of decimals: the digits' value is the number, none is written with a zero in front, and a text with these
-- properties is the decimal of its value. So a number has one decimal, and it can be read off it.
use Rattle.std.specs.Prelude.{ℕ, zero, suc, ◌+◌, ◌-◌, ◌*◌, ◌/◌, ◌%◌, ◌^◌, ◌≤◌, ◌<◌, ◌≡◌, refl, List, [], ◌∷◌, ◌++◌, length}
use Rattle.std.proofs.Common.{sym, ap, ap₂, ◌∙◌, append_assoc, append-nil, arith, pow-suc, length-append, lt-ltb, le-ltb}
use Rattle.std.proofs.Math.Decide.{dec_lt}
use Rattle.report_text.specs.Decimal.{digit, decimal_within, decimal}

-- ---- the two equations, in which no bound on the digits appears

-- one digit more at the end
abbrev followed : List ℕ → ℕ → List ℕ
followed text d = text ++ (digit d ∷ [])

within_one : (k n : ℕ) → n < 10 → decimal_within (suc k) n ≡ digit n ∷ []
within_one k n h = rw (lt-ltb n 10 h) (ap (λ d. digit d ∷ []) (omega arith))

within_more : (k n : ℕ) → 10 ≤ n → decimal_within (suc k) n ≡ followed (decimal_within k (n / 10)) (n % 10)
within_more k n h = rw (le-ltb n 10 h)

-- a greater bound changes nothing
within_enough : (k m n : ℕ) → n < k → n < m → decimal_within k n ≡ decimal_within m n
within_enough zero m n h g = absurd (omega arith)
within_enough (suc k) zero n h g = absurd (omega arith)
within_enough (suc k) (suc m) n h g = go (dec_lt n 10) (λ l. within_enough k m (n / 10) (omega arith) (omega arith))
  where
    go : Dec (n < 10) → (10 ≤ n → decimal_within k (n / 10) ≡ decimal_within m (n / 10))
        → decimal_within (suc k) n ≡ decimal_within (suc m) n
    go (yes l) ih = within_one k n l ∙ sym (within_one m n l)
    go (no l) ih = let g : 10 ≤ n = omega arith in
        within_more k n g ∙ ap (λ t. followed t (n % 10)) (ih g) ∙ sym (within_more m n g)

pub decimal_one : (n : ℕ) → n < 10 → decimal n ≡ digit n ∷ []
unfolding decimal
decimal_one n h = within_one n n h

pub decimal_more : (n : ℕ) → 10 ≤ n → decimal n ≡ decimal (n / 10) ++ (digit (n % 10) ∷ [])
unfolding decimal
decimal_more n h =
    within_more n n h ∙ ap (λ t. followed t (n % 10)) (within_enough n (suc (n / 10)) (n / 10) (omega arith) (omega arith))

-- induction along the digits
module _ (P : ℕ → Type 0) (one : (n : ℕ) → n < 10 → P n) (more : (n : ℕ) → 10 ≤ n → P (n / 10) → P n) where
  go : (most n : ℕ) → n < most → P n
  go zero n h = absurd (omega arith)
  go (suc most) n h = step (dec_lt n 10) (λ l. go most (n / 10) (omega arith))
    where
      step : Dec (n < 10) → (10 ≤ n → P (n / 10)) → P n
      step (yes l) ih = one n l
      step (no l) ih = more n (omega arith) (ih (omega arith))

  pub by_digits : (n : ℕ) → P n
  by_digits n = go (suc n) n (omega arith)

-- ---- the value

-- of the digits behind those whose value is n
abbrev pub decimal_value_from : ℕ → List ℕ → ℕ
decimal_value_from n [] = n
decimal_value_from n (c ∷ text) = decimal_value_from (n * 10 + (c - digit 0)) text

abbrev pub decimal_value : List ℕ → ℕ
decimal_value text = decimal_value_from 0 text

value_append : (n : ℕ) (s t : List ℕ) → decimal_value_from n (s ++ t) ≡ decimal_value_from (decimal_value_from n s) t
value_append n [] t = refl
value_append n (c ∷ s) t = value_append (n * 10 + (c - digit 0)) s t

pub value_decimal : (n : ℕ) → decimal_value (decimal n) ≡ n
value_decimal = by_digits (λ n. decimal_value (decimal n) ≡ n)
    (λ n h. ap decimal_value (decimal_one n h) ∙ omega arith)
    (λ n h ih. ap decimal_value (decimal_more n h) ∙ value_append 0 (decimal (n / 10)) (digit (n % 10) ∷ [])
    ∙ ap (λ q. q * 10 + (digit (n % 10) - digit 0)) ih ∙ omega arith)

-- ---- the form

-- a byte from `0` to `9`
abbrev pub Digit : ℕ → Type 0
Digit c = (digit 0 ≤ c) × (c ≤ digit 9)

abbrev pub Digits : List ℕ → Type 0
Digits [] = Unit {0}
Digits (c ∷ text) = Digit c × Digits text

-- one digit, or more of which the first is not 0
abbrev pub IsDecimal : List ℕ → Type 0
IsDecimal [] = ⊥
IsDecimal (c ∷ []) = Digit c
IsDecimal (c ∷ b ∷ text) = (digit 0 < c) × Digit c × Digits (b ∷ text)

form_append : (text : List ℕ) (c : ℕ) → IsDecimal text → 0 < decimal_value text → Digit c → IsDecimal (text ++ (c ∷ []))
form_append [] c h v d = absurd h
form_append (a ∷ []) c h v d = (omega arith, h, (d, tt))
form_append (a ∷ b ∷ text) c h v d = (h.0, h.1, digits_append (b ∷ text) h.2)
  where
    digits_append : (s : List ℕ) → Digits s → Digits (s ++ (c ∷ []))
    digits_append [] g = (d, tt)
    digits_append (x ∷ s) g = (g.0, digits_append s g.1)

pub decimal_form : (n : ℕ) → IsDecimal (decimal n)
decimal_form = by_digits (λ n. IsDecimal (decimal n))
    (λ n h. rw (decimal_one n h) (omega arith))
    (λ n h ih. rw (decimal_more n h)
    (form_append (decimal (n / 10)) (digit (n % 10)) ih (rw (value_decimal (n / 10)) (omega arith)) (omega arith)))

-- more digits behind a number that is not 0
decimal_append : (n : ℕ) (text : List ℕ) → 0 < n → Digits text → decimal (decimal_value_from n text) ≡ decimal n ++ text
decimal_append n [] h d = sym (append-nil (decimal n))
decimal_append n (c ∷ text) h d =
    let next : ℕ = n * 10 + (c - digit 0) in
    decimal_append next text (omega arith) d.1
    ∙ ap (λ t. t ++ text) (decimal_more next (omega arith)
    ∙ ap₂ (λ q e. decimal q ++ (e ∷ [])) (omega arith) (omega arith))
    ∙ append_assoc (decimal n) (c ∷ []) text

decimal_digit : (c : ℕ) → Digit c → decimal (decimal_value (c ∷ [])) ≡ c ∷ []
decimal_digit c h = decimal_one (decimal_value (c ∷ [])) (omega arith) ∙ ap (λ e. e ∷ []) (omega arith)

-- a number has no other decimal
pub decimal_value_lem : (text : List ℕ) → IsDecimal text → decimal (decimal_value text) ≡ text
decimal_value_lem [] h = absurd h
decimal_value_lem (c ∷ []) h = decimal_digit c h
decimal_value_lem (c ∷ b ∷ text) h =
    decimal_append (decimal_value (c ∷ [])) (b ∷ text) (omega arith) h.2 ∙ ap (λ t. t ++ (b ∷ text)) (decimal_digit c h.1)

-- ---- how long it is

pub decimal_length : (k n : ℕ) → n < 10 ^ suc k → length (decimal n) ≤ suc k
decimal_length zero n h = rw (decimal_one n h) (omega arith)
decimal_length (suc k) n h =
    let e = pow-suc 10 (suc k) in go (dec_lt n 10) (decimal_length k (n / 10) (omega arith))
  where
    go : Dec (n < 10) → length (decimal (n / 10)) ≤ suc k → length (decimal n) ≤ suc (suc k)
    go (yes l) ih = rw (decimal_one n l) (omega arith)
    go (no l) ih = rw (decimal_more n (omega arith), length-append) (omega arith)
