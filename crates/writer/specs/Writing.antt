-- What the writers do (document 01, "Turned back"): they take values, and "the first value at fault in written order decides, ...,
-- at the place its word would have; after these comes 11". Else the words are the written form, and the lent words behind it stay.
use Rattle.std.specs.Prelude.{ℕ, ◌≡◌, not, ◌&&◌, ◌||◌, List, length, ltb, Result}
use Rattle.modular.specs.LargestPrime.{largest_modulus}
use Rattle.modular.specs.Prime.{prime?}
use Rattle.words.specs.Limits.{Limits, longest_system, longest_certificate}
use Rattle.words.specs.Outcome.{Outcome, refuse, mapped}
use Rattle.words.specs.Outcome.Outcome.{accepted, refused}
use Rattle.words.specs.System.{Shape, one_to}
use Rattle.words.specs.Systems.{Systems, systems_entries, systems_words}
use Rattle.words.specs.Certificate.{Certificate, certificate_entries, certificate_words}
use Rattle.answers.specs.declared.answer.Refusal.{Refusal}
use Rattle.answers.specs.Answer.{counted_outcome}
use Rattle.write_frame.specs.Overwriting.{overwritten}
use Rattle.write_frame.specs.Trial.{refuse_polynomials}

-- "from a sheet's writer, for a number of right sides outside 1 to 8, place 0, tried first" (document 02, item 1)
abbrev pub refuse_sides : {A : Type 0} → Limits → ℕ → Outcome A → Outcome A
refuse_sides limits sides next = refuse (not (one_to limits.sides sides)) 1 0 next  -- 1

-- p, n and m: 2, then 3, at place 0
abbrev pub refuse_shape : {A : Type 0} → Limits → Shape → Outcome A → Outcome A
refuse_shape limits h next =
    refuse (not (prime? h.modulus) || ltb largest_modulus h.modulus) 2 0  -- 2: p not prime, or too large for the head word
    (refuse (not (one_to limits.rows h.rows && one_to limits.columns h.columns)) 3 0  -- 3: n or m outside 1 to 8
    next)

-- "fewer words lent than the longest card has, or, by a sheet's writer, than the longest sheet"
abbrev pub refuse_room : {A : Type 0} → ℕ → ℕ → Outcome A → Outcome A
refuse_room longest lent next = refuse (ltb lent longest) 11 0 next  -- 11

-- the words of a matrix with its right sides, A and then one right side after another, where so many words are lent
unfoldable pub write_systems : Limits → ℕ → Systems → Outcome (List ℕ)
unfolding refuse_polynomials systems_words
write_systems limits lent s =
    refuse_sides limits s.head.sides
    (refuse_shape limits s.head.shape
    (refuse_polynomials s.head.shape.modulus limits.system_coefficients 0 1 (systems_entries s)
    (refuse_room (longest_system limits) lent
    (accepted (systems_words s)))))

-- the words of a certificate for a system of that shape
unfoldable pub write_certificate : Limits → ℕ → Shape → Certificate → Outcome (List ℕ)
unfolding refuse_polynomials certificate_entries certificate_words
write_certificate limits lent h c =
    refuse_shape limits h
    (refuse_polynomials h.modulus limits.certificate_coefficients 20 1 (certificate_entries c)
    (refuse_room (longest_certificate limits) lent
    (accepted (certificate_words c))))

-- the lent words afterwards: on a refusal as they were
unfoldable pub lent_after : Outcome (List ℕ) → List ℕ → List ℕ
lent_after (accepted ws) lent = overwritten ws lent
lent_after (refused number place) lent = lent

-- a writer that is to give an outcome answers with it, and leaves the lent words so
pub record Writes (outcome : Outcome (List ℕ)) (entry : List ℕ) (answer : Result ℕ Refusal) (exit : List ℕ) : Type 0 where
  pub told : counted_outcome answer ≡ mapped length outcome
  pub lent : exit ≡ lent_after outcome entry
