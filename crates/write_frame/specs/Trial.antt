-- Polynomials tried one after another (document 01, "Turned back"): "the first value at fault in written order decides, ..., at the
-- place its word would have".
use Rattle.std.specs.Prelude.{ℕ, ◌+◌, Bool, true, false, ◌&&◌, List, [], ◌∷◌, length, eqb, leb, ltb}
use Rattle.words.specs.Outcome.{Outcome, refuse}
use Rattle.words.specs.Outcome.Outcome.{accepted}

-- nothing refused: what a trial by itself gives
abbrev pub passed : Outcome (Unit {0})
passed = accepted tt

-- whether no coefficient follows
abbrev pub last? : List ℕ → Bool
last? [] = true
last? (a ∷ f) = false

-- the coefficients of a polynomial, the first of whose words would stand at a place; numbers greater by so many for a certificate
unfoldable pub refuse_coefficients : {A : Type 0} → ℕ → ℕ → ℕ → List ℕ → Outcome A → Outcome A
refuse_coefficients p by place [] next = next
refuse_coefficients p by place (a ∷ f) next =
    refuse (leb p a) (7 + by) place  -- 7: coefficient p or more
    (refuse (last? f && eqb a 0) (8 + by) place  -- 8: last coefficient 0
    (refuse_coefficients p by (place + 1) f next))

-- polynomials in written order, the first of whose words would stand at a place
unfoldable pub refuse_polynomials : {A : Type 0} → ℕ → ℕ → ℕ → ℕ → List (List ℕ) → Outcome A → Outcome A
unfolding refuse_coefficients
refuse_polynomials p limit by place [] next = next
refuse_polynomials p limit by place (f ∷ fs) next =
    refuse (ltb limit (length f)) (6 + by) place  -- 6: more than 16 coefficients (26: 121)
    (refuse_coefficients p by (place + 1) f
    (refuse_polynomials p limit by (place + 1 + length f) fs next))
