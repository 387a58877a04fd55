-- What the timed exports give: one step after another, where the words are there and small enough.
use Rattle.std.specs.Prelude.{Bool, true, ◌&&◌, cond, List, [], ◌∷◌, ℕ, zero, suc, length, get_or, ltb, leb}
use Rattle.modular.specs.Bits.{most16, most32}
use Rattle.vector.specs.Stored.{stored}
use Rattle.vector.specs.Multiple.{sum_at}

unfoldable pub all_at_most : ℕ → List ℕ → Bool
all_at_most limit [] = true
all_at_most limit (x ∷ l) = leb x limit && all_at_most limit l

-- there are fewer factors than this
abbrev pub factors_bound : ℕ
factors_bound = 2147483648

-- fewer than 2^31 products below 2^32, added to words below 2^32, fit 64 bits
unfoldable pub small : List ℕ → List ℕ → List ℕ → Bool
unfolding all_at_most
small h s factors = all_at_most most16 factors && (all_at_most most16 s && all_at_most most32 h)

-- a count for each factor, none of more words than there are
unfoldable pub fit : List ℕ → List ℕ → List ℕ → List ℕ → Bool
unfolding small
fit h s factors counts =
    leb (length s) (length h)
    && (leb (length factors) (length counts)
    && (ltb (length factors) factors_bound && (all_at_most (length s) counts && small h s factors)))

-- how many steps are made: all or none
unfoldable pub allowed : List ℕ → List ℕ → List ℕ → List ℕ → ℕ
unfolding fit
allowed h s factors counts = cond (fit h s factors counts) (length factors) 0

-- the first t steps: each adds a factor times as many words of s as its count says
unfoldable pub rounds : ℕ → List ℕ → List ℕ → List ℕ → List ℕ → List ℕ
rounds zero factors counts s h = h
rounds (suc t) factors counts s h =
    stored
    (sum_at (rounds t factors counts s h) 0 s 0 (get_or factors t 0))
    (rounds t factors counts s h)
    0
    (get_or counts t 0)
