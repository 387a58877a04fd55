-- Polynomials in words that have no sizes beside them, as the solver leaves a certificate: of each so many words count at most as a
-- certificate's polynomial may have coefficients, and zeros at the end do not.
use Rattle.std.specs.Prelude.{ℕ, zero, suc, ◌+◌, ◌*◌, ◌<◌, ◌≡◌, List, [], ◌∷◌, get_or}
use Rattle.words.specs.Limits.{office}
use Rattle.write_frame.specs.Values.{numbers_from}
use Rattle.writer.specs.Values.{certificate_stride}

-- n words if the last of them is not 0, else those before it that count
abbrev pub up_to : ℕ → ℕ → ℕ → ℕ
up_to zero n before = before
up_to (suc last) n before = n

-- how many of n words from a place on count
unfoldable pub size_from : List ℕ → ℕ → ℕ → ℕ
size_from words at zero = 0
size_from words at (suc n) = up_to (get_or words (at + n) 0) (suc n) (size_from words at n)

-- the number of the coefficients of polynomial k
abbrev pub size_in : List ℕ → ℕ → ℕ
size_in words k = size_from words (certificate_stride * k) office.certificate_coefficients

-- of the first so many polynomials
abbrev pub SizesTaken : List ℕ → List ℕ → ℕ → Type 0
SizesTaken words sizes count = (k : ℕ) → k < count → get_or sizes k 0 ≡ size_in words k

abbrev pub polynomial_of : List ℕ → ℕ → List ℕ
polynomial_of words k = numbers_from words (certificate_stride * k) (size_in words k)

-- so many polynomials from number k on
unfoldable pub polynomials_of : List ℕ → ℕ → ℕ → List (List ℕ)
unfolding size_from numbers_from
polynomials_of words k zero = []
polynomials_of words k (suc count) = polynomial_of words k ∷ polynomials_of words (k + 1) count
