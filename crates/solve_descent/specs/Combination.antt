-- Products of quotients and slots taken off words in lanes: minus the sum of quotient times slot, over the slots of the first n
-- rows.
use Rattle.std.specs.Prelude.{ℕ, ◌+◌, ◌-◌, ◌*◌, ◌<◌, ◌≡◌, List, length}
use Rattle.ring.specs.Sum.{sum}
use Rattle.algebra.specs.Polynomial.{Polynomial, polynomials}
use Rattle.modular.specs.Prime.{Prime}
use Rattle.modular.specs.Residue.{residues}
use Rattle.vector.specs.Bound.{AtMost}
use Rattle.reduction.specs.Holds.{Holds, read}
use Rattle.reduction.specs.Flat.{flat}
use Rattle.solve_lattice.specs.Word.{words}
use Rattle.solve_lattice.specs.Room.{block_words, lanes, last_lane, product_degrees}
use Rattle.solve_descent.specs.Product.{strided}

-- x less the sum of the products of c and u
abbrev pub less_all : (p : ℕ) (prime : Prime p) → ℕ → Polynomial (residues p prime) → (ℕ → Polynomial (residues p prime))
    → (ℕ → Polynomial (residues p prime)) → Polynomial (residues p prime)
less_all p prime n x c u = (polynomials (residues p prime)).add x ((polynomials (residues p prime)).neg
    (sum (polynomials (residues p prime)) n (λ q. (polynomials (residues p prime)).mul (c q) (u q))))

-- the first k coefficients of the quotient by slot q
abbrev pub first_quotient : (p : ℕ) (prime : Prime p) → List ℕ → ℕ → ℕ → Polynomial (residues p prime)
first_quotient p prime quotients k q = read (residues p prime) k (strided p prime quotients (last_lane - q) lanes)

-- Lane i of w lanes, in the first N words of y. Of the quotient by slot q so many terms count; the slot has 128 words from `at q`
-- on.
pub record TakesCombination (p w N : ℕ) (quotients : List ℕ) (terms : ℕ → ℕ) (slots : List ℕ) (at : ℕ → ℕ) (n : ℕ) (y y' : List ℕ)
    : Type 0 where
  pub same_length : length y' ≡ length y
  pub bound : (b : ℕ) → AtMost b y → AtMost (b + n * (product_degrees * (p * p))) y'
  pub holds : (prime : Prime p) (i : ℕ) → i < w → (x : Polynomial (residues p prime)) (u : ℕ → Polynomial (residues p prime))
      → ((q : ℕ) → q < n → Holds (residues p prime) (λ e. words p prime slots (at q) block_words (flat w i e)) (u q))
      → Holds (residues p prime) (λ e. words p prime y 0 N (flat w i e)) x
      → Holds (residues p prime) (λ e. words p prime y' 0 N (flat w i e))
      (less_all p prime n x (λ q. first_quotient p prime quotients (terms q) q) u)
