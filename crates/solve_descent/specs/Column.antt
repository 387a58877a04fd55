-- A coordinate stored, and the coordinate times its column taken off a block: what the words then hold.
use Rattle.std.specs.Prelude.{ℕ, ◌+◌, ◌*◌, ◌%◌, ◌≤◌, ◌≡◌, List, length, get_or}
use Rattle.algebra.specs.Polynomial.{Polynomial, polynomials}
use Rattle.modular.specs.Prime.{Prime}
use Rattle.modular.specs.Modulo.{modulo}
use Rattle.modular.specs.Residue.{residues}
use Rattle.vector.specs.Bound.{AtMost}
use Rattle.vector.specs.Stored.{stored}
use Rattle.reduction.specs.Holds.{Holds}
use Rattle.reduction.specs.Flat.{Flat}
use Rattle.solve_lattice.specs.Memory.{ZeroFrom}
use Rattle.solve_lattice.specs.Word.{words}
use Rattle.solve_lattice.specs.Room.{product_words, block_words, tail_words, lanes, most_coefficients}
use Rattle.solve_descent.specs.Product.{less}

module _ (p : ℕ) (prime : Prime p) (n : ℕ) (ω : ℕ → ℕ) where
  -- the coordinate x is stored in h from a on, and v - x·u is in t
  pub record HoldsRest (v u : ℕ → Polynomial (residues p prime)) (x : Polynomial (residues p prime)) (h : List ℕ) (a : ℕ)
      (t : List ℕ)
      : Type 0 where
    pub coordinate : Holds (residues p prime) (words p prime h a block_words) x
    pub rest : Flat (residues p prime) n lanes ω (words p prime t 0 product_words) (λ i. less p prime (v i) x (u i))

-- What it holds is said for a coordinate of at most 121 coefficients, whose negative is in y.
pub record TakesColumn (p : ℕ) (t h : List ℕ) (a : ℕ) (y columns : List ℕ) (at : ℕ) (t' h' : List ℕ) : Type 0 where
  pub length_is : length t' ≡ product_words
  pub room : a + block_words ≤ length h
  pub bound : (b : ℕ) → AtMost b t → AtMost (b + most_coefficients * (p * p)) t'
  pub stores : h' ≡ stored (λ j. (modulo p).neg (get_or y j 0 % p)) h a block_words
  pub holds : ZeroFrom p y 0 tail_words most_coefficients → (prime : Prime p) (n : ℕ) (ω : ℕ → ℕ) (v u : ℕ
      → Polynomial (residues p prime))
      (x : Polynomial (residues p prime)) → Flat (residues p prime) n lanes ω (words p prime t 0 product_words) v
      → Flat (residues p prime) n lanes ω (words p prime columns at block_words) u
      → Holds (residues p prime) (words p prime y 0 tail_words) ((polynomials (residues p prime)).neg x)
      → HoldsRest p prime n ω v u x h' a t'
