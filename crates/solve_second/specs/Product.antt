-- A polynomial times a flat block, and times a polynomial.
use Rattle.std.specs.Prelude.{ℕ, ◌*◌, ◌<◌, ◌≡◌, List, length, get_or}
use Rattle.solve_lattice.specs.Room.{product_words, block_words, lanes}
use Rattle.algebra.specs.Polynomial.{Polynomial, polynomials}
use Rattle.modular.specs.Prime.{Prime}
use Rattle.modular.specs.Residue.{residues}
use Rattle.vector.specs.Bound.{AtMost}
use Rattle.reduction.specs.Holds.{Holds}
use Rattle.reduction.specs.Flat.{Flat}
use Rattle.solve_lattice.specs.Word.{words}

-- f in its first n words, the block in its first m; the words of the product are sums that are not reduced
pub record BlockMultiplied (p : ℕ) (f : List ℕ) (n : ℕ) (block : List ℕ) (m : ℕ) (out : List ℕ) : Type 0 where
  pub room : length out ≡ product_words
  pub bound : AtMost (block_words * (p * p)) out
  pub holds : (prime : Prime p) (rows : ℕ) (ω : ℕ → ℕ) (x : Polynomial (residues p prime)) (v : ℕ → Polynomial (residues p prime))
      → Holds (residues p prime) (words p prime f 0 n) x → Flat (residues p prime) rows lanes ω (words p prime block 0 m) v
      → Flat (residues p prime) rows lanes ω (words p prime out 0 product_words) (λ i. (polynomials (residues p prime)).mul x (v i))

-- f in its first n words, g in its first m
pub record Multiplied (p : ℕ) (f : List ℕ) (n : ℕ) (g : List ℕ) (m : ℕ) (out : List ℕ) : Type 0 where
  pub room : length out ≡ block_words
  pub below : (i : ℕ) → get_or out i 0 < p
  pub holds : (prime : Prime p) (x y : Polynomial (residues p prime))
      → Holds (residues p prime) (words p prime f 0 n) x → Holds (residues p prime) (words p prime g 0 m) y
      → Holds (residues p prime) (words p prime out 0 block_words) ((polynomials (residues p prime)).mul x y)
