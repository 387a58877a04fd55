-- Multiples of a kernel taken off words until what is left is shorter: the remainder modulo the kernel, in sums not reduced.
use Rattle.std.specs.Prelude.{ℕ, ◌+◌, ◌-◌, ◌*◌, ◌<◌, ◌≡◌, List, length, get_or}
use Rattle.algebra.specs.Polynomial.{Polynomial}
use Rattle.modular.specs.Prime.{Prime}
use Rattle.modular.specs.Residue.{residues}
use Rattle.vector.specs.Bound.{AtMost}
use Rattle.reduction.specs.Holds.{Holds}
use Rattle.solve_lattice.specs.Room.{block_words, slot_words, tail_words}
use Rattle.solve_lattice.specs.Memory.{ZeroFrom, Ends}
use Rattle.solve_lattice.specs.Word.{words}
use Rattle.solve_descent.specs.Product.{less}

-- the kernel in a block, of which `size` words count
pub record ValidKernel (p : ℕ) (kernel : List ℕ) (size : ℕ) : Type 0 where
  pub ends : Ends p kernel 0 block_words size
  pub below : (i : ℕ) → get_or kernel i 0 < p

-- x less some multiple of u
pub record Lessened (p : ℕ) (prime : Prime p) (x u : Polynomial (residues p prime)) (y : List ℕ) : Type 0 where
  pub multiple : Polynomial (residues p prime)
  pub holds : Holds (residues p prime) (words p prime y 0 tail_words) (less p prime x multiple u)

pub record TakesKernel (p : ℕ) (y kernel : List ℕ) (size : ℕ) (y' : List ℕ) : Type 0 where
  pub same_length : length y' ≡ length y
  pub bound : (b : ℕ) → AtMost b y → AtMost (b + slot_words * (p * p)) y'
  pub short : 0 < size → ZeroFrom p y' 0 tail_words (size - 1)
  pub holds : (prime : Prime p) (x u : Polynomial (residues p prime)) → Holds (residues p prime) (words p prime y 0 tail_words) x
      → Holds (residues p prime) (words p prime kernel 0 block_words) u → Lessened p prime x u y'
