-- `descend_column`: the coordinate that is found and the column that is taken off are a `Turn` of `reduction`; by L6 the coordinate
-- is short.
use Prim.Native.Nat.{ℕ, suc, ◌-◌, ◌*◌, ◌<◌, ◌≤◌}
use mathlib.Core.Path.{◌≡◌, sym, ◌∙◌, ap, subst}
use mathlib.Core.List.{List}
use native.Mathlib.Omega.{arith}
use native.Mathlib.Decide.{ℕ_discrete}
use lib.ListN.{get_or}
use Rattle.algebra.specs.Polynomial.{Polynomial, polynomials}
use Rattle.algebra.specs.Sized.{size_neg_equal}
use Rattle.algebra.specs.Size.{size, sized, coefficients_beyond}
use Rattle.modular.specs.Prime.{Prime}
use Rattle.modular.specs.Residue.{residues}
use Rattle.vector.specs.Stored.{stored_outside}
use Rattle.reduction.specs.Replace.{replace, replace_here, replace_other}
use Rattle.reduction.specs.Slots.{unweighted}
use Rattle.reduction.specs.Descent.{Descent, Turn, descent_turn, descent_room}
use Rattle.reduction.specs.Holds.{holds_size, holds_size_exact}
use Rattle.reduction.specs.Flat.{Flat}
use Rattle.solve_lattice.specs.Memory.{Level, ZeroFrom}
use Rattle.solve_lattice.specs.Word.{words}
use Rattle.solve_lattice.specs.Range.{words_zero, zero_word}
use Rattle.solve_lattice.specs.Room.{product_words, block_words, tail_words, lanes, most_coefficients}
use Rattle.solve_descent.specs.Product.{less}
use Rattle.solve_descent.specs.Kernel.{ValidKernel}
use Rattle.solve_descent.specs.Coordinate.{Coordinate, FindsCoordinate}
use Rattle.solve_descent.specs.Blocks.{CombinesBlocks}
use Rattle.solve_descent.specs.Column.{HoldsRest, TakesColumn}
use Rattle.solve_descent.specs.Turn.{HoldsDescent, HoldsTurn, Turned}
use Rattle.solve_descent.proofs.Columns.{stored_length, stored_below}

module _ {p : ℕ} (L : Level) {n : ℕ} {kernel : List ℕ} {size₀ : ℕ} {columns : List ℕ} {at : ℕ}
    {quotients cleared coordinates : List ℕ} {place : ℕ} {t : List ℕ}
    {t' coordinates' : List ℕ} {y : List ℕ} (valid : ValidKernel p kernel size₀)
    (X : FindsCoordinate p L n kernel size₀ quotients y) (Z : CombinesBlocks p L n quotients cleared t)
    (Y : TakesColumn p t coordinates place y columns at t' coordinates') where
  module _ (prime : Prime p) (A : HoldsDescent p prime L kernel columns at quotients) (rows : A.system.rows ≡ n) where
    C : Coordinate p prime A.system.rows (A.level (suc A.column)) A.vector (A.kernel A.column) y
    C = (subst (λ m. FindsCoordinate p L m kernel size₀ quotients y) (sym rows) X).finds prime unweighted
        (A.level (suc A.column)) A.vector (A.kernel A.column) A.holds_slots A.coefficients A.holds_kernel

    -- t has room for the vector (L6)
    held : Flat (residues p prime) A.system.rows lanes unweighted (words p prime t 0 product_words) A.vector
    held = (subst (λ m. CombinesBlocks p L m quotients cleared t) (sym rows) Z).holds prime (A.level (suc A.column)) A.vector
        A.holds_slots A.coefficients
        (λ i h. omega (
          arith,
          descent_room A.system A.level A.kernel A.levels A.inside A.descent i h,
          A.small,
          A.low,
        ))

    abbrev x : Polynomial (residues p prime)
    x = less p prime C.tails C.multiple (A.kernel A.column)

    abbrev N : ℕ → Polynomial (residues p prime)
    N = replace A.coordinates A.column x

    abbrev rest : ℕ → Polynomial (residues p prime)
    rest i = less p prime (A.vector i) x (A.system.matrix i A.column)

    here : N A.column ≡ x
    here = replace_here A.coordinates A.column x

    -- x is shorter than the kernel, if there is one
    shorter : 0 < size (residues p prime) (A.kernel A.column) → Dec (size₀ ≡ 0)
        → size (residues p prime) (N A.column) < size (residues p prime) (A.kernel A.column)
    shorter some (yes none) = absurd (omega (
      arith,
      holds_size (residues p prime) A.holds_kernel 0
          (λ j le. words_zero p prime kernel 0 block_words size₀ valid.ends.behind j (omega arith)),
    ))
    shorter some (no filled) = omega (
      arith,
      ap (size (residues p prime)) here,
      size_neg_equal (sized (residues p prime)) x,
      holds_size (residues p prime) C.holds (size₀ - 1)
          (λ j le. words_zero p prime y 0 tail_words (size₀ - 1) (X.short (omega arith)) j le),
      holds_size_exact (residues p prime) A.holds_kernel (size₀ - 1) nonzero
          (λ j lt. words_zero p prime kernel 0 block_words size₀ valid.ends.behind j (omega arith)),
    )
      where
        nonzero : ¬ (words p prime kernel 0 block_words (size₀ - 1) ≡ (residues p prime).ring.zero)
        nonzero e = omega (
          arith,
          valid.ends.last (omega arith),
          zero_word p prime kernel 0 block_words (size₀ - 1) (omega (arith, valid.ends.within)) e,
        )

    T : Turn A.system A.level A.kernel A.column A.vector A.coordinates rest N
    T = record {
      tails = C.tails;
      span = C.span;
      multiple = C.multiple;
      coordinate = here;
      reduced = λ some. shorter some (ℕ_discrete size₀ 0);
      others = λ k above within. replace_other A.coordinates A.column x k (λ e. omega arith);
      rest = λ i h. ap (λ z. less p prime (A.vector i) z (A.system.matrix i A.column)) (sym here);
    }

    D : Descent A.system A.level A.kernel A.whole A.column rest N
    D = descent_turn A.system A.level A.kernel A.levels A.whole A.column A.inside T A.descent

    -- L6: the coordinate has room
    short : size (residues p prime) ((polynomials (residues p prime)).neg x) ≤ most_coefficients
    short = omega (
      arith,
      D.small A.column (omega arith) A.inside,
      A.small,
      ap (size (residues p prime)) here,
      size_neg_equal (sized (residues p prime)) x,
    )

    zero : ZeroFrom p y 0 tail_words most_coefficients
    zero j ge lt = zero_word p prime y 0 tail_words j lt
        (sym (C.holds.at j) ∙ coefficients_beyond (residues p prime) ((polynomials (residues p prime)).neg x) j
        (omega (arith, short)))

    R : HoldsRest p prime A.system.rows unweighted A.vector (λ i. A.system.matrix i A.column) x coordinates' place t'
    R = Y.holds zero prime A.system.rows unweighted A.vector (λ i. A.system.matrix i A.column) x held
        A.holds_column C.holds

    turned : HoldsTurn p prime A coordinates' place t'
    turned = record {
      coordinate = x;
      vector = rest;
      turn = T;
      descent = D;
      holds_coordinate = R.coordinate;
      holds_vector = R.rest;
    }

  pub turn_made : Prime p → ((i : ℕ) → get_or coordinates i 0 < p)
      → Turned p L n kernel columns at quotients coordinates place t' cleared coordinates'
  turn_made prime₀ below = record {
    same_length = Y.length_is;
    sums = λ i. omega (arith, Y.bound (product_words * (p * p)) Z.bound i);
    cleared = Z.cleared;
    same_coordinates = stored_length prime₀ coordinates coordinates' place y block_words Y.stores Y.room;
    coordinates_below = stored_below prime₀ coordinates coordinates' place y block_words Y.stores Y.room (λ i out. below i);
    others = λ i out. ap (λ l. get_or l i 0) Y.stores ∙ stored_outside _ coordinates place block_words i out;
    holds = turned;
  }
