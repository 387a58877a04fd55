-- The equations over the residues modulo p that a system's lists stand for: as `reduction` takes them, under any limits, and as the
-- solver's contracts take them, under the office's.
use Rattle.std.specs.Prelude.{ℕ, suc, ◌-◌, ◌<◌, ◌≤◌, ◌≡◌, length}
use Rattle.std.proofs.Common.{ap, arith}
use Rattle.algebra.specs.Polynomial.{Polynomial}
use Rattle.algebra.specs.Size.{size, sized}
use Rattle.modular.specs.Prime.{Prime}
use Rattle.modular.specs.Residue.{residues}
use Rattle.modular.specs.Values.{to_residues, to_residues_list}
use Rattle.reduction.specs.System.{LinearSystem}
use Rattle.words.specs.Limits.{Limits, office}
use Rattle.words.specs.System.{System, SystemWithin, entry, side_entry}
use Rattle.words.specs.SystemLaws.{entry_within, side_entry_within}
use Rattle.solve_lattice.specs.Input.{Equations}
use Rattle.solve_meaning.specs.Lists.{list_of, list_length}

-- "degree at most": one less than the greatest number of coefficients
abbrev pub system_degree : Limits → ℕ
system_degree limits = limits.system_coefficients - 1

module _ (limits : Limits) (s : System) (h : SystemWithin limits s) where
  abbrev p : ℕ
  p = s.modulus

  abbrev prime : Prime s.modulus
  prime = h.shape.prime

  pub matrix : ℕ → ℕ → Polynomial (residues s.modulus h.shape.prime)
  matrix i j = to_residues p prime (entry s i j, (entry_within limits s h i j).canonical)

  pub side : ℕ → Polynomial (residues s.modulus h.shape.prime)
  side i = to_residues p prime (side_entry s i, (side_entry_within limits s h i).canonical)

  -- their lists are the system's
  pub matrix_list : (i j : ℕ) → list_of s.modulus h.shape.prime (matrix i j) ≡ entry s i j
  unfolding matrix
  matrix_list i j = to_residues_list p prime (entry s i j, (entry_within limits s h i j).canonical)

  pub side_list : (i : ℕ) → list_of s.modulus h.shape.prime (side i) ≡ side_entry s i
  unfolding side
  side_list i = to_residues_list p prime (side_entry s i, (side_entry_within limits s h i).canonical)

  pub matrix_small : (i j : ℕ) → i < s.rows → j < s.columns
      → size (residues s.modulus h.shape.prime) (matrix i j) ≤ suc (system_degree limits)
  matrix_small i j k l =
      omega (arith, list_length p prime (matrix i j), ap length (matrix_list i j), (entry_within limits s h i j).size)

  pub side_small : (i : ℕ) → i < s.rows
      → size (residues s.modulus h.shape.prime) (side i) ≤ suc (system_degree limits)
  side_small i k = omega (arith, list_length p prime (side i), ap length (side_list i), (side_entry_within limits s h i).size)

  -- as `reduction` takes them
  abbrev pub equated : LinearSystem (sized (residues s.modulus h.shape.prime))
  equated = record {
    rows = s.rows;
    columns = s.columns;
    degree = system_degree limits;
    matrix = matrix;
    side = side;
    matrix_small = matrix_small;
    side_small = side_small;
  }

-- as the solver's contracts take them: there `equated` is `input_system` by definition
module _ (s : System) (h : SystemWithin office s) where
  abbrev pub office_equations : Equations s.modulus h.shape.prime s.rows s.columns
  office_equations = record {
    matrix = matrix office s h;
    side = side office s h;
    matrix_small = matrix_small office s h;
    side_small = side_small office s h;
  }
