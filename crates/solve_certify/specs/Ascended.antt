-- The columns from j on: their levels are built, the right side is inserted into the last one, and the way down has come back to j.
use Rattle.std.specs.Prelude.{ℕ, ◌+◌, ◌<◌, ◌≤◌, ◌≡◌, Bool, true, false, List, get_or}
use Rattle.algebra.specs.Polynomial.{Polynomial, polynomials}
use Rattle.modular.specs.Prime.{Prime}
use Rattle.modular.specs.Residue.{residues}
use Rattle.reduction.specs.Slots.{Slots, SameBlocks, unweighted}
use Rattle.reduction.specs.Polynomials.{euclidean}
use Rattle.reduction.specs.Levels.{Levels}
use Rattle.reduction.specs.Descent.{Descent}
use Rattle.reduction.specs.Unfinished.{Unfinished}
use Rattle.solve_lattice.specs.Memory.{Level}
use Rattle.solve_lattice.specs.Holding.{HoldsSlots}
use Rattle.solve_lattice.specs.Coefficients.{HoldsCoefficients}
use Rattle.solve_lattice.specs.Input.{Equations, input_system, HoldsSystem}
use Rattle.solve_lattice.specs.Output.{ValidOutput, HoldsAt, HoldsAbsence}

module _ (p : ℕ) (prime : Prime p) (n m : ℕ) where
  -- levels 0 to j of a system, the last of them in memory
  pub record HoldsLevels (X : Equations p prime n m) (j : ℕ) (input : List ℕ) (L : Level) : Type 0 where
    pub system : HoldsSystem p prime n m X input
    pub level : ℕ → Slots (Polynomial (residues p prime))
    pub kernel : ℕ → Polynomial (residues p prime)
    pub levels : Levels (input_system p prime n m X) level kernel j
    -- memory has the blocks of level j, with whatever tails
    pub slots : Slots (Polynomial (residues p prime))
    pub holds : HoldsSlots p prime n unweighted L slots
    pub blocks : SameBlocks n slots (level j)

  -- a solution certificate but for the numerators of the columns before j, and what is left of d·b for these, as coefficients of
  -- the blocks of level j
  pub record HoldsDescended {X : Equations p prime n m} {j : ℕ} {input : List ℕ} {L : Level} (H : HoldsLevels X j input L)
      (quotients output : List ℕ) : Type 0 where
    pub level : ℕ → Slots (Polynomial (residues p prime))
    pub kernel : ℕ → Polynomial (residues p prime)
    pub levels : Levels (input_system p prime n m X) level kernel m
    -- they begin as H's
    pub same_level : (k : ℕ) → k ≤ j → level k ≡ H.level k
    pub same_kernel : (k : ℕ) → k < j → kernel k ≡ H.kernel k
    pub d : Polynomial (residues p prime)
    pub w : Polynomial (residues p prime)
    pub Z : ℕ → Polynomial (residues p prime)
    pub unfinished : Unfinished (euclidean (residues p prime)) (input_system p prime n m X) (level m) d w Z
    pub vector : ℕ → Polynomial (residues p prime)
    pub N : ℕ → Polynomial (residues p prime)
    pub descent : Descent (input_system p prime n m X) level kernel (λ k. (polynomials (residues p prime)).mul d (X.side k)) j
        vector N
    pub holds_d : HoldsAt p prime output 0 d
    pub holds_N : (k : ℕ) → j ≤ k → k < m → HoldsAt p prime output (1 + k) (N k)
    pub holds_w : HoldsAt p prime output (1 + m) w
    pub holds_Z : (i : ℕ) → i < n → HoldsAt p prime output (2 + m + i) (Z i)
    pub coefficients : HoldsCoefficients p prime n (level j) vector quotients

  -- whether there is a solution
  unfoldable pub HoldsAscended : Bool → (X : Equations p prime n m) {j : ℕ} {input : List ℕ} {L : Level} → HoldsLevels X j input L
      → List ℕ → List ℕ → Type 0
  HoldsAscended true X H quotients output = HoldsDescended H quotients output
  HoldsAscended false X H quotients output = HoldsAbsence p prime (input_system p prime n m X) output

-- some system has this level
pub record HasLevels (p n m j : ℕ) (input : List ℕ) (L : Level) : Type 0 where
  pub prime : Prime p
  pub equations : Equations p prime n m
  pub levels : HoldsLevels p prime n m equations j input L

pub record Ascended (p n m j : ℕ) (input : List ℕ) (L : Level) (quotients output : List ℕ) (solved : Bool) : Type 0 where
  pub below : (i : ℕ) → get_or quotients i 0 < p
  pub valid : ValidOutput p output
  pub holds : (prime : Prime p) (X : Equations p prime n m) (H : HoldsLevels p prime n m X j input L)
      → HoldsAscended p prime n m solved X H quotients output
