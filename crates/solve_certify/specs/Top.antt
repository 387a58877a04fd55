-- At the top, with all columns done: the last level is the one in memory, and the way down starts with the coefficients of d·b.
use Rattle.std.specs.Prelude.{ℕ, ◌≡◌, refl, Bool, List}
use Rattle.std.proofs.Common.{sym, subst, arith}
use Rattle.std.proofs.Math.Bool.{true, false}
use Rattle.algebra.specs.Polynomial.{Polynomial, polynomials}
use Rattle.modular.specs.Prime.{Prime}
use Rattle.modular.specs.Residue.{residues}
use Rattle.reduction.specs.Slots.{blocks_sym}
use Rattle.reduction.specs.Levels as reduction
use Rattle.reduction.specs.Levels.{Levels, level_of, level_blocks}
use Rattle.reduction.specs.Polynomials.{euclidean}
use Rattle.reduction.specs.Unfinished.{Unfinished, unfinished_blocks}
use Rattle.reduction.specs.Descent.{Descent, descent_start}
use Rattle.solve_lattice.specs.Memory.{Level}
use Rattle.solve_lattice.specs.Coefficients.{coefficients_blocks}
use Rattle.solve_certify.specs.Witnessed.{HoldsLast, HasLast, HoldsUnfinished, HoldsWitness, Witnessed}
use Rattle.solve_lattice.specs.Input.{Equations, input_system}
use Rattle.solve_certify.specs.Ascended.{HoldsLevels, HasLevels, HoldsDescended, HoldsAscended, Ascended}

module _ {p n m j : ℕ} (top : j ≡ m) {input : List ℕ} {L : Level} where
  module _ (prime : Prime p) {X : Equations p prime n m} (H : HoldsLevels p prime n m X j input L) where
    abbrev last : HoldsLast p prime n m X input L
    last = record {
      system = H.system;
      slots = H.slots;
      holds = H.holds;
      last = level_blocks (input_system p prime n m X) (blocks_sym H.blocks)
          (subst (λ k. reduction.LevelKnown (input_system p prime n m X) k (H.level j)) top
          (level_of (input_system p prime n m X) H.levels j (omega arith)));
    }

    module _ {quotients output : List ℕ} (W : HoldsUnfinished p prime n m X H.slots quotients output) where
      abbrev vector : ℕ → Polynomial (residues p prime)
      vector k = (polynomials (residues p prime)).mul W.d (X.side k)

      none : ℕ → Polynomial (residues p prime)
      none k = (polynomials (residues p prime)).zero

      done : Unfinished (euclidean (residues p prime)) (input_system p prime n m X) (H.level m) W.d W.w W.Z
      done = subst (λ k. Unfinished (euclidean (residues p prime)) (input_system p prime n m X) (H.level k) W.d W.w W.Z)
          top (unfinished_blocks (euclidean (residues p prime)) (input_system p prime n m X) H.blocks W.unfinished)

      descended_top : HoldsDescended p prime n m H quotients output
      descended_top = record {
        level = H.level;
        kernel = H.kernel;
        levels = subst (Levels (input_system p prime n m X) H.level H.kernel) top H.levels;
        same_level = λ k h. refl;
        same_kernel = λ k h. refl;
        d = W.d;
        w = W.w;
        Z = W.Z;
        unfinished = done;
        vector = vector;
        N = none;
        descent = subst (λ k. Descent (input_system p prime n m X) H.level H.kernel vector k vector none) (sym top)
            (descent_start (input_system p prime n m X) H.level H.kernel vector none done.span done.vector_small);
        holds_d = W.holds_d;
        holds_N = λ k h lt. absurd (omega arith);
        holds_w = W.holds_w;
        holds_Z = W.holds_Z;
        coefficients = coefficients_blocks prime H.blocks W.coefficients;
      }

  pub has_last : HasLevels p n m j input L → HasLast p n m input L
  has_last has = record { prime = has.prime; equations = has.equations; last = last has.prime has.levels }

  pub ascended_top : {quotients output : List ℕ} {solved : Bool} → Witnessed p n m input L quotients output solved
      → Ascended p n m j input L quotients output solved
  unfolding HoldsWitness HoldsAscended
  ascended_top {quotients} {output} {solved} W = record {
    below = W.below;
    valid = W.valid;
    holds = λ prime X H. held solved prime X H (W.holds prime X (last prime H));
  }
    where
      held : (solved : Bool) (prime : Prime p) (X : Equations p prime n m) (H : HoldsLevels p prime n m X j input L)
          → HoldsWitness p prime n m solved X H.slots quotients output → HoldsAscended p prime n m solved X H quotients output
      held true prime X H W = descended_top prime H W
      held false prime X H W = W
