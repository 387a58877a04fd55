-- At the bottom, with all columns undone: nothing is left of d·b, so the numerators solve the system.
use Rattle.std.specs.Prelude.{ℕ, ◌≤◌, Bool, List}
use Rattle.std.proofs.Math.Bool.{true, false}
use Rattle.std.proofs.Common.{arith}
use Rattle.algebra.specs.Polynomial.{polynomials}
use Rattle.modular.specs.Prime.{Prime}
use Rattle.modular.specs.Residue.{residues}
use Rattle.vector.specs.Bound.{AtMost}
use Rattle.reduction.specs.Total.{rank_le}
use Rattle.reduction.specs.Polynomials.{euclidean}
use Rattle.reduction.specs.Certificate.{small_solution_le}
use Rattle.reduction.specs.Descent.{descent_end}
use Rattle.reduction.specs.Reduced.{descent_reduced}
use Rattle.solve_lattice.specs.Memory.{Level}
use Rattle.solve_lattice.specs.Input.{Equations, input_system}
use Rattle.solve_lattice.specs.Output.{HoldsSolution, HoldsCertificate}
use Rattle.solve_certify.specs.Ascended.{HoldsLevels, HoldsDescended, HoldsAscended, Ascended}
use Rattle.solve_certify.specs.Certifies.{Certifies}
use Rattle.solve_certify.specs.Empty.{empty_levels}
use Rattle.solve_lattice.specs.Room.{lanes}

module _ {p n m : ℕ} (few : n ≤ lanes) {input : List ℕ} {L : Level} (quotients output : List ℕ) where
  module _ (prime : Prime p) {X : Equations p prime n m} (H : HoldsLevels p prime n m X 0 input L) where
    solution : HoldsDescended p prime n m H quotients output → HoldsSolution p prime (input_system p prime n m X) output
    solution D = record {
      d = D.d;
      N = D.N;
      w = D.w;
      Z = D.Z;
      right = D.unfinished.right D.N (descent_end (input_system p prime n m X) D.level D.kernel D.levels
          (λ k. (polynomials (residues p prime)).mul D.d (X.side k)) D.vector D.N D.descent);
      small = small_solution_le (euclidean (residues p prime)) (input_system p prime n m X)
          (omega (arith, rank_le n (D.level m).size)) (D.unfinished.small D.N (λ j h. D.descent.small j (omega arith) h));
      reduced = descent_reduced (input_system p prime n m X) D.level D.kernel D.levels
          (λ k. (polynomials (residues p prime)).mul D.d (X.side k)) D.vector D.N D.descent;
      certifying = D.unfinished.certifying;
      holds_d = D.holds_d;
      holds_N = λ j h. D.holds_N j (omega arith) h;
      holds_w = D.holds_w;
      holds_Z = D.holds_Z;
    }

    certificate : (solved : Bool) → HoldsAscended p prime n m solved X H quotients output
        → HoldsCertificate p prime (input_system p prime n m X) output solved
    unfolding HoldsAscended HoldsCertificate
    certificate true D = solution D
    certificate false A = A

  pub certifies : AtMost 0 L → {solved : Bool} → Ascended p n m 0 input L quotients output solved
      → Certifies p n m input output solved
  certifies zeros {solved} A = record {
    valid = A.valid;
    holds = λ prime X system.
        let H = empty_levels L zeros prime system in certificate prime H solved (A.holds prime X H);
  }
