-- Coefficients of a vector in the span of slots, in lanes as `divide` leaves its quotients.
use Rattle.std.specs.Prelude.{ℕ, ◌<◌, List}
use Rattle.std.proofs.Common.{sym, subst}
use Rattle.algebra.specs.Polynomial.{Polynomial, polynomials}
use Rattle.modular.specs.Prime.{Prime}
use Rattle.modular.specs.Residue.{residues}
use Rattle.reduction.specs.Slots.{Slots, SameBlocks}
use Rattle.reduction.specs.Span.{InSpan, span_blocks, span_blocks_coefficient}
use Rattle.reduction.specs.Division.{slot_quotient, quotient_empty, division_quotients}
use Rattle.solve_lattice.specs.Memory.{Level}
use Rattle.solve_lattice.specs.Reading.{ends_zero}
use Rattle.solve_lattice.specs.Quotients.{HoldsQuotient, DividedSoFar, Dividend, BlockDivided}

-- v is a combination of the blocks of U, with the coefficient of slot q in lane 7 - q
pub record HoldsCoefficients (p : ℕ) (prime : Prime p) (n : ℕ) (U : Slots (Polynomial (residues p prime)))
    (v : ℕ → Polynomial (residues p prime)) (quotients : List ℕ) : Type 0 where
  pub span : InSpan (polynomials (residues p prime)) n n U v
  pub holds : (q : ℕ) → q < n → HoldsQuotient p prime quotients q (span.coefficient q)

-- a division that leaves nothing gives them
pub divided_coefficients : {p : ℕ} (prime : Prime p) {n : ℕ} {ω : ℕ → ℕ} {L : Level} {block block' quotients : List ℕ} {left : ℕ}
    → BlockDivided p L block block' quotients left → (f : Dividend p prime n ω L block)
    → InSpan (polynomials (residues p prime)) n n f.slots f.vector
    → HoldsCoefficients p prime n f.slots f.vector quotients
divided_coefficients {p} prime {n} {ω} {block' = block'} {quotients = quotients} D f s = record {
  span = record {
    coefficient = slot_quotient (polynomials (residues p prime)) n f.slots Q.trace;
    empty = quotient_empty (polynomials (residues p prime)) n f.slots Q.trace;
    equal = division_quotients (polynomials (residues p prime)) n f.slots Q.trace
        (ends_zero p prime D.ends Q.holds_rest (D.whole prime n ω f s));
  };
  holds = Q.holds_quotient;
}
  where
    Q : DividedSoFar p prime n ω f.slots f.vector block' quotients
    Q = D.divides prime n ω f

-- tails play no part
pub coefficients_blocks : {p : ℕ} (prime : Prime p) {n : ℕ} {U U' : Slots (Polynomial (residues p prime))}
    {v : ℕ → Polynomial (residues p prime)} {quotients : List ℕ} → SameBlocks n U U' → HoldsCoefficients p prime n U v quotients
    → HoldsCoefficients p prime n U' v quotients
coefficients_blocks {p} prime {quotients = quotients} e C = record {
  span = span_blocks (polynomials (residues p prime)) e C.span;
  holds = λ q h. subst (HoldsQuotient p prime quotients q)
      (sym (span_blocks_coefficient (polynomials (residues p prime)) e C.span q)) (C.holds q h);
}
