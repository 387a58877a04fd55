-- A column in the span of the level before it: up, the level stays and the kernel is one; down, nothing is left to do but for a
-- numerator of zero.
use Rattle.std.specs.Prelude.{ℕ, ◌+◌, ◌*◌, ◌%◌, ◌<◌, ◌≤◌, ◌≡◌, Bool, List, [], ◌∷◌, length}
use Rattle.std.proofs.Math.Path.{refl}
use Rattle.std.proofs.Common.{sym, ◌∙◌, ap, subst, arith}
use Rattle.std.proofs.Math.Bool.{true, false}
use Rattle.std.proofs.Math.Nat.{zero-mod}
use Rattle.ring.specs.Ring.{Ring}
use Rattle.ring.specs.Identity.{quotes, identity}
use Rattle.algebra.specs.Polynomial.{Polynomial, polynomials, coefficients_zero}
use Rattle.algebra.specs.Size.{sized}
use Rattle.modular.specs.Prime.{Prime}
use Rattle.modular.specs.Residue.{residues}
use Rattle.vector.specs.Stored.{stored, length_stored, stored_inside, stored_outside}
use Rattle.reduction.specs.Replace.{replace_here, replace_other}
use Rattle.reduction.specs.Pivot.{Vanishes}
use Rattle.reduction.specs.Span.{InSpan, span_ext, span_blocks}
use Rattle.reduction.specs.Link.{link_drop}
use Rattle.reduction.specs.Levels.{level_of}
use Rattle.reduction.specs.Descent.{turn_drop}
use Rattle.solve_lattice.specs.declared.stage.Stage.{Stage}
use Rattle.solve_lattice.specs.Stage.{valid_stage, next_stage}
use Rattle.solve_lattice.specs.Memory.{Level}
use Rattle.solve_lattice.specs.Range.{words_zero}
use Rattle.solve_lattice.specs.Reading.{ends_zero}
use Rattle.solve_lattice.specs.Coefficients.{HoldsCoefficients}
use Rattle.solve_levels.specs.Column.{HoldsLeft, DividedByLevel}
use Rattle.solve_lattice.specs.Room.{output_words, block_words, last_degree, lanes}
use Rattle.solve_certify.specs.Words.{stored_below}
use Rattle.solve_lattice.specs.Input.{Equations, input_system}
use Rattle.solve_lattice.specs.Output.{ValidOutput, HoldsAt}
use Rattle.solve_certify.specs.Ascended.{HoldsLevels, HoldsDescended, HoldsAscended, Ascended}
use Rattle.solve_certify.specs.Extending.{Extension, extended, extended_next, extended_last}
use Rattle.solve_certify.specs.Undoing.{above, undone, has_extended}
use Rattle.solve_certify.specs.Ready.{Ready, AscendedFrom, AscendedNext, ready_next}

-- nothing is left of the stage's column
pub record ColumnSpanned (s : Stage) (L : Level) (input : List ℕ) : Type 0 where
  pub inside : s.column < s.columns
  pub rest : List ℕ
  pub factors : List ℕ
  pub left : ℕ
  pub divided : DividedByLevel s.modulus.p L input (block_words * s.column) rest factors left
  pub nothing : left ≡ 0

-- zeros for the numerator of column j
abbrev pub with_zeros : List ℕ → ℕ → List ℕ
with_zeros output j = stored (λ i. 0) output (block_words * (1 + j)) block_words

-- if there is a solution
unfoldable pub left_out : Bool → List ℕ → ℕ → List ℕ
left_out true output j = with_zeros output j
left_out false output j = output

module _ {solved : Bool} (output : List ℕ) (j : ℕ) where
  pub left_out_lem : {output' : List ℕ} → solved ≡ true → output' ≡ with_zeros output j → output' ≡ left_out solved output j
  unfolding left_out
  left_out_lem e same = rw e same

  pub left_alone : solved ≡ false → output ≡ left_out solved output j
  unfolding left_out
  left_alone e = rw e refl

left_valid : {p : ℕ} (solved : Bool) (output : List ℕ) (j : ℕ) → 0 < p → ValidOutput p output
    → ValidOutput p (left_out solved output j)
unfolding left_out
left_valid {p} true output j some valid = record {
  room = length_stored (λ i. 0) output (block_words * (1 + j)) block_words ∙ valid.room;
  below = stored_below p (λ i. 0) output (block_words * (1 + j)) block_words some (λ i lt. some) valid.below;
}
left_valid false output j some valid = valid

module _ {p : ℕ} {n m j : ℕ} {input : List ℕ} {L : Level} (inside : j < m) {rest factors : List ℕ} {left : ℕ}
    (C : DividedByLevel p L input (block_words * j) rest factors left) (nothing : left ≡ 0) where
  module _ (prime : Prime p) {X : Equations p prime n m} (H : HoldsLevels p prime n m X j input L) where
    abbrev R : Ring (Polynomial (residues p prime))
    R = polynomials (residues p prime)

    abbrev column : ℕ → Polynomial (residues p prime)
    column i = X.matrix i j

    abbrev Q : HoldsLeft p prime n H.slots (λ i. X.matrix i j) rest factors
    Q = C.divides prime n H.slots (λ i. X.matrix i j) H.holds (H.system.column j inside)

    vanishes : Vanishes (polynomials (residues p prime)) n Q.vector
    vanishes = ends_zero p prime C.ends Q.holds nothing

    spanned : InSpan (polynomials (residues p prime)) n n (H.level j) (λ i. X.matrix i j)
    spanned = span_blocks R H.blocks (span_ext R Q.coefficients.span column (λ k h.
        sym (ap (λ x. R.add (column k) (R.neg x)) (vanishes k h)
        ∙ identity R (column k ∷ []) (λ ρ qc. search quotes depth 16) refl)))

    pub dropping : Extension p prime H L
    dropping = record {
      next = H.level j;
      kernel = R.one;
      link = link_drop (sized (residues p prime)) n last_degree column (H.level j)
          (level_of (input_system p prime n m X) H.levels j (omega arith)).filled spanned;
      slots = H.slots;
      holds = H.holds;
      blocks = H.blocks;
    }

    module _ {quotients output : List ℕ} (D : HoldsDescended p prime n m (extended dropping) quotients output)
        (room : length output ≡ output_words) (few : m ≤ lanes) where
      same_one : D.kernel j ≡ R.one
      unfolding dropping
      same_one = D.same_kernel j (omega arith) ∙ extended_last dropping

      same_next : D.level (j + 1) ≡ H.level j
      unfolding dropping
      same_next = D.same_level (j + 1) (omega arith) ∙ extended_next dropping

      zeros : HoldsAt p prime (with_zeros output j) (1 + j) (polynomials (residues p prime)).zero
      zeros = record {
        at = λ e. coefficients_zero (residues p prime) e ∙ sym
            (words_zero p prime (with_zeros output j) (block_words * (1 + j)) block_words 0
            (λ i ge lt. ap (λ w. w % p) (stored_inside (λ i. 0) output (block_words * (1 + j)) block_words i (omega arith) lt)
            ∙ zero-mod p)
            e (omega arith));
      }

      pub dropped : HoldsDescended p prime n m H quotients (with_zeros output j)
      dropped = undone inside dropping D R.zero D.vector
          (turn_drop (input_system p prime n m X) D.level D.kernel same_one (above inside dropping D)
          (replace_here D.N j R.zero) (λ k h lt. replace_other D.N j R.zero k (λ e. omega arith)))
          (subst (λ U. HoldsCoefficients p prime n U D.vector quotients) same_next D.coefficients) zeros
          (λ i out. stored_outside (λ i. 0) output (block_words * (1 + j)) block_words i out)

  left_holds : (solved : Bool) (quotients output : List ℕ) (prime : Prime p) {X : Equations p prime n m}
      (H : HoldsLevels p prime n m X j input L) → m ≤ lanes → length output ≡ output_words
      → HoldsAscended p prime n m solved X (extended (dropping prime H)) quotients output
      → HoldsAscended p prime n m solved X H quotients (left_out solved output j)
  unfolding HoldsAscended left_out
  left_holds true quotients output prime H few room D = dropped prime H D room few
  left_holds false quotients output prime H few room A = A

  -- a column left out as a whole: the columns behind it, and its numerator
  ascended_drop : {solved : Bool} {quotients output output' : List ℕ} → m ≤ lanes
      → Ascended p n m (j + 1) input L quotients output solved → output' ≡ left_out solved output j
      → Ascended p n m j input L quotients output' solved
  ascended_drop {solved} {quotients} {output} few A e = rw e record {
    below = A.below;
    valid = left_valid solved output j (omega (arith, A.below 0)) A.valid;
    holds = λ prime X H. left_holds solved quotients output prime H few A.valid.room
        (A.holds prime X (extended (dropping prime H)));
  }

-- at a stage
module _ {s : Stage} {input : List ℕ} {L : Level} (C : ColumnSpanned s L input) where
  pub drop_ready : {quotients output : List ℕ} → Ready s input L quotients output → Ready (next_stage s) input L quotients output
  drop_ready given = ready_next given C.inside given.valid_level
      (has_extended (λ prime X H. dropping C.inside C.divided C.nothing prime H) given.levels)

  pub drop_ascended : {quotients' output' output'' : List ℕ} {solved : Bool}
      → AscendedNext s input L quotients' output' solved → output'' ≡ left_out solved output' s.column
      → AscendedFrom s input L quotients' output'' solved
  drop_ascended = ascended_drop C.inside C.divided C.nothing (valid_stage s).columns
