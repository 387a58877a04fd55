-- A column that fills an empty slot: up, the others stay; down, its coordinate is the coefficient of its slot, and the coefficients
-- of what is left follow without a division.
use Rattle.std.specs.Prelude.{ℕ, suc, ◌+◌, ◌-◌, ◌*◌, ◌%◌, ◌<◌, ◌≤◌, ◌≡◌, refl, Bool, true, false, List, [], ◌∷◌, get_or}
use Rattle.std.proofs.Common.{sym, ◌∙◌, ap, subst, zero-add, add-one, arith}
use Rattle.ring.specs.Ring.{Ring}
use Rattle.ring.specs.Identity.{quotes, identity}
use Rattle.algebra.specs.Polynomial.{Polynomial, polynomials}
use Rattle.algebra.specs.Sized.{size_of_zero}
use Rattle.algebra.specs.Size.{size, sized}
use Rattle.modular.specs.Prime.{Prime}
use Rattle.modular.specs.Residue.{residues}
use Rattle.vector.specs.Bound.{Reducible}
use Rattle.reduction.specs.Total.{rank_le}
use Rattle.reduction.specs.Replace.{replace, replace_here, replace_other, extend}
use Rattle.reduction.specs.Pivot.{Pivot}
use Rattle.reduction.specs.Slots.{Slots, Filled, put, unweighted}
use Rattle.reduction.specs.Span.{InSpan}
use Rattle.reduction.specs.Filling.{filled_with, filled_with_blocks, filled_link, filled_tails, filled_lowered, filled_coefficient}
use Rattle.reduction.specs.Levels.{level_of}
use Rattle.reduction.specs.Descent.{Descent, Turn, descent_turn}
use Rattle.residue.specs.Modulus.{valid_modulus}
use Rattle.solve_lattice.specs.declared.stage.Stage.{Stage}
use Rattle.solve_lattice.specs.Stage.{valid_stage, next_stage}
use Rattle.solve_lattice.specs.Room.{block_words, last_degree, slot_places, lanes, most_coefficients}
use Rattle.solve_lattice.specs.Memory.{row, height, Level, slot_size, slot_inverse, ValidLevel}
use Rattle.solve_lattice.specs.Sums.{sums_room}
use Rattle.solve_lattice.specs.Reading.{ends_pivot}
use Rattle.solve_lattice.specs.Quotients.{HoldsQuotient}
use Rattle.solve_lattice.specs.Coefficients.{HoldsCoefficients, coefficients_blocks}
use Rattle.solve_levels.specs.Column.{HoldsLeft, DividedByLevel}
use Rattle.solve_levels.specs.Filled.{filled, emptied, tail_of, filled_holds, filled_valid, emptied_filled}
use Rattle.solve_descent.specs.Lowering.{HoldsLowered, Lowers}
use Rattle.solve_lattice.specs.Input.{Equations, input_system}
use Rattle.solve_certify.specs.Ascended.{HoldsLevels, HoldsDescended}
use Rattle.solve_certify.specs.Extending.{Extension, extended, extended_next, extended_last}
use Rattle.solve_certify.specs.Undoing.{above, undone, has_extended, ascended_undone, ascended_none}
use Rattle.solve_certify.specs.Ready.{Ready, AscendedFrom, AscendedNext, ready_next}

-- the last word that is left is not 0
pub left_leading : {p : ℕ} {L : Level} {input : List ℕ} {at : ℕ} {rest factors : List ℕ} {left : ℕ}
    → DividedByLevel p L input at rest factors left → 0 < left → 0 < get_or rest (left - 1) 0 % p
left_leading {p} {rest = rest} {left = left} C some =
    subst (λ i. 0 < get_or rest i 0 % p) (zero-add (left - 1)) (C.ends.last some)

module _ {p : ℕ} {n m j : ℕ} {input : List ℕ} {L : Level} (inside : j < m) (valid : ValidLevel p L)
    {rest factors : List ℕ} {left : ℕ}
    (C : DividedByLevel p L input (block_words * j) rest factors left) (some : 0 < left) (free : slot_size L (row left) ≡ 0) where
  module _ (prime : Prime p) {X : Equations p prime n m} (H : HoldsLevels p prime n m X j input L) where
    abbrev R : Ring (Polynomial (residues p prime))
    R = polynomials (residues p prime)

    abbrev column : ℕ → Polynomial (residues p prime)
    column i = X.matrix i j

    abbrev Q : HoldsLeft p prime n H.slots (λ i. X.matrix i j) rest factors
    Q = C.divides prime n H.slots (λ i. X.matrix i j) H.holds (H.system.column j inside)

    abbrev a : ℕ → Polynomial (residues p prime)
    a = Q.vector

    abbrev P : Pivot (sized (residues p prime)) n unweighted Q.vector (row left) (height left)
    P = ends_pivot p prime C.ends Q.holds some

    full : Filled (sized (residues p prime)) n unweighted (H.level j)
    full = (level_of (input_system p prime n m X) H.levels j (omega arith)).filled

    empty : (H.level j).size (row left) ≡ 0
    empty = sym (H.blocks.sizes (row left) P.inside) ∙ H.holds.size (row left) P.inside ∙ ap height free

    -- the column's coefficients in the blocks of level j
    abbrev G : HoldsCoefficients p prime n (H.level j) (λ k. R.add (column k) (R.neg (a k))) factors
    G = coefficients_blocks prime H.blocks Q.coefficients

    abbrev U' : Slots (Polynomial (residues p prime))
    U' = filled_with R n (H.level j) (row left) a (height left)

    filling : Extension p prime H (filled p L (row left) rest left)
    filling = record {
      next = U';
      kernel = R.zero;
      link = filled_link (sized (residues p prime)) n last_degree full P empty (omega (arith, C.ends.within)) G.span;
      slots = put H.slots (row left) (extend n a (tail_of p prime L (row left))) (height left);
      holds = filled_holds valid (row left) (omega arith) free rest left C.ends prime n unweighted H.slots a H.holds
          Q.holds;
      blocks = filled_with_blocks R (row left) a (height left) (tail_of p prime L (row left)) H.blocks;
    }

    module _ (few : n ≤ lanes) {quotients output quotients' output' : List ℕ}
        (low : Lowers p (row left) quotients factors output (block_words * (1 + j)) quotients' output')
        (D : HoldsDescended p prime n m (extended filling) quotients output) where
      none : D.kernel j ≡ R.zero
      unfolding filling
      none = D.same_kernel j (omega arith) ∙ extended_last filling

      upper : D.level (j + 1) ≡ U'
      unfolding filling
      upper = D.same_level (j + 1) (omega arith) ∙ extended_next filling

      -- what is left of d·b in the blocks of the level above
      abbrev S : HoldsCoefficients p prime n U' D.vector quotients
      S = subst (λ U. HoldsCoefficients p prime n U D.vector quotients) upper D.coefficients

      abbrev c : ℕ → Polynomial (residues p prime)
      c = S.span.coefficient

      abbrev x : Polynomial (residues p prime)
      x = c (row left)

      abbrev vector : ℕ → Polynomial (residues p prime)
      vector k = R.add (D.vector k) (R.neg (R.mul x (column k)))

      here : replace D.N j x j ≡ x
      here = replace_here D.N j x

      turn : Turn (input_system p prime n m X) D.level D.kernel j D.vector D.N vector (replace D.N j x)
      turn = record {
        tails = x;
        span = subst (λ U. InSpan R n (suc n) U (extend n D.vector x)) (sym (ap D.level (sym (add-one j)) ∙ upper))
            (filled_tails (sized (residues p prime)) n last_degree full P empty S.span G.span);
        multiple = R.zero;
        coordinate = here ∙ identity R (x ∷ D.kernel j ∷ []) (λ ρ qx qk. search quotes depth 16) refl;
        reduced = λ positive. absurd (omega (arith, size_of_zero (sized (residues p prime)) (D.kernel j) none));
        others = λ k h lt. replace_other D.N j x k (λ e. omega arith);
        rest = λ i h. ap (λ y. R.add (D.vector i) (R.neg (R.mul y (column i)))) (sym here);
      }

      -- L6
      short : size (residues p prime) x ≤ most_coefficients
      short =
          let below : Descent (input_system p prime n m X) D.level D.kernel
          (λ k. R.mul D.d (X.side k)) j vector (replace D.N j x) =
          descent_turn (input_system p prime n m X) D.level D.kernel D.levels (λ k. R.mul D.d (X.side k)) j inside turn
          (above inside filling D) in
          omega (
            arith,
            below.small j (omega arith) inside,
            ap (size (residues p prime)) here,
            rank_le n (D.level m).size,
          )

      lowered : HoldsLowered p prime n (row left) c G.span.coefficient quotients' output' (block_words * (1 + j))
      lowered = low.holds prime n few P.inside c G.span.coefficient S.holds G.holds short
          (omega (arith, size_of_zero (sized (residues p prime)) _ (G.span.empty (row left) P.inside empty)))

      undone_filling : HoldsDescended p prime n m H quotients' output'
      undone_filling = undone inside filling D x vector turn record {
        span = filled_lowered (sized (residues p prime)) n last_degree full P empty S.span G.span;
        holds = λ i h. subst (HoldsQuotient p prime quotients' i)
            (sym (filled_coefficient (sized (residues p prime)) n last_degree full P empty S.span G.span i h))
            (lowered.lowered i h);
      } lowered.coordinate low.others

-- at a stage: so many words are left of its column, in `rest`, and their slot is empty
pub record Fills (s : Stage) (L : Level) (input rest factors : List ℕ) (left : ℕ) : Type 0 where
  pub inside : s.column < s.columns
  pub divided : DividedByLevel s.modulus.p L input (block_words * s.column) rest factors left
  pub some : 0 < left
  pub free : slot_size L (row left) ≡ 0

module _ {s : Stage} {input : List ℕ} {L : Level} {quotients output : List ℕ} (given : Ready s input L quotients output)
    {rest factors : List ℕ} {left : ℕ} (C : Fills s L input rest factors left) where
  abbrev fill : (prime : Prime s.modulus.p) (X : Equations s.modulus.p prime s.rows s.columns)
      (H : HoldsLevels s.modulus.p prime s.rows s.columns X s.column input L)
      → Extension s.modulus.p prime H (filled s.modulus.p L (row left) rest left)
  fill prime X H = filling C.inside given.valid_level C.divided C.some C.free prime H

  -- what is left can be reduced
  pub left_reducible : Reducible s.modulus.p rest block_words
  left_reducible i lt = omega (
    arith,
    sums_room s.modulus.p rest (slot_places + left) (omega (arith, (valid_modulus s.modulus).prime.large)) C.divided.sums i,
  )

  fill_valid : ValidLevel s.modulus.p (filled s.modulus.p L (row left) rest left)
  fill_valid = filled_valid given.valid_level (row left) (omega arith) C.free rest left C.divided.ends C.some refl

  -- the level with the slot filled, before and after the columns behind it
  module _ {L' : Level} (fills : L' ≡ filled s.modulus.p L (row left) rest left) where
    pub fill_ready : Ready (next_stage s) input L' quotients output
    fill_ready = subst (λ l. Ready (next_stage s) input l quotients output) (sym fills)
        (ready_next given C.inside fill_valid (has_extended fill given.levels))

    pub fill_emptied : {L'' L''' : Level} → L'' ≡ L' → L''' ≡ emptied L'' (row left) (slot_inverse L (row left)) → L''' ≡ L
    fill_emptied same empties =
        empties
        ∙ ap (λ l. emptied l (row left) (slot_inverse L (row left))) (same ∙ fills)
        ∙ emptied_filled given.valid_level (row left) (omega arith) C.free rest left C.divided.ends

    module _ {quotients' output' : List ℕ} {solved : Bool} (A : AscendedNext s input L' quotients' output' solved) where
      behind : AscendedNext s input (filled s.modulus.p L (row left) rest left) quotients' output' solved
      behind = subst (λ l. AscendedNext s input l quotients' output' solved) fills A

      pub fill_undone : {quotients'' output'' : List ℕ} → solved ≡ true
          → Lowers s.modulus.p (row left) quotients' factors output' (block_words * (1 + s.column)) quotients'' output''
          → AscendedFrom s input L quotients'' output'' solved
      fill_undone e low = ascended_undone fill behind e low.quotients_below
          (record { room = low.same_output ∙ A.valid.room; below = low.output_below })
          (λ prime X H D. undone_filling C.inside given.valid_level C.divided C.some C.free prime H
          (valid_stage s).rows low D)

      pub fill_none : solved ≡ false → AscendedFrom s input L quotients' output' solved
      fill_none = ascended_none fill behind
