-- A column that was inserted, down: its coordinate and its part are taken off what is left of d·b, and the rest is divided by the
-- level below.
use Rattle.std.specs.Prelude.{ℕ, suc, ◌+◌, ◌*◌, ◌<◌, ◌≤◌, ◌≡◌, refl, Bool, true, false, List}
use Rattle.std.proofs.Common.{sym, ◌∙◌, ap, subst, add-one, arith}
use Rattle.algebra.specs.Polynomial.{polynomials}
use Rattle.modular.specs.Prime.{Prime}
use Rattle.modular.specs.Residue.{residues}
use Rattle.reduction.specs.Total.{rank_le}
use Rattle.reduction.specs.Slots.{blocks_sym, unweighted}
use Rattle.reduction.specs.Span.{InSpan, span_blocks}
use Rattle.reduction.specs.Holds.{Holds}
use Rattle.solve_lattice.specs.Word.{words}
use Rattle.solve_lattice.specs.declared.stage.Stage.{Stage}
use Rattle.solve_lattice.specs.Stage.{valid_stage}
use Rattle.solve_lattice.specs.Memory.{Level}
use Rattle.solve_lattice.specs.Holding.{HoldsSlots}
use Rattle.solve_lattice.specs.Quotients.{Dividend, BlockDivided}
use Rattle.solve_lattice.specs.Coefficients.{HoldsCoefficients, divided_coefficients, coefficients_blocks}
use Rattle.solve_levels.specs.Next.{NextLevel}
use Rattle.solve_levels.specs.Column.{DividedByLevel}
use Rattle.solve_descent.specs.Turn.{HoldsDescent, HoldsTurn, Turned}
use Rattle.solve_lattice.specs.Input.{Equations, input_system}
use Rattle.solve_lattice.specs.Room.{block_words, lanes}
use Rattle.solve_certify.specs.Ascended.{HoldsLevels, HoldsDescended}
use Rattle.solve_certify.specs.Extending.{extended, extended_next, extended_last}
use Rattle.solve_certify.specs.Undoing.{above, lower_level, undone, ascended_undone, ascended_none}
use Rattle.solve_certify.specs.Ready.{AscendedFrom, AscendedNext}
use Rattle.solve_certify.specs.Rising.{Leaves, K, rising, rising_next, rising_kernel, rise}

-- a turn of the way down from the level L', and its rest divided by the slots of L
pub record Fallen (s : Stage) (L L' : Level) (kernel input quotients output quotients' output' : List ℕ) : Type 0 where
  pub rest : List ℕ
  pub cleared : List ℕ
  pub turned : Turned s.modulus.p L' s.rows kernel input (block_words * s.column) quotients output
      (block_words * (1 + s.column)) rest
      cleared output'
  pub emptied : List ℕ
  pub left : ℕ
  pub divided : BlockDivided s.modulus.p L rest emptied quotients' left

module _ {p : ℕ} {n m j : ℕ} (few : n ≤ lanes) {input : List ℕ} {L L' : Level} {rest factors kernel : List ℕ} {left found : ℕ}
    (inside : j < m) (C : DividedByLevel p L input (block_words * j) rest factors left) (some : 0 < left)
    (next : NextLevel p L rest L' kernel found) {quotients output turned cleared output' emptied quotients' : List ℕ} {least : ℕ}
    (T' : Turned p L' n kernel input (block_words * j) quotients output (block_words * (1 + j)) turned cleared output')
    (E : BlockDivided p L turned emptied quotients' least) (prime : Prime p)
    (X : Equations p prime n m) (H : HoldsLevels p prime n m X j input L)
    (D : HoldsDescended p prime n m (extended (rising inside C some next prime H)) quotients output) where
  -- the level above, and its kernel
  upper : D.level (suc j) ≡ (K inside C some next prime H).slots
  upper =
      ap D.level (sym (add-one j))
      ∙ D.same_level (j + 1) (omega arith)
      ∙ extended_next (rising inside C some next prime H)
      ∙ rising_next inside C some next prime H

  upper_kernel : D.kernel j ≡ (K inside C some next prime H).polynomial
  upper_kernel =
      D.same_kernel j (omega arith)
      ∙ extended_last (rising inside C some next prime H)
      ∙ rising_kernel inside C some next prime H

  -- what the turn starts from
  abbrev start : HoldsDescent p prime L' kernel input (block_words * j) quotients
  start = record {
    system = input_system p prime n m X;
    level = D.level;
    kernel = D.kernel;
    levels = D.levels;
    small = omega (arith, rank_le n (D.level m).size);
    low = omega arith;
    column = j;
    inside = inside;
    whole = λ k. (polynomials (residues p prime)).mul D.d (X.side k);
    vector = D.vector;
    coordinates = D.N;
    descent = above inside (rising inside C some next prime H) D;
    holds_slots = subst (HoldsSlots p prime n unweighted L') (sym upper) (K inside C some next prime H).holds;
    holds_kernel = subst (Holds (residues p prime) (words p prime kernel 0 block_words)) (sym upper_kernel)
        (K inside C some next prime H).holds_kernel;
    holds_column = H.system.column j inside;
    coefficients = subst (λ k. HoldsCoefficients p prime n (D.level k) D.vector quotients) (add-one j) D.coefficients;
  }

  abbrev T : HoldsTurn p prime start output' (block_words * (1 + j)) turned
  T = T'.holds prime start refl

  abbrev dividend : Dividend p prime n unweighted L turned
  dividend = record { slots = H.slots; vector = T.vector; holds_slots = H.holds; holds = T.holds_vector }

  spanned : InSpan (polynomials (residues p prime)) n n H.slots T.vector
  spanned = span_blocks (polynomials (residues p prime)) (blocks_sym H.blocks)
      (subst (λ U. InSpan (polynomials (residues p prime)) n n U T.vector)
      (lower_level inside (rising inside C some next prime H) D j (omega arith)) T.descent.span)

  fallen : HoldsDescended p prime n m H quotients' output'
  fallen = undone inside (rising inside C some next prime H) D T.coordinate T.vector T.turn
      (coefficients_blocks prime H.blocks (divided_coefficients prime E dividend spanned)) T.holds_coordinate
      T'.others

-- at a stage; L'' is the level above, after the columns behind
module _ {s : Stage} {input : List ℕ} {L L' : Level} {rest kernel : List ℕ} {left found : ℕ} (C : Leaves s L input rest left)
    (next : NextLevel s.modulus.p L rest L' kernel found) {quotients' output' : List ℕ} {solved : Bool}
    (A : AscendedNext s input L' quotients' output' solved) where
  pub fall_undone : {L'' : Level} {quotients'' output'' : List ℕ} → solved ≡ true → L'' ≡ L'
      → Fallen s L L'' kernel input quotients' output' quotients'' output'' → AscendedFrom s input L quotients'' output'' solved
  fall_undone {quotients'' = quotients''} {output''} e same F =
      let G = subst (λ l. Fallen s L l kernel input quotients' output' quotients'' output'') same F in
      ascended_undone (rise C next) A e G.divided.below
      (record { room = G.turned.same_coordinates ∙ A.valid.room; below = G.turned.coordinates_below })
      (λ prime X H D. fallen (valid_stage s).rows C.inside C.divided C.some next G.turned G.divided prime X H D)

  pub fall_none : solved ≡ false → AscendedFrom s input L quotients' output' solved
  fall_none = ascended_none (rise C next) A
