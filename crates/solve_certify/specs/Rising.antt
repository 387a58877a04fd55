-- A column that is inserted, up: what is left of it makes the next level, which is linked to the one before as the column's own.
use Rattle.std.specs.Prelude.{ℕ, suc, ◌*◌, ◌<◌, ◌≤◌, ◌≡◌, List}
use Rattle.std.proofs.Math.Path.{refl}
use Rattle.std.proofs.Common.{arith}
use Rattle.algebra.specs.Size.{size, sized}
use Rattle.modular.specs.Prime.{Prime}
use Rattle.modular.specs.Residue.{residues}
use Rattle.reduction.specs.Slots.{same_refl, same_blocks}
use Rattle.reduction.specs.Link.{link_shift, link_same}
use Rattle.solve_lattice.specs.declared.stage.Stage.{Stage}
use Rattle.solve_lattice.specs.Stage.{next_stage}
use Rattle.solve_lattice.specs.Memory.{Level}
use Rattle.solve_lattice.specs.Reading.{ends_pivot}
use Rattle.solve_lattice.specs.Coefficients.{coefficients_blocks}
use Rattle.solve_levels.specs.Linked.{Linked}
use Rattle.solve_levels.specs.Next.{NextLevel}
use Rattle.solve_levels.specs.Column.{HoldsLeft, DividedByLevel}
use Rattle.solve_lattice.specs.Input.{Equations}
use Rattle.solve_lattice.specs.Room.{block_words, last_degree}
use Rattle.solve_certify.specs.Ascended.{HoldsLevels}
use Rattle.solve_certify.specs.Extending.{Extension}
use Rattle.solve_certify.specs.Undoing.{has_extended}
use Rattle.solve_certify.specs.Ready.{Ready, ready_next}

-- so many words are left of the stage's column, in `rest`
pub record Leaves (s : Stage) (L : Level) (input rest : List ℕ) (left : ℕ) : Type 0 where
  pub inside : s.column < s.columns
  pub factors : List ℕ
  pub divided : DividedByLevel s.modulus.p L input (block_words * s.column) rest factors left
  pub some : 0 < left

module _ {p : ℕ} {n m j : ℕ} {input : List ℕ} {L L' : Level} {rest factors kernel : List ℕ} {left found : ℕ} (inside : j < m)
    (C : DividedByLevel p L input (block_words * j) rest factors left) (some : 0 < left) (next : NextLevel p L rest L' kernel found)
  where
    module _ (prime : Prime p) {X : Equations p prime n m} (H : HoldsLevels p prime n m X j input L) where
      abbrev Q : HoldsLeft p prime n H.slots (λ i. X.matrix i j) rest factors
      Q = C.divides prime n H.slots (λ i. X.matrix i j) H.holds (H.system.column j inside)

      small : (i : ℕ) → i < n → size (residues p prime) (Q.vector i) ≤ suc last_degree
      small i h = omega (arith, (ends_pivot p prime C.ends Q.holds some).all i h, C.ends.within)

      pub K : Linked p prime n last_degree Q.vector H.slots L' kernel
      K = next.linked prime n last_degree H.slots Q.vector small H.holds Q.holds

      pub rising : Extension p prime H L'
      rising = record {
        next = K.slots;
        kernel = K.polynomial;
        link = link_shift (sized (residues p prime)) n last_degree (coefficients_blocks prime H.blocks Q.coefficients).span
            (link_same (sized (residues p prime)) n last_degree H.blocks (same_refl K.slots) K.link);
        slots = K.slots;
        holds = K.holds;
        blocks = same_blocks (same_refl K.slots);
      }

      pub rising_next : rising.next ≡ K.slots
      unfolding rising
      rising_next = refl

      pub rising_kernel : rising.kernel ≡ K.polynomial
      unfolding rising
      rising_kernel = refl

-- at a stage
module _ {s : Stage} {input : List ℕ} {L L' : Level} {rest kernel : List ℕ} {left found : ℕ} (C : Leaves s L input rest left)
    (next : NextLevel s.modulus.p L rest L' kernel found) where
  abbrev pub rise : (prime : Prime s.modulus.p) (X : Equations s.modulus.p prime s.rows s.columns)
      (H : HoldsLevels s.modulus.p prime s.rows s.columns X s.column input L) → Extension s.modulus.p prime H L'
  rise prime X H = rising C.inside C.divided C.some next prime H

  pub rise_ready : {quotients output : List ℕ} → Ready s input L quotients output → Ready (next_stage s) input L' quotients output
  rise_ready given = ready_next given C.inside next.valid (has_extended rise given.levels)
