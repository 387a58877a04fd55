-- The next level: a column inserted into a copy of a level, and its kernel.
use Rattle.std.specs.Prelude.{ℕ, suc, ◌<◌, ◌≤◌, ◌≡◌, List, get_or}
use Rattle.std.proofs.Common.{sym, subst, ⊎_elim, arith}
use Rattle.std.proofs.Math.Decide.{ℕ_discrete}
use Rattle.std.proofs.Math.ListN.{get_or-eq_default}
use Rattle.algebra.specs.Polynomial.{Polynomial, polynomials}
use Rattle.algebra.specs.Size.{size}
use Rattle.modular.specs.Prime.{Prime}
use Rattle.modular.specs.Residue.{residues}
use Rattle.vector.specs.Stored.{below_or_not}
use Rattle.reduction.specs.Replace.{extend_below}
use Rattle.reduction.specs.Slots.{Slots, unweighted}
use Rattle.reduction.specs.Trace.{State}
use Rattle.reduction.specs.Flat.{Flat}
use Rattle.solve_lattice.specs.Word.{words}
use Rattle.solve_lattice.specs.Memory.{row, height, Ends, Level, ValidLevel, Memory}
use Rattle.solve_lattice.specs.Holding.{HoldsSlots, HoldsState}
use Rattle.solve_lattice.specs.Reading.{ends_pivot, holds_filled}
use Rattle.solve_lattice.specs.Room.{block_words, lanes}
use Rattle.solve_levels.specs.Linked.{Linked, AfterColumn}
use Rattle.solve_levels.specs.Started.{Started}

pub record NextLevel (p : ℕ) (L : Level) (column : List ℕ) (L' : Level) (kernel : List ℕ) (found : ℕ) : Type 0 where
  pub valid : ValidLevel p L'
  pub below : (i : ℕ) → get_or kernel i 0 < p
  pub ends : Ends p kernel 0 block_words found
  pub linked : (prime : Prime p) (n δ : ℕ) (U : Slots (Polynomial (residues p prime))) (a : ℕ → Polynomial (residues p prime))
      → ((i : ℕ) → i < n → size (residues p prime) (a i) ≤ suc δ) → HoldsSlots p prime n unweighted L U
      → Flat (residues p prime) n lanes unweighted (words p prime column 0 block_words) a → Linked p prime n δ a U L' kernel

module _ {p : ℕ} {L : Level} {M : Memory} (started : Started p L M) (valid : ValidLevel p L) where
  -- the hand is no higher than the column
  height_small : (prime : Prime p) (n δ : ℕ) {s : State (Polynomial (residues p prime))} → HoldsState p prime n unweighted M s
      → ((i : ℕ) → i < n → size (residues p prime) (s.hand i) ≤ suc δ) → height M.hand.size ≤ suc δ
  height_small prime n δ {s} holds small = go (ℕ_discrete M.hand.size 0)
    where
      go : Dec (M.hand.size ≡ 0) → height M.hand.size ≤ suc δ
      go (yes e) = omega arith
      go (no e) =
          let P = ends_pivot p prime started.valid.hand.block holds.hand.block (omega arith) in
          omega (arith, P.reached, small (row M.hand.size) P.inside)

  pub next_level : {L' : Level} {kernel : List ℕ} {found : ℕ} → AfterColumn p M L' kernel found
      → NextLevel p L M.block L' kernel found
  next_level {L'} {kernel} {found} after = record {
    valid = after.valid;
    below = λ i. ⊎_elim (after.kernel_below i)
        (λ past. let none : get_or kernel i 0 ≡ 0 = get_or-eq_default kernel 0 (omega (arith, after.kernel_room)) in
        omega (arith, valid.below 0 (omega arith)))
        (below_or_not i block_words);
    ends = after.kernel_ends;
    linked = λ prime n δ U a small holds A.
        let state = started.holds prime n U a holds A in
        after.linked prime n δ U a (height M.hand.size) (holds_filled p prime valid holds)
        (height_small prime n δ state (λ i h. subst (λ x. size (residues p prime) x ≤ suc δ)
        (sym (extend_below n a (polynomials (residues p prime)).one i h)) (small i h))) state;
  }
