-- A level copied with tails 0, in the terms of `solve_lattice` and `reduction`: it is in order, and holds the same slots with tails
-- 0.
use Rattle.std.specs.Prelude.{ℕ, ◌+◌, ◌*◌, ◌/◌, ◌%◌, ◌<◌, ◌≤◌, ◌≡◌, ◌⊎◌, length, get_or}
use Rattle.std.proofs.Common.{sym, ◌∙◌, ap, subst, inl, inr, ⊎_elim, mod-eq_of_lt, arith}
use Rattle.std.proofs.Math.Nat.{zero-mod}
use Rattle.algebra.specs.Polynomial.{Polynomial, polynomials, coefficients_zero}
use Rattle.modular.specs.Prime.{Prime}
use Rattle.modular.specs.Residue.{residues}
use Rattle.vector.specs.Stored.{below_or_not}
use Rattle.reduction.specs.Slots.{Slots}
use Rattle.reduction.specs.Inserting.{cleared}
use Rattle.solve_lattice.specs.Memory.{height, Level, slot_size, tail_size, ValidLevel}
use Rattle.solve_lattice.specs.Holding.{HoldsSlots}
use Rattle.solve_lattice.specs.Range.{words_zero}
use Rattle.solve_lattice.specs.SameBlocks.{SameLevelBlocks, held_extend, same_slot, same_flat}
use Rattle.solve_lattice.specs.Room.{level_words, sizes_from, block_words, slot_words, lanes}
use Rattle.solve_levels.specs.Copied.{Copied}

-- the level L' has the blocks of L and no tails
pub record Copies (p : ℕ) (L L' : Level) : Type 0 where
  pub room : level_words ≤ length L'
  pub below : (i : ℕ) → i < sizes_from → get_or L' i 0 < p
  pub same : SameLevelBlocks L L'
  pub tails : (q j : ℕ) → q < lanes → j < block_words → get_or L' (slot_words * q + block_words + j) 0 ≡ 0
  pub tail_sizes : (q : ℕ) → q < lanes → tail_size L' q ≡ 0

-- words of a block that do not count are 0, since they are below p
pub copied_copies : {p : ℕ} {L L' : Level} → ValidLevel p L → Copied L lanes L' → Copies p L L'
copied_copies {p} {L} {L'} valid copied = record {
  room = omega (arith, copied.room);
  below = λ i h. subst (λ x. get_or L' x 0 < p) (omega arith) (below (i / slot_words) (i % slot_words) (omega arith) (omega arith));
  same = record {
    words = λ q j h lt. block q j h lt (below_or_not j (slot_size L q));
    sizes = copied.sizes;
    inverses = copied.inverses;
  };
  tails = λ q j h lt. ap (λ x. get_or L' x 0) (omega arith)
      ∙ copied.others q (block_words + j) h (omega arith) (λ l. omega (arith, (valid.slot q h).block.within));
  tail_sizes = copied.tail_sizes;
}
  where
    block : (q j : ℕ) → q < lanes → j < block_words → (j < slot_size L q) ⊎ (slot_size L q ≤ j)
        → get_or L' (slot_words * q + j) 0 ≡ get_or L (slot_words * q + j) 0
    block q j h lt (inl counts) = copied.blocks q j h counts
    block q j h lt (inr not) = copied.others q j h (omega arith) (λ l. not)
        ∙ sym (sym (mod-eq_of_lt (valid.below (slot_words * q + j) (omega arith))) ∙ (valid.slot q h).block.behind j not lt)

    below : (q j : ℕ) → q < lanes → j < slot_words → get_or L' (slot_words * q + j) 0 < p
    below q j h lt = ⊎_elim
        (λ counts. omega (arith, copied.blocks q j h counts, valid.below (slot_words * q + j) (omega arith)))
        (λ not. omega (arith, copied.others q j h lt (λ l. not), valid.below 0 (omega arith)))
        (below_or_not j (slot_size L q))

module _ {p : ℕ} {L L' : Level} (copies : Copies p L L') where
  pub copies_valid : ValidLevel p L → ValidLevel p L'
  copies_valid valid = record {
    room = copies.room;
    below = copies.below;
    slot = λ q h. same_slot copies.same q h (valid.slot q h) (omega (arith, copies.tail_sizes q h))
        (λ j l lt. ap (λ w. w % p) (copies.tails q j h lt) ∙ zero-mod p);
  }

  pub copies_holds : (prime : Prime p) (n : ℕ) (ω : ℕ → ℕ) (U : Slots (Polynomial (residues p prime))) → n ≤ lanes
      → HoldsSlots p prime n ω L U → HoldsSlots p prime n ω L' (cleared (polynomials (residues p prime)) n U)
  copies_holds prime n ω U few_rows holds = record {
    size = λ q h. holds.size q h ∙ ap height (sym (copies.same.sizes q (omega arith)));
    vector = λ q h f. held_extend (same_flat copies.same prime q (omega arith) (holds.vector q h f).block)
        (record {
          at = λ e. coefficients_zero (residues p prime) e ∙ sym (words_zero p prime L' (slot_words * q + block_words) block_words 0
              (λ j l lt. ap (λ w. w % p) (copies.tails q j (omega arith) lt) ∙ zero-mod p) e (omega arith));
        });
  }
