-- Levels with the same blocks, whose tails may differ: when a slot of the other is valid, and which vectors it holds.
use Rattle.std.specs.Prelude.{ℕ, ◌+◌, ◌-◌, ◌*◌, ◌%◌, ◌<◌, ◌≤◌, ◌≡◌, get_or}
use Rattle.std.proofs.Common.{sym, ◌∙◌, ap, subst, arith}
use Rattle.algebra.specs.Field.{Field}
use Rattle.algebra.specs.Polynomial.{Polynomial}
use Rattle.algebra.specs.Expressions.{shift}
use Rattle.modular.specs.Prime.{Prime}
use Rattle.modular.specs.Modulo.{modulo}
use Rattle.modular.specs.Residue.{residues}
use Rattle.reduction.specs.Replace.{extend, extend_below, extend_at}
use Rattle.reduction.specs.Holds.{Holds}
use Rattle.reduction.specs.Flat.{Flat, flat}
use Rattle.reduction.specs.Held.{Held}
use Rattle.solve_lattice.specs.Room.{lanes, block_words, slot_words, most_coefficients}
use Rattle.solve_lattice.specs.Word.{words}
use Rattle.solve_lattice.specs.Memory.{row, ZeroFrom, Ends, Level, slot_size, tail_size, slot_inverse, ValidSlot}
use Rattle.solve_lattice.specs.Range.{words_same}
use Rattle.solve_lattice.specs.Reading.{flat_same}

pub record SameLevelBlocks (L L' : Level) : Type 0 where
  pub words : (q j : ℕ) → q < lanes → j < block_words → get_or L' (slot_words * q + j) 0 ≡ get_or L (slot_words * q + j) 0
  pub sizes : (q : ℕ) → q < lanes → slot_size L' q ≡ slot_size L q
  pub inverses : (q : ℕ) → q < lanes → slot_inverse L' q ≡ slot_inverse L q

-- a block, and a tail behind it
pub held_extend : {K : Type 0} {F : Field K} {n W : ℕ} {ω : ℕ → ℕ} {H τ : ℕ → K} {v : ℕ → Polynomial F} {t : Polynomial F}
    → Flat F n W ω H v → Holds F τ t → Held F n W ω H τ (extend n v t)
held_extend {F = F} {n = n} {W = W} {ω = ω} {H = H} {τ = τ} {v = v} {t = t} A B = record {
  block = record {
    lanes = A.lanes;
    lane = λ i h. subst (λ x. Holds F (λ e. H (flat W i e)) (shift F (ω i) x)) (sym (extend_below n v t i h)) (A.lane i h);
    beside = A.beside;
  };
  tail = subst (Holds F τ) (sym (extend_at n v t)) B;
}

module _ {p : ℕ} {L L' : Level} (same : SameLevelBlocks L L') where
  pub same_slot : (q : ℕ) → q < lanes → ValidSlot p L q → tail_size L' q ≤ most_coefficients
      → ZeroFrom p L' (slot_words * q + block_words) block_words (tail_size L' q) → ValidSlot p L' q
  same_slot q l old few behind =
      let k : ℕ = slot_size L q in
      let size : slot_size L' q ≡ k = same.sizes q l in record {
        block = subst (Ends p L' (slot_words * q) block_words) (sym size) record {
          within = old.block.within;
          last = λ some. subst (λ w. 0 < w % p) (sym (same.words q (k - 1) l (omega (arith, old.block.within))))
              (old.block.last some);
          behind = λ j ge lt. ap (λ w. w % p) (same.words q j l lt) ∙ old.block.behind j ge lt;
        };
        pivot = λ some. ap row size ∙ old.pivot (omega arith);
        inverse = λ some.
            same.inverses q l
            ∙ old.inverse (omega arith)
            ∙ ap (λ w. (modulo p).inverse w) (sym (ap (λ m. get_or L' (slot_words * q + (m - 1)) 0) size
            ∙ same.words q (k - 1) l (omega (arith, old.block.within))));
        tail_within = few;
        tail = behind;
      }

  -- the block of a slot, read off either level
  pub same_flat : (prime : Prime p) {n : ℕ} {ω : ℕ → ℕ} {v : ℕ → Polynomial (residues p prime)} (q : ℕ) → q < lanes
      → Flat (residues p prime) n lanes ω (words p prime L (slot_words * q) block_words) v
      → Flat (residues p prime) n lanes ω (words p prime L' (slot_words * q) block_words) v
  same_flat prime q l A = flat_same (λ x. words_same p prime L L' (slot_words * q) (slot_words * q) block_words x
      (λ lt. ap (λ w. w % p) (sym (same.words q x l lt)))) A
