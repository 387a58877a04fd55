-- Whatever words stand in memory, it holds a state of eight rows with no weights, read off its lanes. So laws on states say
-- something of any memory.
use Rattle.std.specs.Prelude.{ℕ, ◌+◌, ◌*◌, ◌≤◌, ◌≡◌, refl}
use Rattle.std.proofs.Common.{sym, subst, arith}
use Rattle.algebra.specs.Field.{Field}
use Rattle.algebra.specs.Polynomial.{Polynomial}
use Rattle.algebra.specs.Expressions.{shift}
use Rattle.modular.specs.Prime.{Prime}
use Rattle.modular.specs.Residue.{Residue, residues}
use Rattle.reduction.specs.Replace.{extend, extend_below, extend_at}
use Rattle.reduction.specs.Slots.{Slots, unweighted}
use Rattle.reduction.specs.Trace.{State}
use Rattle.reduction.specs.Holds.{Holds, read, read_holds}
use Rattle.reduction.specs.Flat.{Flat, flat, read_flat}
use Rattle.reduction.specs.Held.{Held}
use Rattle.solve_lattice.specs.Room.{product_words, block_words, slot_words, tail_words, block_degrees, lanes, product_degrees}
use Rattle.solve_lattice.specs.Word.{words, words_behind}
use Rattle.solve_lattice.specs.Memory.{height, Level, slot_size, Memory}
use Rattle.solve_lattice.specs.Holding.{HoldsState}

module _ {K : Type 0} (F : Field K) where
  abbrev rows : (ℕ → K) → ℕ → ℕ → Polynomial F
  rows H degrees i = read F degrees (λ k. H (flat lanes i (0 + k)))

  -- the block of eight rows and so many degrees in H, the tail of m coefficients in τ
  abbrev pub vector_of : (degrees m : ℕ) → (ℕ → K) → (ℕ → K) → ℕ → Polynomial F
  vector_of degrees m H τ = extend lanes (λ i. read F degrees (λ k. H (flat lanes i (0 + k)))) (read F m τ)

  pub vector_of_held : (degrees m : ℕ) (H τ : ℕ → K) → ((x : ℕ) → degrees * lanes ≤ x → H x ≡ F.ring.zero)
      → ((x : ℕ) → m ≤ x → τ x ≡ F.ring.zero) → Held F lanes lanes unweighted H τ (vector_of degrees m H τ)
  vector_of_held degrees m H τ high end = record {
    block = record {
      lanes = B.lanes;
      lane = λ i h. subst (λ x. Holds F (λ e. H (flat lanes i e)) (shift F 0 x))
          (sym (extend_below lanes (rows H degrees) (read F m τ) i h)) (B.lane i h);
      beside = B.beside;
    };
    tail = subst (Holds F τ) (sym (extend_at lanes (rows H degrees) (read F m τ))) (read_holds F m τ end);
  }
    where
      B : Flat F lanes lanes unweighted H (λ i. read F degrees (λ k. H (flat lanes i (0 + k))))
      B = read_flat F lanes lanes unweighted H degrees (omega arith) high (λ i e h l. absurd (omega arith))
          (λ i e h l. absurd (omega arith))

module _ (p : ℕ) (prime : Prime p) where
  abbrev F : Field (Residue p)
  F = residues p prime

  abbrev pub slots_of : Level → Slots (Polynomial (residues p prime))
  slots_of L = record {
    at = λ q. vector_of F block_degrees block_words (words p prime L (slot_words * q) block_words)
        (words p prime L (slot_words * q + block_words) block_words);
    size = λ q. height (slot_size L q);
  }

  abbrev pub state_of : Memory → State (Polynomial (residues p prime))
  state_of M = record {
    slots = slots_of M.level;
    hand = vector_of F product_degrees tail_words (words p prime M.block 0 product_words) (words p prime M.tail 0 tail_words);
    size = height M.hand.size;
  }

  pub state_of_held : (M : Memory) → HoldsState p prime lanes unweighted M (state_of M)
  state_of_held M = record {
    slots = record {
      size = λ q h. refl;
      vector = λ q h f. vector_of_held F block_degrees block_words _ _
          (λ x l. words_behind p prime M.level (slot_words * q) block_words x (omega arith))
          (words_behind p prime M.level (slot_words * q + block_words) block_words);
    };
    hand = vector_of_held F product_degrees tail_words _ _ (λ x l. words_behind p prime M.block 0 product_words x (omega arith))
        (words_behind p prime M.tail 0 tail_words);
    size = refl;
  }
