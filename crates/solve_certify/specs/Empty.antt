-- The level before all columns: a cleared array.
use Rattle.std.specs.Prelude.{ℕ, ◌+◌, ◌*◌, ◌%◌, ◌≡◌, refl, List, length, get_or}
use Rattle.std.proofs.Common.{◌∙◌, ap, arith}
use Rattle.std.proofs.Math.Nat.{zero-mod}
use Rattle.algebra.specs.Polynomial.{Polynomial, polynomials}
use Rattle.modular.specs.Prime.{Prime}
use Rattle.modular.specs.Residue.{residues}
use Rattle.vector.specs.Bound.{AtMost}
use Rattle.reduction.specs.Slots.{Slots}
use Rattle.solve_lattice.specs.Room.{block_words, slot_words, sizes_from, tail_sizes_from, level_words}
use Rattle.solve_lattice.specs.Memory.{Level, ValidLevel}
use Rattle.solve_lattice.specs.Input.{Equations, HoldsSystem}
use Rattle.solve_certify.specs.Ascended.{HoldsLevels, HasLevels}
use Rattle.solve_certify.specs.Certifies.{HasSystem}

-- no slot filled
abbrev empty : {p : ℕ} (prime : Prime p) → Slots (Polynomial (residues p prime))
empty {p} prime = record { at = λ q k. (polynomials (residues p prime)).zero; size = λ q. 0 }

module _ (L : Level) (zeros : AtMost 0 L) where
  pub empty_valid : {p : ℕ} → Prime p → length L ≡ level_words → ValidLevel p L
  empty_valid {p} prime room = record {
    room = omega arith;
    below = λ i lt. omega (arith, zeros i, prime.large);
    slot = λ q h. record {
      block = record {
        within = omega (arith, zeros (sizes_from + q));
        last = λ some. absurd (omega (arith, zeros (sizes_from + q)));
        behind = λ j l lt. word (slot_words * q + j);
      };
      pivot = λ some. absurd (omega (arith, zeros (sizes_from + q)));
      inverse = λ some. absurd (omega (arith, zeros (sizes_from + q)));
      tail_within = omega (arith, zeros (tail_sizes_from + q));
      tail = λ j l lt. word (slot_words * q + block_words + j);
    };
  }
    where
      word : (i : ℕ) → get_or L i 0 % p ≡ 0
      word i = let none : get_or L i 0 ≡ 0 = omega (arith, zeros i) in ap (λ w. w % p) none ∙ zero-mod p

  module _ {p : ℕ} (prime : Prime p) {n m : ℕ} {X : Equations p prime n m} {input : List ℕ} where
    pub empty_levels : HoldsSystem p prime n m X input → HoldsLevels p prime n m X 0 input L
    empty_levels system = record {
      system = system;
      level = λ k. empty prime;
      kernel = λ k. (polynomials (residues p prime)).zero;
      levels = record { empty = λ q h. refl; link = λ j h. absurd (omega arith) };
      slots = empty prime;
      holds = record { size = λ q h. omega (arith, zeros (sizes_from + q)); vector = λ q h f. absurd (omega arith) };
      blocks = record { sizes = λ q h. refl; vectors = λ q k h f l. refl };
    }

  pub has_empty : {p n m : ℕ} {input : List ℕ} → HasSystem p n m input → HasLevels p n m 0 input L
  has_empty has = record { prime = has.prime; equations = has.equations; levels = empty_levels has.prime has.holds }
