-- The second system solved with short rows, its slots in Popov form: what is asked and what is found.
use Rattle.std.specs.Prelude.{ℕ, suc, ◌+◌, ◌<◌, ◌≤◌, ◌≡◌, List, length, get_or}
use Rattle.std.proofs.Common.{ap, subst, inr, arith}
use Rattle.std.proofs.Math.Decide.{ℕ_discrete}
use Rattle.algebra.specs.Polynomial.{Polynomial, polynomials}
use Rattle.algebra.specs.Sized.{size_positive}
use Rattle.algebra.specs.Size.{size, sized}
use Rattle.algebra.specs.Monic.{Monic, monic_nonzero}
use Rattle.modular.specs.Prime.{Prime}
use Rattle.modular.specs.Residue.{residues}
use Rattle.reduction.specs.Total.{degrees}
use Rattle.reduction.specs.Slots.{Slots, unweighted, put, put_sizes}
use Rattle.reduction.specs.Transpose.{Tops}
use Rattle.reduction.specs.Popov.{SlotPopov, Reworked, reworked_none, reworked_more, popov_put, popov_tops, popov_short}
use Rattle.reduction.specs.Holds.{Holds}
use Rattle.solve_lattice.specs.Room.{block_words, block_degrees, most_coefficients}
use Rattle.solve_lattice.specs.Word.{words}
use Rattle.solve_lattice.specs.Memory.{Ends, Level, slot_size, ValidLevel}
use Rattle.solve_lattice.specs.Holding.{HoldsSlots}
use Rattle.solve_second.specs.Solved.{HasTops, HoldsSecond, SecondSolved}
use Rattle.solve_popov.specs.Rework.{HoldsReworked, SlotReworked, HoldsPopov, SlotsReworked}
use Rattle.solve_popov.specs.SlotStored.{d_size}

-- slots that have a second system within the room, and a monic d, which has that room too
pub record HasMonicTops (p n : ℕ) (L : Level) (d : List ℕ) : Type 0 where
  pub prime : Prime p
  pub bound : ℕ
  pub small : bound < most_coefficients
  pub slots : Slots (Polynomial (residues p prime))
  pub holds : HoldsSlots p prime n unweighted L slots
  pub tops : Tops (sized (residues p prime)) n bound block_degrees slots
  pub polynomial : Polynomial (residues p prime)
  pub monic : Monic (residues p prime) polynomial
  pub room : size (residues p prime) polynomial + degrees n slots.size ≤ suc bound
  pub holds_d : Holds (residues p prime) (words p prime d 0 block_words) polynomial

-- the rows of the second system of slots that were made from U are short
pub record HoldsShort (p : ℕ) (prime : Prime p) (n B : ℕ) (U : Slots (Polynomial (residues p prime)))
    (x : Polynomial (residues p prime)) (w rows : List ℕ) : Type 0 where
  pub slots : Slots (Polynomial (residues p prime))
  pub reworked : Reworked (sized (residues p prime)) n x U slots
  pub second : HoldsSecond p prime n B slots w rows
  pub short : (i : ℕ) → i < n → 0 < size (residues p prime) (second.Y i)
      → size (residues p prime) (second.Y i) + U.size i
      ≤ size (residues p prime) ((polynomials (residues p prime)).mul x second.polynomial)

pub record ShortSolved (p n : ℕ) (L : Level) (d w rows : List ℕ) : Type 0 where
  pub w_room : length w ≡ block_words
  pub w_below : (i : ℕ) → get_or w i 0 < p
  pub rows_below : (i : ℕ) → get_or rows i 0 < p
  pub solved : (prime : Prime p) (B : ℕ) (U : Slots (Polynomial (residues p prime))) → B < most_coefficients
      → HoldsSlots p prime n unweighted L U → Tops (sized (residues p prime)) n B block_degrees U
      → (x : Polynomial (residues p prime)) → Monic (residues p prime) x → size (residues p prime) x + degrees n U.size ≤ suc B
      → Holds (residues p prime) (words p prime d 0 block_words) x → HoldsShort p prime n B U x w rows

-- the loop over the slots: none is reduced yet, one is or is empty
pub slots_none : {p n : ℕ} {L : Level} {d : List ℕ} → ValidLevel p L → SlotsReworked p n L 0 d L
slots_none {p} {n} valid = record {
  valid = valid;
  holds = λ prime U x H D. record {
    slots = U;
    holds = H;
    reworked = reworked_none (sized (residues p prime)) n x U;
    popov = λ q h f. absurd (omega arith);
  };
}

module _ {p n : ℕ} {L : Level} {i : ℕ} {d : List ℕ} {L' : Level} (so_far : SlotsReworked p n L i d L') (inside : i < n) where
  pub slots_skip : slot_size L' i ≡ 0 → SlotsReworked p n L (i + 1) d L'
  slots_skip empty = record {
    valid = so_far.valid;
    holds = λ prime U x H D.
        let P = so_far.holds prime U x H D in record {
          slots = P.slots;
          holds = P.holds;
          reworked = P.reworked;
          popov = λ q h f. go prime P q h f (ℕ_discrete q i);
        };
  }
    where
      go : (prime : Prime p) {U : Slots (Polynomial (residues p prime))} {x : Polynomial (residues p prime)}
          (P : HoldsPopov p prime n U i x L') (q : ℕ) → q < i + 1 → 0 < P.slots.size q → Dec (q ≡ i)
          → SlotPopov (sized (residues p prime)) n x P.slots q (P.slots.at q)
      go prime P q h f (yes e) = absurd (omega (arith, ap P.slots.size e, P.holds.size i inside))
      go prime P q h f (no ne) = P.popov q (omega arith) f

  pub slots_more : {L'' : Level} → 0 < slot_size L' i → SlotReworked p L' i d L'' → SlotsReworked p n L (i + 1) d L''
  slots_more {L''} some R = record { valid = R.valid; holds = turn }
    where
      turn : (prime : Prime p) (U : Slots (Polynomial (residues p prime))) (x : Polynomial (residues p prime))
          → HoldsSlots p prime n unweighted L U → Holds (residues p prime) (words p prime d 0 block_words) x
          → HoldsPopov p prime n U (i + 1) x L''
      turn prime U x H D = record {
        slots = put P.slots i Q.vector (P.slots.size i);
        holds = Q.slots;
        reworked = reworked_more (sized (residues p prime)) n x P.reworked i inside filled Q.reduced;
        popov = λ q h f. popov_put (sized (residues p prime)) n x P.slots i Q.popov q
            (λ ne. P.popov q (omega arith) (omega (arith, put_sizes P.slots i Q.vector q)));
      }
        where
          P : HoldsPopov p prime n U i x L'
          P = so_far.holds prime U x H D

          filled : 0 < P.slots.size i
          filled = omega (arith, P.holds.size i inside)

          Q : HoldsReworked p prime n P.slots i x L''
          Q = R.holds prime n P.slots x inside filled P.holds D

pub slots_end : {p n : ℕ} {L : Level} {i : ℕ} {d : List ℕ} {L' : Level} → SlotsReworked p n L i d L' → i ≡ n
    → SlotsReworked p n L n d L'
slots_end {p} {n} {L} {i} {d} {L'} so_far all = subst (λ i. SlotsReworked p n L i d L') all so_far

-- d has at least one coefficient, and no more than a polynomial of a certificate
module _ {p n : ℕ} {L : Level} {d : List ℕ} (has : HasMonicTops p n L d) {count : ℕ} (ends : Ends p d 0 block_words count) where
  pub has_some : 0 < count
  has_some = omega (
    arith,
    d_size has.prime has.polynomial ends has.holds_d,
    size_positive (sized (residues p has.prime)) has.polynomial
        (monic_nonzero (residues p has.prime) has.polynomial has.monic),
  )

  pub has_small : count ≤ most_coefficients
  has_small = omega (arith, d_size has.prime has.polynomial ends has.holds_d, has.room, has.small)

-- all slots are reduced: their second system has short rows
module _ {p n : ℕ} {L : Level} {d : List ℕ} {L' : Level} (done : SlotsReworked p n L n d L') where
  module _ (prime : Prime p) {B : ℕ} {U : Slots (Polynomial (residues p prime))} (H : HoldsSlots p prime n unweighted L U)
      (tops : Tops (sized (residues p prime)) n B block_degrees U) (x : Polynomial (residues p prime))
      (room : size (residues p prime) x + degrees n U.size ≤ suc B)
      (D : Holds (residues p prime) (words p prime d 0 block_words) x) where
    P : HoldsPopov p prime n U n x L'
    P = done.holds prime U x H D

    popov_room : Tops (sized (residues p prime)) n B block_degrees P.slots
    popov_room = popov_tops (sized (residues p prime)) n x tops room P.reworked
        (λ q h f. inr (P.popov q h (omega (arith, P.reworked.sizes q h))).tail)

  pub popov_has : HasMonicTops p n L d → HasTops p n L'
  popov_has has = record {
    prime = has.prime;
    bound = has.bound;
    small = omega (arith, has.small);
    slots = (P has.prime has.holds has.tops has.polynomial has.room has.holds_d).slots;
    holds = (P has.prime has.holds has.tops has.polynomial has.room has.holds_d).holds;
    tops = popov_room has.prime has.holds has.tops has.polynomial has.room has.holds_d;
  }

  pub short_solved : {w rows : List ℕ} → SecondSolved p n L' w rows → ShortSolved p n L d w rows
  short_solved {w} {rows} S = record { w_room = S.w_room; w_below = S.w_below; rows_below = S.rows_below; solved = solved }
    where
      solved : (prime : Prime p) (B : ℕ) (U : Slots (Polynomial (residues p prime))) → B < most_coefficients
          → HoldsSlots p prime n unweighted L U → Tops (sized (residues p prime)) n B block_degrees U
          → (x : Polynomial (residues p prime)) → Monic (residues p prime) x
          → size (residues p prime) x + degrees n U.size ≤ suc B → Holds (residues p prime) (words p prime d 0 block_words) x
          → HoldsShort p prime n B U x w rows
      solved prime B U small H tops x monic room D = record {
        slots = Q.slots;
        reworked = Q.reworked;
        second = Y;
        short = λ i h f. omega (
          arith,
          Q.reworked.sizes i h,
          popov_short (sized (residues p prime)) n x top.filled (λ q l g. Q.popov q l g)
              (monic_nonzero (residues p prime) x monic) Y.dual i h f,
        );
      }
        where
          Q : HoldsPopov p prime n U n x L'
          Q = P prime H tops x room D

          top : Tops (sized (residues p prime)) n B block_degrees Q.slots
          top = popov_room prime H tops x room D

          Y : HoldsSecond p prime n B Q.slots w rows
          Y = S.solved prime B Q.slots (omega arith) Q.holds top
