-- What is read off memory: the last word that is not 0 modulo p is the pivot, so slots of a valid level have their pivots in
-- place, and a hand of size 0 has block zero.
use Rattle.std.specs.Prelude.{ℕ, ◌-◌, ◌%◌, ◌<◌, ◌≡◌, List, get_or}
use Rattle.std.proofs.Common.{sym, ◌∙◌, ap, subst, subst₂, mod-lt, zero-add, arith}
use Rattle.algebra.specs.Field.{Field}
use Rattle.algebra.specs.Polynomial.{Polynomial, polynomials}
use Rattle.algebra.specs.Size.{sized}
use Rattle.modular.specs.Prime.{Prime}
use Rattle.modular.specs.Residue.{Residue, residues}
use Rattle.reduction.specs.Pivot.{Vanishes, Pivot}
use Rattle.reduction.specs.Slots.{Slots, Filled}
use Rattle.reduction.specs.Trace.{State}
use Rattle.reduction.specs.Insert.{Stuck}
use Rattle.reduction.specs.Holds.{Holds}
use Rattle.reduction.specs.Flat.{Flat, flat_pivot, flat_zero}
use Rattle.reduction.specs.Held.{Held}
use Rattle.solve_lattice.specs.Word.{words}
use Rattle.solve_lattice.specs.Memory.{row, height, Ends, Level, slot_size, ValidLevel, Memory, ValidHand}
use Rattle.solve_lattice.specs.Holding.{HoldsSlots, HoldsState}
use Rattle.solve_lattice.specs.Range.{words_zero, zero_word}
use Rattle.solve_lattice.specs.Room.{lanes}

-- arrays of equal residues hold the same polynomial, and the same vectors
pub holds_same : {K : Type 0} {F : Field K} {H H' : ℕ → K} {x : Polynomial F} → ((e : ℕ) → H e ≡ H' e) → Holds F H x → Holds F H' x
holds_same same A = record { at = λ e. A.at e ∙ same e }

module _ {K : Type 0} {F : Field K} {n W : ℕ} {ω : ℕ → ℕ} {H H' : ℕ → K} {v : ℕ → Polynomial F} (same : (x : ℕ) → H x ≡ H' x) where
  pub flat_same : Flat F n W ω H v → Flat F n W ω H' v
  flat_same A = record {
    lanes = A.lanes;
    lane = λ i h. record { at = λ e. (A.lane i h).at e ∙ same _ };
    beside = λ i e h l. sym (same _) ∙ A.beside i e h l;
  }

  pub held_same : {τ τ' : ℕ → K} → ((x : ℕ) → τ x ≡ τ' x) → Held F n W ω H τ v → Held F n W ω H' τ' v
  held_same tails A = record { block = flat_same A.block; tail = record { at = λ e. A.tail.at e ∙ tails e } }

module _ (p : ℕ) (prime : Prime p) where
  abbrev F : Field (Residue p)
  F = residues p prime

  module _ {n : ℕ} {ω : ℕ → ℕ} {l : List ℕ} {b N k : ℕ} {v : ℕ → Polynomial (residues p prime)} (ends : Ends p l b N k)
      (A : Flat (residues p prime) n lanes ω (words p prime l b N) v) where
    pub ends_pivot : 0 < k → Pivot (sized F) n ω v (row k) (height k)
    ends_pivot some = subst₂ (λ q d. Pivot (sized F) n ω v q d) (omega arith) (omega arith)
        (flat_pivot F A (k - 1) (omega arith) nonzero (λ x h. words_zero p prime l b N k ends.behind x (omega arith)))
      where
        nonzero : ¬ (words p prime l b N (k - 1) ≡ F.ring.zero)
        nonzero e = omega (arith, ends.last some, zero_word p prime l b N (k - 1) (omega (arith, ends.within)) e)

    pub ends_zero : k ≡ 0 → Vanishes (polynomials F) n v
    ends_zero none = flat_zero F A (λ x. words_zero p prime l b N k ends.behind x (omega arith))

  -- L1 in memory: slots have their pivots in place
  pub holds_filled : {n : ℕ} {ω : ℕ → ℕ} {L : Level} {U : Slots (Polynomial (residues p prime))} → ValidLevel p L
      → HoldsSlots p prime n ω L U → Filled (sized F) n ω U
  holds_filled {n} {ω} {L} {U} valid holds q h f =
      let A = (holds.vector q h f).block in
      let some : 0 < slot_size L q = omega (arith, holds.size q h) in
      let slot = valid.slot q (omega (arith, A.lanes)) in
      subst₂ (λ r d. Pivot (sized F) n ω (U.at q) r d) (slot.pivot some) (sym (holds.size q h)) (ends_pivot slot.block A some)

  -- the leading word is no zero, and reduced
  pub leading_residue : {M : Memory} → ValidHand p M → 0 < M.hand.size → (0 < M.hand.leading) × (M.hand.leading < p)
  leading_residue {M} valid some =
      let e = valid.leading some ∙ ap (λ i. get_or M.block i 0 % p) (sym (zero-add (M.hand.size - 1))) in (
        subst (λ x. 0 < x) (sym e) (valid.block.last some),
        subst (λ x. x < p) (sym e) (mod-lt _ (let large = prime.large in omega arith)),
      )

  -- where an insertion stops
  module _ {n : ℕ} {ω : ℕ → ℕ} {M : Memory} {s : State (Polynomial (residues p prime))} (valid : ValidHand p M)
      (holds : HoldsState p prime n ω M s) where
    pub holds_zero : M.hand.size ≡ 0 → Vanishes (polynomials F) n s.hand
    holds_zero none = ends_zero valid.block holds.hand.block none

    pub holds_pivot : 0 < M.hand.size → Pivot (sized F) n ω s.hand (row M.hand.size) s.size
    holds_pivot some = subst (Pivot (sized F) n ω s.hand (row M.hand.size)) (sym holds.size)
        (ends_pivot valid.block holds.hand.block some)

    pub holds_stuck : 0 < M.hand.size → slot_size M.level (row M.hand.size) ≡ 0 → Stuck (sized F) n ω s
    holds_stuck some empty =
        let P = holds_pivot some in record {
          at = row M.hand.size;
          pivot = P;
          empty = holds.slots.size _ P.inside ∙ omega arith;
        }
