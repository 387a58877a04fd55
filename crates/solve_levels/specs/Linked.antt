-- A column inserted into a level in memory: the level after it and the kernel, linked to the level before as `reduction` has it.
use Rattle.std.specs.Prelude.{ℕ, suc, ◌<◌, ◌≤◌, ◌≡◌, refl, List, length, get_or}
use Rattle.std.proofs.Common.{sym, ◌∙◌, subst, arith}
use Rattle.std.proofs.Math.Decide.{ℕ_discrete}
use Rattle.algebra.specs.Polynomial.{Polynomial, polynomials, coefficients_zero}
use Rattle.algebra.specs.Size.{sized}
use Rattle.modular.specs.Prime.{Prime}
use Rattle.modular.specs.Residue.{residues}
use Rattle.reduction.specs.Replace.{replace_here}
use Rattle.reduction.specs.Slots.{Slots, Filled, unweighted, put, put_same, put_here, same_refl}
use Rattle.reduction.specs.Trace.{Under, trace_under}
use Rattle.reduction.specs.Insert.{Stuck}
use Rattle.reduction.specs.Inserting.{begin, Inserting}
use Rattle.reduction.specs.Holds.{Holds}
use Rattle.reduction.specs.Link.{Link}
use Rattle.reduction.specs.Column.{link_put, link_kernel}
use Rattle.solve_lattice.specs.Word.{words}
use Rattle.solve_lattice.specs.Memory.{row, Ends, Level, ValidLevel, Memory, Valid}
use Rattle.solve_lattice.specs.Holding.{HoldsSlots, HoldsState, Reached}
use Rattle.solve_lattice.specs.Range.{words_zero}
use Rattle.solve_lattice.specs.Reading.{holds_zero, holds_pivot}
use Rattle.solve_lattice.specs.Lanes.{state_of, state_of_held}
use Rattle.solve_lattice.specs.Insertion.{Inserts}
use Rattle.solve_lattice.specs.Room.{block_words, block_degrees, lanes}
use Rattle.solve_levels.specs.Settled.{InsertionStopped, Settled}

-- after a column a, memory holds slots and a kernel that are linked to U
pub record Linked (p : ℕ) (prime : Prime p) (n δ : ℕ) (a : ℕ → Polynomial (residues p prime))
    (U : Slots (Polynomial (residues p prime))) (L : Level) (kernel : List ℕ) : Type 0 where
  pub slots : Slots (Polynomial (residues p prime))
  pub polynomial : Polynomial (residues p prime)
  pub holds : HoldsSlots p prime n unweighted L slots
  pub holds_kernel : Holds (residues p prime) (words p prime kernel 0 block_words) polynomial
  pub link : Link (sized (residues p prime)) n δ a U slots polynomial

-- the level L and the kernel, of so many words, after the hand of M is inserted
pub record AfterColumn (p : ℕ) (M : Memory) (L : Level) (kernel : List ℕ) (size : ℕ) : Type 0 where
  pub valid : ValidLevel p L
  pub kernel_room : length kernel ≡ block_words
  pub kernel_below : (j : ℕ) → j < block_words → get_or kernel j 0 < p
  pub kernel_ends : Ends p kernel 0 block_words size
  pub linked : (prime : Prime p) (n δ : ℕ) (U : Slots (Polynomial (residues p prime))) (a : ℕ → Polynomial (residues p prime))
      (d : ℕ) → Filled (sized (residues p prime)) n unweighted U → d ≤ suc δ
      → HoldsState p prime n unweighted M (begin (polynomials (residues p prime)) n U a d) → Linked p prime n δ a U L kernel

-- L1: blocks stay within 16 degrees, so what an insertion leaves has room in a slot
pub inserts_stopped : {p : ℕ} (prime : Prime p) {M M' : Memory} → Valid p M → M.hand.size ≤ block_words → Inserts p M M'
    → InsertionStopped p M'
inserts_stopped {p} prime {M} {M'} valid small done = record {
  stops = done.stops;
  block = omega (arith, under.hand, R.holds.size);
  tail = done.tail;
}
  where
    R : Reached p prime lanes unweighted (state_of p prime M) M'
    R = done.leads prime lanes unweighted (state_of p prime M) (state_of_held p prime M)

    under : Under lanes block_degrees R.now
    under = trace_under block_degrees (record {
      slots = λ q h. omega (arith, (valid.level.slot q h).block.within);
      hand = omega arith;
    }) R.trace

module _ {p : ℕ} {M M' : Memory} (done : Inserts p M M') {L : Level} {kernel : List ℕ} {size : ℕ}
    (settled : Settled p M' L kernel size) where
  module _ (prime : Prime p) (n δ : ℕ) (U : Slots (Polynomial (residues p prime))) (a : ℕ → Polynomial (residues p prime)) (d : ℕ)
      (full : Filled (sized (residues p prime)) n unweighted U) (small : d ≤ suc δ)
      (holds : HoldsState p prime n unweighted M (begin (polynomials (residues p prime)) n U a d)) where
    abbrev R : Reached p prime n unweighted (begin (polynomials (residues p prime)) n U a d) M'
    R = done.leads prime n unweighted (begin (polynomials (residues p prime)) n U a d) holds

    abbrev X : Inserting (sized (residues p prime)) n unweighted U a
    X = record { size = d; now = R.now; trace = R.trace }

    -- block zero
    linked_kernel : M'.hand.size ≡ 0 → Linked p prime n δ a U L kernel
    linked_kernel none =
        let same = settled.vanished none in record {
          slots = X.now.slots;
          polynomial = X.now.hand n;
          holds = subst (λ l. HoldsSlots p prime n unweighted l X.now.slots) (sym same.0) R.holds.slots;
          holds_kernel = record { at = λ e. R.holds.hand.tail.at e ∙ sym (same.1 prime e) };
          link = link_kernel (sized (residues p prime)) n δ a U full X X.now.slots
              (holds_zero p prime done.valid.hand R.holds none)
              (same_refl X.now.slots) (X.now.hand n) refl;
        }

    -- stuck
    linked_put : 0 < M'.hand.size → Linked p prime n δ a U L kernel
    linked_put some =
        let fills = settled.stuck some in
        let P = holds_pivot p prime done.valid.hand R.holds some in
        let q = row M'.hand.size in
        let K : Stuck (sized (residues p prime)) n unweighted X.now =
        record { at = q; pivot = P; empty = omega (arith, R.holds.slots.size q P.inside, done.stops some) } in
        let U' = put X.now.slots q X.now.hand X.now.size in
        let ends : Ends p kernel 0 block_words 0 = subst (Ends p kernel 0 block_words) fills.0 settled.kernel_ends in record {
          slots = U';
          polynomial = (polynomials (residues p prime)).zero;
          holds = fills.1 prime n unweighted X.now R.holds;
          holds_kernel = record {
            at = λ e. coefficients_zero (residues p prime) e
                ∙ sym (words_zero p prime kernel 0 block_words 0 ends.behind e (omega arith));
          };
          link = link_put (sized (residues p prime)) n δ a U full X U' K
              (put_same X.now.slots q X.now.hand X.now.size P.inside)
              (λ k l. put_here X.now.slots q X.now.hand X.now.size k)
              (replace_here X.now.slots.size q X.now.size) small;
        }

    linked_after : Linked p prime n δ a U L kernel
    linked_after = go (ℕ_discrete M'.hand.size 0)
      where
        go : Dec (M'.hand.size ≡ 0) → Linked p prime n δ a U L kernel
        go (yes e) = linked_kernel e
        go (no e) = linked_put (omega arith)

  pub after_column : AfterColumn p M L kernel size
  after_column = record {
    valid = settled.valid;
    kernel_room = settled.kernel_room;
    kernel_below = settled.kernel_below;
    kernel_ends = settled.kernel_ends;
    linked = linked_after;
  }
