-- How an insertion begins in memory and how it ends: slots with tails 0 and a hand with tail 1; then a state that is reached from
-- there, with the hand's block zero or stuck. By L4 tails have at most 121 coefficients all the way.
use Rattle.std.specs.Prelude.{ℕ, zero, suc, ◌+◌, ◌-◌, ◌*◌, ◌%◌, ◌<◌, ◌≤◌, ◌≡◌, get_or}
use Rattle.std.proofs.Common.{sym, ◌∙◌, inl, inr, arith}
use Rattle.std.proofs.Math.Decide.{ℕ_discrete}
use Rattle.algebra.specs.Series.{unit}
use Rattle.algebra.specs.Polynomial.{Polynomial, polynomials, coefficients_one}
use Rattle.algebra.specs.Size.{size, sized, size_none, coefficients_beyond}
use Rattle.modular.specs.Prime.{Prime}
use Rattle.modular.specs.Residue.{residues}
use Rattle.reduction.specs.Total.{degrees, total_le, total_constant}
use Rattle.reduction.specs.Slots.{unweighted}
use Rattle.reduction.specs.Tails.{tails_room_hand}
use Rattle.reduction.specs.Trace.{State}
use Rattle.reduction.specs.Kept.{InsertionBegins, trace_kept}
use Rattle.reduction.specs.Insert.{Stop, Inserted}
use Rattle.reduction.specs.Holds.{holds_size, holds_unique}
use Rattle.solve_lattice.specs.Room.{block_words, slot_words, tail_words, lanes, most_coefficients, last_degree, most_degree}
use Rattle.solve_lattice.specs.Word.{words, words_first, residue_one}
use Rattle.solve_lattice.specs.Memory.{row, height, ZeroFrom, slot_size, tail_size, Memory, Valid}
use Rattle.solve_lattice.specs.Holding.{HoldsState, Reached, Leads}
use Rattle.solve_lattice.specs.Range.{words_zero, zero_word}
use Rattle.solve_lattice.specs.Reading.{holds_filled, holds_zero, holds_stuck}
use Rattle.solve_lattice.specs.Lanes.{state_of, state_of_held}

pub record Starts (p : ℕ) (M : Memory) : Type 0 where
  pub tails : (q : ℕ) → q < lanes → tail_size M.level q ≡ 0
  pub tail : M.hand.tail_size ≡ 1
  pub one : get_or M.tail 0 0 % p ≡ 1

pub record Inserts (p : ℕ) (M M' : Memory) : Type 0 where
  pub valid : Valid p M'
  pub leads : Leads p M M'
  pub stops : 0 < M'.hand.size → slot_size M'.level (row M'.hand.size) ≡ 0
  pub tail : ZeroFrom p M'.tail 0 tail_words most_coefficients

module _ (p : ℕ) (prime : Prime p) where
  -- it is the insertion of `reduction`, and memory holds its last state
  pub inserts_inserted : {n : ℕ} {ω : ℕ → ℕ} {M M' : Memory} {s : State (Polynomial (residues p prime))} → Inserts p M M'
      → HoldsState p prime n ω M s → (i : Inserted (sized (residues p prime)) n ω s) × HoldsState p prime n ω M' i.last
  inserts_inserted {n} {ω} {M} {M'} {s} done holds =
      (record { last = R.now; trace = R.trace; stop = go (ℕ_discrete M'.hand.size 0) }, R.holds)
    where
      R : Reached p prime n ω s M'
      R = done.leads prime n ω s holds

      go : Dec (M'.hand.size ≡ 0) → Stop (sized (residues p prime)) n ω R.now
      go (yes e) = inl (holds_zero p prime done.valid.hand R.holds e)
      go (no e) = inr (holds_stuck p prime done.valid.hand R.holds (omega arith) (done.stops (omega arith)))

  module _ {M : Memory} (valid : Valid p M) (starts : Starts p M) where
    module _ {n : ℕ} {ω : ℕ → ℕ} {s : State (Polynomial (residues p prime))} (holds : HoldsState p prime n ω M s) where
      tail_zero : (q : ℕ) → q < n → 0 < s.slots.size q → s.slots.at q n ≡ (polynomials (residues p prime)).zero
      tail_zero q h f =
          let A = holds.slots.vector q h f in
          let inside : q < lanes = omega (arith, A.block.lanes) in
          let behind = (valid.level.slot q inside).tail in
          let none : size (residues p prime) (s.slots.at q n) ≤ 0 =
          holds_size (residues p prime) A.tail 0
          (λ j l. words_zero p prime M.level (slot_words * q + block_words) block_words _ behind j
          (omega (arith, starts.tails q inside))) in
          size_none (residues p prime) (s.slots.at q n) (omega arith)

      tail_one_lem : s.hand n ≡ (polynomials (residues p prime)).one
      tail_one_lem = holds_unique (residues p prime) holds.hand.tail
          (record { at = λ k. coefficients_one (residues p prime) k ∙ at k })
        where
          at : (k : ℕ) → unit (residues p prime).ring k ≡ words p prime M.tail 0 tail_words k
          at zero = sym (words_first p prime M.tail tail_words 0 (omega arith) ∙ residue_one p prime _ starts.one)
          at (suc k) = sym (words_zero p prime M.tail 0 tail_words M.hand.tail_size valid.hand.tail (suc k)
              (omega (arith, starts.tail)))

      pub starts_begins : InsertionBegins (sized (residues p prime)) n ω s
      starts_begins = record {
        filled = holds_filled p prime valid.level holds.slots;
        tails = tail_zero;
        tail = tail_one_lem;
      }

    -- blocks of at most `block_degrees` degrees: their degrees come to at most `most_degree`
    degrees_most : degrees lanes (λ q. height (slot_size M.level q)) ≤ most_degree
    degrees_most = omega (
      arith,
      total_le lanes (λ q. height (slot_size M.level q) - 1) (λ q. last_degree)
          (λ q h. omega (arith, (valid.level.slot q h).block.within)),
      total_constant lanes last_degree,
    )

    -- L4: the tail has room
    pub starts_room : {M' : Memory} → Leads p M M' → ZeroFrom p M'.tail 0 tail_words most_coefficients
    starts_room {M'} leads j h lt = zero_word p prime M'.tail 0 tail_words j lt
        (sym (R.holds.hand.tail.at j)
        ∙ coefficients_beyond (residues p prime) (R.now.hand lanes) j (omega (arith, small, degrees_most)))
      where
        R : Reached p prime lanes unweighted (state_of p prime M) M'
        R = leads prime lanes unweighted (state_of p prime M) (state_of_held p prime M)

        small : size (residues p prime) (R.now.hand lanes) ≤ suc (degrees lanes (λ q. height (slot_size M.level q)))
        small = tails_room_hand (polynomials (residues p prime))
            (trace_kept (starts_begins (state_of_held p prime M)) R.trace).tails
