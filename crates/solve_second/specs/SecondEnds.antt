-- L8 in memory, the whole: the denominator, the right side times it, the division and the rows are the second system solved.
use Rattle.std.specs.Prelude.{ℕ, ◌+◌, ◌*◌, ◌<◌, ◌≤◌, ◌≡◌, List, length, get_or}
use Rattle.std.proofs.Common.{sym, ◌∙◌, ap, subst, ⊎_elim, arith}
use Rattle.algebra.specs.Polynomial.{Polynomial, polynomials, coefficients}
use Rattle.algebra.specs.Size.{size, sized, coefficients_beyond}
use Rattle.algebra.specs.Monic.{Monic}
use Rattle.modular.specs.Prime.{Prime}
use Rattle.modular.specs.Residue.{residues}
use Rattle.reduction.specs.Slots.{Slots, unweighted}
use Rattle.reduction.specs.Transpose.{Tops, back}
use Rattle.reduction.specs.Euclidean.{Associate}
use Rattle.reduction.specs.Polynomials.{associate}
use Rattle.reduction.specs.Holds.{Holds}
use Rattle.reduction.specs.Flat.{flat}
use Rattle.vector.specs.Stored.{stored, below_or_not}
use Rattle.solve_lattice.specs.Word.{residue, words, words_inside, words_behind, words_first}
use Rattle.solve_lattice.specs.Memory.{Level, ValidLevel}
use Rattle.solve_lattice.specs.Holding.{HoldsSlots}
use Rattle.solve_lattice.specs.Range.{words_shorter}
use Rattle.solve_lattice.specs.Quotients.{HoldsQuotient}
use Rattle.solve_lattice.specs.Room.{product_words, rows_words, block_words, block_degrees, lanes, most_coefficients, most_degree}
use Rattle.solve_second.specs.Greatest.{greatest}
use Rattle.solve_second.specs.SideInserted.{tops_lower}
use Rattle.solve_second.specs.SecondDual.{HoldsDual, divided_dual}
use Rattle.solve_second.specs.Solved.{HoldsSecond, SecondSolved}
use Rattle.solve_second.specs.Denominator.{FoundDenominator, DenominatorFound}
use Rattle.solve_second.specs.Scaled.{SideScaled}
use Rattle.solve_second.specs.DividedSecond.{DividedSecond}
use Rattle.solve_second.specs.QuotientRows.{quotient_word, row_cell, rows_below}

module _ {p n : ℕ} (small : n ≤ lanes) {L : Level} (valid : ValidLevel p L) {w : List ℕ} {count : ℕ}
    (found : DenominatorFound p n L w count) {block : List ℕ} (scaled : SideScaled p n L w count block)
    {quotients : List ℕ} (divided : DividedSecond p n L block quotients) (o : List ℕ) (room : rows_words ≤ length o)
    (behind : (i : ℕ) → rows_words ≤ i → get_or o i 0 < p) (rows : List ℕ)
    (er : rows ≡ stored (quotient_word quotients n) o 0 rows_words) where
  -- a quotient of at most 121 coefficients is in the 128 words of its row
  row_holds : (prime : Prime p) (k : ℕ) → k < n → (y : Polynomial (residues p prime)) → size (residues p prime) y ≤ most_coefficients
      → HoldsQuotient p prime quotients (back n k) y → Holds (residues p prime) (words p prime rows (block_words * k) block_words) y
  row_holds prime k h y short holds = record { at = λ e. ⊎_elim (near e) (far e) (below_or_not e block_words) }
    where
      near : (e : ℕ) → e < block_words → coefficients (residues p prime) y e ≡ words p prime rows (block_words * k) block_words e
      near e lt =
          holds.at e
          ∙ words_first p prime quotients product_words (flat lanes (back n k) e) (omega arith)
          ∙ ap (residue p prime) (sym (ap (λ l. get_or l (block_words * k + e) 0) er ∙ row_cell quotients n small o room k e h lt))
          ∙ sym (words_inside p prime rows (block_words * k) block_words e lt)

      far : (e : ℕ) → block_words ≤ e → coefficients (residues p prime) y e ≡ words p prime rows (block_words * k) block_words e
      far e ge = coefficients_beyond (residues p prime) y e (omega arith)
          ∙ sym (words_behind p prime rows (block_words * k) block_words e ge)

  module _ (prime : Prime p) (B : ℕ) (U : Slots (Polynomial (residues p prime))) (bound : B ≤ most_degree)
      (holds : HoldsSlots p prime n unweighted L U) (tops : Tops (sized (residues p prime)) n B block_degrees U) where
    F : FoundDenominator p prime n (greatest L n) U w
    F = found.found prime B U holds (tops_lower holds tops)

    abbrev m : Associate (sized (residues p prime)) (Monic (residues p prime)) (F.inserted.run.now.hand n)
    m = associate (residues p prime) (F.inserted.run.now.hand n) F.some

    abbrev x : Polynomial (residues p prime)
    x = (polynomials (residues p prime)).mul m.unit (F.inserted.run.now.hand n)

    factor : Holds (residues p prime) (words p prime w 0 count) x
    factor = record {
      at = λ e. F.holds.at e ∙ words_shorter p prime w 0 block_words count found.ends.within
          found.ends.behind e;
    }

    D : HoldsDual p prime n B (greatest L n) U x quotients
    D = divided_dual p prime (tops_lower holds tops) F.inserted m (divided.holds prime U holds)
        (scaled.holds prime U x valid holds factor) divided.divided

    holds_second : HoldsSecond p prime n B U w rows
    holds_second = record {
      polynomial = x;
      Y = D.Y;
      monic = m.monic;
      dual = D.dual;
      holds_w = F.holds;
      holds_Y = λ k h. row_holds prime k h (D.Y k)
          (omega (arith, D.dual.row_small k h)) (D.holds k h);
    }

  pub second_solved : SecondSolved p n L w rows
  second_solved = record {
    w_room = found.room;
    w_below = found.below;
    rows_below = subst (λ l. (i : ℕ) → get_or l i 0 < p) (sym er)
        (rows_below quotients n small o room p divided.divided.below behind);
    solved = holds_second;
  }
