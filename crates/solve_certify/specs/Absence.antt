-- The certificate of absence: stuck at row h, the second system of the last level with row h of the blocks for tails gives w and Y;
-- the certificate is w at h, minus Y elsewhere.
use Rattle.std.specs.Prelude.{ℕ, ◌+◌, ◌*◌, ◌<◌, ◌≤◌, ◌≡◌, List, length, get_or}
use Rattle.std.proofs.Common.{sym, ◌∙◌, ap, subst, inl, inr, ⊎_elim, arith}
use Rattle.algebra.specs.Monic.{Monic}
use Rattle.algebra.specs.Polynomial.{Polynomial, polynomials}
use Rattle.algebra.specs.Size.{sized}
use Rattle.modular.specs.Prime.{Prime}
use Rattle.modular.specs.Modulo.{modulo}
use Rattle.modular.specs.Residue.{residues}
use Rattle.residue.specs.Below.{neg_below}
use Rattle.vector.specs.Stored.{stored, length_stored, below_or_not}
use Rattle.reduction.specs.Total.{degrees}
use Rattle.reduction.specs.Replace.{replace_elim}
use Rattle.reduction.specs.Slots.{Slots, unweighted, tailed}
use Rattle.reduction.specs.Transpose.{Tops}
use Rattle.reduction.specs.Polynomials.{euclidean}
use Rattle.reduction.specs.Absence.{absence, absence_tops, absence_right, absence_sizes, absence_killing, absence_at}
use Rattle.reduction.specs.Holds.{Holds}
use Rattle.solve_lattice.specs.Word.{words}
use Rattle.solve_lattice.specs.Memory.{Level, ValidLevel}
use Rattle.solve_lattice.specs.Holding.{HoldsSlots}
use Rattle.solve_lattice.specs.Range.{words_apart}
use Rattle.solve_lattice.specs.Input.{Equations, input_system}
use Rattle.solve_lattice.specs.Output.{ValidOutput, HoldsAt, HoldsAbsence}
use Rattle.solve_second.specs.WithRow.{with_row, row_valid, row_holds}
use Rattle.solve_second.specs.Solved.{HasTops, HoldsSecond, SecondSolved}
use Rattle.solve_popov.specs.Words.{words_copied}
use Rattle.solve_lattice.specs.Room.{output_words, block_words, block_degrees, lanes}
use Rattle.solve_certify.specs.Words.{stored_below, holds_negated}
use Rattle.solve_certify.specs.Inserted.{HoldsStuck, slots_high, last_degrees}

pub record AbsenceFound (p n : ℕ) (L : Level) (h : ℕ) (output : List ℕ) : Type 0 where
  pub valid : ValidOutput p output
  pub holds : (prime : Prime p) (m : ℕ) (X : Equations p prime n m) (U : Slots (Polynomial (residues p prime)))
      → HoldsStuck p prime n m X U L h → HoldsAbsence p prime (input_system p prime n m X) output

-- the second system of these slots
module _ {p n m h : ℕ} {L : Level} (few_rows : n ≤ lanes) (level : ValidLevel p L) (prime : Prime p) (X : Equations p prime n m)
    (U : Slots (Polynomial (residues p prime))) (Q : HoldsStuck p prime n m X U L h) where
  abbrev rowed : Slots (Polynomial (residues p prime))
  rowed = tailed n U (λ q. U.at q Q.stuck.at)

  held : HoldsSlots p prime n unweighted (with_row h L) (tailed n U (λ q. U.at q Q.stuck.at))
  held = subst (λ k. HoldsSlots p prime n unweighted (with_row h L) (tailed n U (λ q. U.at q k))) (sym Q.at)
      (row_holds h level prime few_rows (omega (arith, Q.at, Q.stuck.pivot.inside)) Q.slots)

  tops : Tops (sized (residues p prime)) n (degrees n U.size) block_degrees (tailed n U (λ q. U.at q Q.stuck.at))
  tops = absence_tops (euclidean (residues p prime)) (input_system p prime n m X) Q.last Q.inserting Q.stuck block_degrees
      (slots_high prime few_rows (row_valid h level (omega (arith, Q.at, Q.stuck.pivot.inside))) held)

  pub stuck_tops : HasTops p n (with_row h L)
  stuck_tops = record {
    prime = prime;
    bound = degrees n U.size;
    small = (last_degrees prime few_rows Q.last).1;
    slots = rowed;
    holds = held;
    tops = tops;
  }

  stuck_second : {w rows : List ℕ} → SecondSolved p n (with_row h L) w rows
      → HoldsSecond p prime n (degrees n U.size) (tailed n U (λ q. U.at q Q.stuck.at)) w rows
  stuck_second solved = solved.solved prime (degrees n U.size) rowed (last_degrees prime few_rows Q.last).1 held tops

-- minus the rows at the places below n, then w at h
abbrev stored_absence : (p n h : ℕ) (w rows : List ℕ) → List ℕ
stored_absence p n h w rows =
    stored (λ j. get_or w (0 + j) 0) (stored (λ j. (modulo p).neg (get_or rows j 0)) rows 0 (block_words * n)) (block_words * h) block_words

module _ (p : ℕ) (prime₀ : Prime p) (n h : ℕ) (few_rows : n ≤ lanes) (inside : h < lanes) (w rows : List ℕ)
    (valid : ValidOutput p rows) where
  abbrev first : List ℕ
  first = stored (λ j. (modulo p).neg (get_or rows j 0)) rows 0 (block_words * n)

  first_length : length (stored (λ j. (modulo p).neg (get_or rows j 0)) rows 0 (block_words * n)) ≡ output_words
  first_length = length_stored (λ j. (modulo p).neg (get_or rows j 0)) rows 0 (block_words * n) ∙ valid.room

  absence_valid : ((i : ℕ) → get_or w i 0 < p) → ValidOutput p (stored_absence p n h w rows)
  absence_valid w_below = record {
    room = length_stored (λ j. get_or w (0 + j) 0) first (block_words * h) block_words ∙ first_length;
    below = stored_below p (λ j. get_or w (0 + j) 0) first (block_words * h) block_words some (λ j lt. w_below (0 + j))
        (stored_below p (λ j. (modulo p).neg (get_or rows j 0)) rows 0 (block_words * n) some
        (λ j lt. neg_below p prime₀.large (get_or rows j 0)) valid.below);
  }
    where
      some : 0 < p
      some = omega (arith, prime₀.large)

  module _ (prime : Prime p) {x : Polynomial (residues p prime)} where
    holds_here : Holds (residues p prime) (words p prime w 0 block_words) x → HoldsAt p prime (stored_absence p n h w rows) h x
    holds_here A = record {
      at = λ j. A.at j ∙ words_copied p prime w first 0 (block_words * h) block_words 0 (block_words * h) block_words
          (omega (arith, first_length))
          (omega arith) (omega arith) (omega arith) j;
    }

    holds_other : (i : ℕ) → i < n → ¬ (i ≡ h) → Holds (residues p prime) (words p prime rows (block_words * i) block_words) x
        → HoldsAt p prime (stored_absence p n h w rows) i ((polynomials (residues p prime)).neg x)
    holds_other i l ne A = record {
      at = λ j.
          (holds_negated p prime rows valid.below (block_words * n) (block_words * i) block_words (omega (arith, valid.room))
          (omega arith) A).at j
          ∙ sym (words_apart p prime (λ j. get_or w (0 + j) 0) first (block_words * h) block_words (block_words * i) block_words
          (⊎_elim (λ lt. inl (omega arith)) (λ ge. inr (omega arith)) (below_or_not i h)) j);
    }

stored_found : {p n h : ℕ} {L : Level} {w rows : List ℕ} → Prime p → n ≤ lanes → h < lanes → ValidLevel p L
    → SecondSolved p n (with_row h L) w rows → ValidOutput p rows → AbsenceFound p n L h (stored_absence p n h w rows)
stored_found {p} {n} {h} {L} {w} {rows} prime₀ few_rows inside level solved valid = record {
  valid = absence_valid p prime₀ n h few_rows inside w rows valid solved.w_below;
  holds = λ prime m X U Q.
      let S = stuck_second few_rows level prime X U Q solved in record {
        q = absence (polynomials (residues p prime)) Q.stuck.at S.polynomial S.Y;
        right = absence_right (euclidean (residues p prime)) (input_system p prime n m X) Q.last Q.inserting Q.stuck
            S.polynomial S.Y S.dual;
        small = λ i l. omega (
          arith,
          absence_sizes (euclidean (residues p prime)) (input_system p prime n m X) Q.last Q.inserting Q.stuck
              S.polynomial S.Y S.dual i l,
          (last_degrees prime few_rows Q.last).0,
        );
        killing = absence_killing (euclidean (residues p prime)) (input_system p prime n m X) Q.last Q.inserting Q.stuck
            S.polynomial S.Y S.dual;
        monic = subst (Monic (residues p prime)) (sym (absence_at (euclidean (residues p prime)) (input_system p prime n m X)
            Q.last
            Q.inserting Q.stuck S.polynomial S.Y S.dual)) S.monic;
        holds_q = λ i l. replace_elim (λ i x. i < n → HoldsAt p prime (stored_absence p n h w rows) i x)
            (λ k. (polynomials (residues p prime)).neg (S.Y k)) Q.stuck.at S.polynomial
            (λ _. subst (λ k. HoldsAt p prime (stored_absence p n h w rows) k S.polynomial) (sym Q.at)
            (holds_here p prime₀ n h few_rows inside w rows valid prime S.holds_w))
            i (λ ne l. holds_other p prime₀ n h few_rows inside w rows valid prime i l (λ e. ne (e ∙ sym Q.at))
            (S.holds_Y i l)) l;
      };
}

-- L9
pub absence_found : {p n h : ℕ} {L : Level} {w rows negated output : List ℕ} → Prime p → n ≤ lanes → h < lanes → ValidLevel p L
    → SecondSolved p n (with_row h L) w rows → length rows ≡ output_words
    → negated ≡ stored (λ j. (modulo p).neg (get_or rows j 0)) rows 0 (block_words * n)
    → output ≡ stored (λ j. get_or w (0 + j) 0) negated (block_words * h) block_words → AbsenceFound p n L h output
absence_found {p} {n} {h} {L} {w} prime₀ few_rows inside level solved room negates stores =
    subst (AbsenceFound p n L h) (sym (stores ∙ ap (λ l. stored (λ j. get_or w (0 + j) 0) l (block_words * h) block_words) negates))
    (stored_found prime₀ few_rows inside level solved (record { room = room; below = solved.rows_below }))
