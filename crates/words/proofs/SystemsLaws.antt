-- Sheets as words: the reader accepts just the written forms of systems within the limits and gives their values back.
use Rattle.std.specs.Prelude.{◌≡◌, refl, ◌↔◌, ℕ, ◌*◌, ◌≤◌, length}
use Rattle.std.proofs.Math.Path.{ap, ap₂}
use mathlib.Core.List.{List}
use Rattle.std.proofs.Math.Nat.{le_trans}
use Rattle.std.proofs.Common.{arith, take-append-drop, take_at, drop_at}
use Rattle.modular.specs.Bits.{bound4, most4}
use Rattle.words.specs.Limits.{Limits, longest_system}
use Rattle.words.specs.Outcome.Outcome.{accepted}
use Rattle.words.specs.Reading.{outcome}
use Rattle.words.specs.Frame.{Framed}
use Rattle.words.specs.Systems.{Head, Systems, HeadWithin, SystemsWithin, head_word, systems_entries, systems_words}
use Rattle.words.specs.Systems.{systems_head_from, systems_due, systems_of, systems_from, read_systems}
use Rattle.words.specs.LimitsLaws.{LimitsFit, system_count_most, words_for_most, words_for_small}
use Rattle.words.specs.VectorLaws.{vector_append, vector_take, vector_drop}
use Rattle.words.proofs.FrameLaws.{Expressible}
use Rattle.words.proofs.FormatLaws as format
use Rattle.words.proofs.FormatLaws.{Format, Parts, FormatLaws}
use Rattle.words.proofs.HeadLaws.{systems_head_laws}

-- the readers by their parts, which stay shut
pub systems_from_shown : (limits : Limits) (ws : List ℕ) → read_systems limits ws ≡ outcome (length ws) (systems_from limits ws)
unfolding read_systems
systems_from_shown limits ws = refl

module _ (limits : Limits) where
  abbrev pub systems_format : Format Head Systems
  systems_format = record {
    by = 0;
    head_from = systems_head_from limits;
    head_word = head_word;
    Valid = HeadWithin limits;
    due = systems_due limits;
    apart = λ s. record { head = s.head; entries = systems_entries s };
    together = systems_of;
    Within = SystemsWithin limits;
  }

  module _ (fit : LimitsFit limits) where
    systems_parts : (s : Systems) → SystemsWithin limits s → Parts systems_format (systems_format.apart s)
    systems_parts s h =
        record {
          valid = h.head;
          entries = vector_append s.head.shape.modulus limits.system_coefficients h.matrix h.side_entries;
        }

    systems_together : (f : Framed Head) → Parts systems_format f → SystemsWithin limits (systems_of f)
    unfolding systems_of
    systems_together f h =
        let g = f.head.shape in
        let sides = f.head.sides in
        record {
          head = h.valid;
          matrix = vector_take g.modulus limits.system_coefficients (g.rows * g.columns) (sides * g.rows) f.entries
              h.entries;
          side_entries = vector_drop g.modulus limits.system_coefficients (g.rows * g.columns) (sides * g.rows) f.entries
              h.entries;
        }

    systems_together_apart : (s : Systems) → SystemsWithin limits s → systems_of (systems_format.apart s) ≡ s
    unfolding systems_of
    systems_together_apart s h =
        let g = s.head.shape in
        ap₂ (λ (A B : List (List ℕ)). record { head = s.head; matrix = A; side_entries = B })
        (take_at s.matrix s.side_entries (g.rows * g.columns) h.matrix.count)
        (drop_at s.matrix s.side_entries (g.rows * g.columns) h.matrix.count)

    systems_apart_together : (f : Framed Head) → Parts systems_format f → systems_format.apart (systems_of f) ≡ f
    unfolding systems_of
    systems_apart_together f h =
        ap (λ (fs : List (List ℕ)). record { head = f.head; entries = fs })
        (take-append-drop (f.head.shape.rows * f.head.shape.columns) f.entries)

    pub systems_laws : FormatLaws systems_format
    systems_laws = record {
      head = systems_head_laws limits fit;
      apart = systems_parts;
      together = systems_together;
      together_apart = systems_together_apart;
      apart_together = systems_apart_together;
    }

    pub systems_expressible : (h : Head) → HeadWithin limits h → Expressible (systems_due limits h)
    systems_expressible h w =
        let m = w.shape.modulus in
        let r : h.shape.rows ≤ most4 = le_trans w.shape.rows.1 fit.rows in
        let c : h.shape.columns ≤ most4 = le_trans w.shape.columns.1 fit.columns in
        let b : h.sides ≤ bound4 = le_trans w.sides.1 fit.sides in
        record {
          modulus = omega arith;
          limit = omega arith;
          words = words_for_small (system_count_most r c b) fit.system_coefficients;
        }

    -- ---- the theorems

    pub systems_read_of_written : (s : Systems) → SystemsWithin limits s → read_systems limits (systems_words s) ≡ accepted s
    unfolding systems_words read_systems
    systems_read_of_written s h = format.read_of_written systems_format systems_laws systems_expressible s h

    pub systems_written_of_read : (ws : List ℕ) (s : Systems) → read_systems limits ws ≡ accepted s
        → (ws ≡ systems_words s) × SystemsWithin limits s
    unfolding systems_words read_systems
    systems_written_of_read ws s e = format.written_of_read systems_format systems_laws ws s e

    pub systems_accepted_iff : (ws : List ℕ) (s : Systems)
        → (read_systems limits ws ≡ accepted s) ↔ ((ws ≡ systems_words s) × SystemsWithin limits s)
    unfolding systems_words read_systems
    systems_accepted_iff ws s = format.accepted_iff systems_format systems_laws systems_expressible ws s

    pub systems_words_injective : (s t : Systems) → SystemsWithin limits s → SystemsWithin limits t → systems_words s ≡ systems_words t
        → s ≡ t
    unfolding systems_words
    systems_words_injective s t h k e = format.written_injective systems_format systems_laws systems_expressible s t h k e

    pub systems_words_most : (s : Systems) → SystemsWithin limits s → length (systems_words s) ≤ longest_system limits
    unfolding systems_words
    systems_words_most s h =
        let g = h.head.shape in
        le_trans (format.written_most systems_format systems_laws s h)
        (words_for_most limits.system_coefficients (system_count_most g.rows.1 g.columns.1 h.head.sides.1))
