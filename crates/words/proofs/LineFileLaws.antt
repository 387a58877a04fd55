-- The file of a sheet, of which one line is read: by its words, and when it is refused.
use Rattle.std.specs.Prelude.{◌≡◌, Bool, ◌||◌, ◌↔◌, List, ℕ, ◌*◌, ◌%◌, ◌≤◌, length}
use Rattle.std.proofs.Math.Path.{refl, sym, ap}
use Rattle.std.proofs.Common.{◌∙◌, arith}
use Rattle.std.proofs.Math.Bool.{true, false}
use borrow.Author.Tests.{eq-eqb, eqb-true, le-ltb, not-false}
use Rattle.words.specs.Limits.{Limits, longest_system}
use Rattle.words.specs.Word.{Bytes}
use Rattle.words.specs.Outcome.{refuse, followed_by}
use Rattle.words.specs.Outcome.Outcome.{accepted, refused}
use Rattle.words.specs.OutcomeLaws.{refuse_passed}
use Rattle.words.specs.System.{System, SystemWithin}
use Rattle.words.specs.Systems.{read_systems, line_of, read_line}
use Rattle.words.specs.Bytes.{words_of, bytes_of, broken, too_long, read_systems_file, read_line_file, word_bytes}
use Rattle.words.proofs.BytesLaws.{length_bytes_of, words_of_bytes_of, bytes_of_words_of, or_left}
use Rattle.words.specs.LimitsLaws.{LimitsFit}
use Rattle.words.proofs.SystemsLaws.{systems_words_most}
use Rattle.words.specs.Line.{LineIn, LineRefused}
use Rattle.words.specs.Line.LineRefused.{by_words, no_side}
use Rattle.words.proofs.LineLaws.{line_in_within, line_read_of_written, line_written_of_read, line_refused_iff}
use Rattle.words.specs.TenFirst.{LineFileRefused}
use Rattle.words.proofs.RefusedLaws.{ten_first_iff, ten_place}
use Rattle.words.specs.Rows.{RefusesBy, line_file_rows}
use Rattle.words.specs.RowLaws.{by_row}
use Rattle.words.proofs.SourceLaws.{line_rows_lem}

module _ (limits : Limits) (k : ℕ) where
  pub line_file_passed : (bytes : List ℕ) → length bytes % word_bytes ≡ 0 → length bytes ≤ word_bytes * longest_system limits
      → read_line_file limits k bytes ≡ read_line limits k (words_of bytes)
  unfolding read_line_file
  line_file_passed bytes h m = simp (eq-eqb _ _ h, le-ltb _ _ m)

  -- the line of a file is that of what is read of the file
  pub line_file : (bytes : List ℕ) → read_line_file limits k bytes ≡ followed_by (read_systems_file limits bytes) (line_of k)
  unfolding read_line_file read_systems_file read_line
  line_file bytes = each (broken bytes || too_long limits bytes)
    where
      each : (b : Bool) → refuse b 10 0 (read_line limits k (words_of bytes))
          ≡ followed_by (refuse b 10 0 (read_systems limits (words_of bytes))) (line_of k)
      each true = refl
      each false = refl

  module _ (fit : LimitsFit limits) where
    -- a line that was read from a file keeps the limits
    pub line_file_within : (s : System) (bytes : List ℕ) → read_line_file limits k bytes ≡ accepted s → SystemWithin limits s
    unfolding read_line_file
    line_file_within s bytes e =
        line_in_within limits fit k (words_of bytes)
        (line_written_of_read limits fit k (words_of bytes) (refuse_passed (broken bytes || too_long limits bytes) 10 0 _ e).1)

    -- the bytes of words that hold a line are read as it
    pub line_file_read : (s : System) (ws : List ℕ) → LineIn limits k s ws → read_line_file limits k (bytes_of ws) ≡ accepted s
    line_file_read s ws h =
        let n = length_bytes_of ws in
        let most = systems_words_most limits fit h.systems h.within in
        let long = ap length h.words in
        line_file_passed (bytes_of ws) (omega arith) (omega arith)
        ∙ ap (read_line limits k) (words_of_bytes_of ws)
        ∙ line_read_of_written limits fit k ws h

    -- a line is read just from the files of written forms that have it
    pub line_file_accepted_iff : (s : System) (bytes : List ℕ) → Bytes bytes → (read_line_file limits k bytes ≡ accepted s)
        ↔ ((ws : List ℕ) × (bytes ≡ bytes_of ws) × LineIn limits k s ws)
    unfolding read_line_file
    line_file_accepted_iff s bytes small = (
      λ e.
          let t = refuse_passed (broken bytes || too_long limits bytes) 10 0 _ e in
          let whole = eqb-true _ _ (not-false _ (or_left (broken bytes) (too_long limits bytes) t.0)) in
          (words_of bytes, sym (bytes_of_words_of bytes small whole), line_written_of_read limits fit k (words_of bytes) t.1),
      λ h. ap (read_line_file limits k) h.1 ∙ line_file_read s h.0 h.2,
    )

    -- a file is refused with 10, or as its words are
    pub line_file_refused_iff : (file : List ℕ) (number place : ℕ)
        → (read_line_file limits k file ≡ refused number place) ↔ LineFileRefused limits k file number place
    unfolding read_line_file
    line_file_refused_iff file =
        ten_first_iff (broken file || too_long limits file) (read_line limits k (words_of file)) _
        (line_refused_iff limits fit k (words_of file))

    -- so its place is at most the number of words of the longest sheet
    pub line_file_place : (file : List ℕ) {number place : ℕ} → read_line_file limits k file ≡ refused number place
        → place ≤ longest_system limits
    line_file_place file {number} {place} e =
        ten_place limits file (LineRefused limits k (words_of file)) inside ((line_file_refused_iff file number place).0 e)
      where
        inside : LineRefused limits k (words_of file) number place → place ≤ length (words_of file)
        inside (by_words h) = h.within
        inside (no_side s w within less n p) = omega (arith, p)

  -- 10 at 0, else a row of the line's words
  pub line_file_rows_lem : (file : List ℕ) → RefusesBy (line_file_rows (words_of file)) (read_line_file limits k file)
  unfolding read_line_file
  line_file_rows_lem file = by_row (broken file || too_long limits file) 10 ((line_rows_lem limits k).in_rows (words_of file))
