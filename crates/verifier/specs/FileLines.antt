-- Lines that hold one system, of one file or of two: "two accepted sheets that agree in p, A and one line's right side", and "its
-- single sheet" (document 02, item 1). The check on files says the same of them.
use Rattle.std.specs.Prelude.{ℕ, ◌≤◌, ◌≡◌, ◌||◌, List}
use Rattle.std.proofs.Math.Path.{sym, ap₂}
use Rattle.std.proofs.Common.{◌∙◌, arith}
use Rattle.words.specs.Limits.{Limits}
use Rattle.words.specs.LimitsLaws.{LimitsFit}
use Rattle.words.specs.Outcome.{refuse}
use Rattle.words.specs.Outcome.Outcome.{accepted}
use Rattle.words.specs.OutcomeLaws.{refuse_passed}
use Rattle.words.specs.System.{System}
use Rattle.words.specs.Systems.{systems_words, single, read_line}
use Rattle.words.proofs.LineLaws.{line_in_within, line_written_of_read}
use Rattle.words.proofs.LineFileLaws.{line_file_read}
use Rattle.words.specs.Bytes.{words_of, bytes_of, broken, too_long, read_line_file}
use Rattle.truth.proofs.Lines.{single_line, line_verdict}
use Rattle.verifier.specs.File.{file_verdict}

module _ (limits : Limits) where
  pub line_file_verdict : (k j : ℕ) (f e : List ℕ) {s : System} → read_line_file limits k f ≡ accepted s
      → read_line_file limits j e ≡ accepted s → (g : List ℕ) → file_verdict limits k f g ≡ file_verdict limits j e g
  unfolding file_verdict read_line_file
  line_file_verdict k j f e x y g =
      let u = refuse_passed (broken f || too_long limits f) 10 0 (read_line limits k (words_of f)) x in
      let v = refuse_passed (broken e || too_long limits e) 10 0 (read_line limits j (words_of e)) y in
      ap₂ (λ b o. refuse (b || broken g) 10 0 o) (u.0 ∙ sym v.0)
      (line_verdict limits k j (words_of f) (words_of e) (u.1 ∙ sym v.1) (words_of g))

  -- a line's system alone, in a file of its own
  pub file_verdict_alone : LimitsFit limits → (k : ℕ) (f : List ℕ) {s : System} → read_line_file limits k f ≡ accepted s
      → (g : List ℕ) → file_verdict limits k f g ≡ file_verdict limits 0 (bytes_of (systems_words (single s))) g
  unfolding read_line_file
  file_verdict_alone fit k f {s} x =
      let u = refuse_passed (broken f || too_long limits f) 10 0 (read_line limits k (words_of f)) x in
      let l = line_written_of_read limits fit k (words_of f) u.1 in
      let some : 1 ≤ limits.sides = omega (arith, l.has, l.within.head.sides.1) in
      let alone = single_line limits some s (line_in_within limits fit k (words_of f) l) in
      line_file_verdict k 0 f (bytes_of (systems_words (single s))) x
      (line_file_read limits 0 fit s (systems_words (single s)) alone)
