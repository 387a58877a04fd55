-- The solver's refusals, each under its condition only (demand 1): those of the sheet's words, on files 10 before them, then 40,
-- then 11.
use Rattle.std.specs.Prelude.{ℕ, ◌*◌, ◌<◌, ◌≡◌, ◌↔◌, List, ◌∷◌, [], ◌++◌, length, ltb}
use Rattle.std.proofs.Math.Path.{sym}
use Rattle.std.proofs.Common.{◌∙◌, inl, inr, ⊎_elim, ltb-true, lt-ltb}
use Rattle.words.specs.Limits.{Limits, longest_certificate}
use Rattle.words.specs.LimitsLaws.{LimitsFit}
use Rattle.words.specs.Word.{Bytes}
use Rattle.words.specs.Outcome.{Outcome}
use Rattle.words.specs.Outcome.Outcome.{accepted, refused}
use Rattle.words.specs.OutcomeLaws.{refused_accepted, behind_refused_iff}
use Rattle.words.specs.System.{System}
use Rattle.words.specs.Systems.{read_line}
use Rattle.words.specs.Bytes.{words_of, bytes_of, read_line_file, word_bytes}
use Rattle.words.specs.Line.{LineIn, LineRefused}
use Rattle.words.proofs.LineLaws.{line_accepted_iff, line_refused_iff}
use Rattle.words.proofs.LineFileLaws.{line_file_accepted_iff, line_file_refused_iff, line_file_rows_lem}
use Rattle.words.specs.Certificate.{Certificate, certificate_words}
use Rattle.words.specs.TenFirst.{LineFileRefused}
use Rattle.words.proofs.SourceLaws.{line_rows_lem}
use Rattle.words.specs.Rows.{Row, RefusesBy, at_0, solver_rows, solver_file_rows}
use Rattle.words.specs.RowLaws.{by_accepted, by_row, by_followed}
use Rattle.solver.specs.Solving.{with_room, certificate_bytes, SolvesOr, Solves, SolvesFile}

-- "The solver reads the sheet, then looks at 11."
pub data RoomLast (Refused : (number place : ℕ) → Type 0) (IsSystem : System → Type 0) (longest lent number place : ℕ) : Type 0
  where
    by_reading : Refused number place → RoomLast Refused IsSystem longest lent number place
    -- "11: fewer words lent than the longest card has; 0"
    no_room : (s : System) → IsSystem s → lent < longest → number ≡ 11 → place ≡ 0
        → RoomLast Refused IsSystem longest lent number place

module _ (Refused : (number place : ℕ) → Type 0) (IsSystem : System → Type 0) (longest lent : ℕ) (read : Outcome System)
    (refusals : (n k : ℕ) → (read ≡ refused n k) ↔ Refused n k) (systems : (s : System) → (read ≡ accepted s) ↔ IsSystem s) where
  room_refused_iff : (n k : ℕ) → (with_room longest lent read ≡ refused n k) ↔ RoomLast Refused IsSystem longest lent n k
  room_refused_iff n k =
      let eleven = behind_refused_iff read (ltb lent longest) 11 0 n k in (
        λ e. ⊎_elim (λ r. by_reading ((refusals n k).0 r))
            (λ t. no_room t.0.0 ((systems t.0.0).0 t.0.1) (ltb-true lent longest t.1) t.2 t.3) (eleven.0 e),
        back,
      )
    where
      back : RoomLast Refused IsSystem longest lent n k → with_room longest lent read ≡ refused n k
      back (by_reading h) = (behind_refused_iff read (ltb lent longest) 11 0 n k).1 (inl ((refusals n k).1 h))
      back (no_room s h short en ek) =
          (behind_refused_iff read (ltb lent longest) 11 0 n k).1 (inr ((s, (systems s).1 h), lt-ltb lent longest short, en, ek))

module _ (limits : Limits) where
  -- the answer's refusal is that of what is to be solved
  answer_refused_iff : (write : Certificate → List ℕ) (o : Outcome System) (entry exit : List ℕ) (answer : Outcome ℕ)
      → SolvesOr limits write o entry exit answer → (n k : ℕ) → (answer ≡ refused n k) ↔ (o ≡ refused n k)
  unfolding SolvesOr
  answer_refused_iff write (refused m j) entry exit answer h n k = (λ e. let same = sym h.0 ∙ e in cc, λ e. h.0 ∙ (cc))
  answer_refused_iff write (accepted s) entry exit answer h n k =
      (λ e. absurd (refused_accepted (sym e ∙ h.1)), λ e. absurd (refused_accepted (sym e)))

  answer_rows : (write : Certificate → List ℕ) (o : Outcome System) (entry exit : List ℕ) (answer : Outcome ℕ)
      → SolvesOr limits write o entry exit answer → {rows : List Row} → RefusesBy rows o → RefusesBy rows answer
  answer_rows write o entry exit answer h rows =
      record { in_rows = λ n k e. rows.in_rows n k ((answer_refused_iff write o entry exit answer h n k).0 e) }

  room_rows : (longest lent : ℕ) (read : Outcome System) {rows : List Row} → RefusesBy rows read
      → RefusesBy (rows ++ at_0 11 ∷ []) (with_room longest lent read)
  room_rows longest lent read h = by_followed read _ h (λ s _. by_row (ltb lent longest) 11 (by_accepted s))

  -- on words
  module _ (k : ℕ) (ws entry exit : List ℕ) (answer : Outcome ℕ) (h : Solves limits k ws entry exit answer) where
    pub solve_refused_iff : LimitsFit limits → (number place : ℕ) → (answer ≡ refused number place)
        ↔ RoomLast (LineRefused limits k ws) (λ s. LineIn limits k s ws)
        (longest_certificate limits) (length entry) number place
    solve_refused_iff fit number place =
        let answered = answer_refused_iff certificate_words _ entry exit answer h number place in
        let room = room_refused_iff _ _ (longest_certificate limits) (length entry) (read_line limits k ws)
        (line_refused_iff limits fit k ws) (line_accepted_iff limits fit k ws) number place in
        (λ e. room.0 (answered.0 e), λ r. answered.1 (room.1 r))

    -- 1 to 9, 40 at 0, and 11 at 0
    pub solve_rows : RefusesBy (solver_rows ws) answer
    solve_rows = answer_rows certificate_words _ entry exit answer h
        (room_rows (longest_certificate limits) (length entry) (read_line limits k ws) ((line_rows_lem limits k).in_rows ws))

  -- on files
  module _ (k : ℕ) (file entry exit : List ℕ) (answer : Outcome ℕ) (h : SolvesFile limits k file entry exit answer) where
    pub solve_file_refused_iff : LimitsFit limits → Bytes file → (number place : ℕ) → (answer ≡ refused number place)
        ↔ RoomLast (LineFileRefused limits k file) (λ s. (ws : List ℕ) × (file ≡ bytes_of ws) × LineIn limits k s ws)
        (word_bytes * longest_certificate limits) (length entry) number place
    solve_file_refused_iff fit small number place =
        let answered = answer_refused_iff certificate_bytes _ entry exit answer h number place in
        let room = room_refused_iff _ _ (word_bytes * longest_certificate limits) (length entry) (read_line_file limits k file)
        (line_file_refused_iff limits k fit file) (λ s. line_file_accepted_iff limits k fit s file small) number place in
        (λ e. room.0 (answered.0 e), λ r. answered.1 (room.1 r))

    -- 10 at 0, 1 to 9, 40 at 0, and 11 at 0
    pub solve_file_rows : RefusesBy (solver_file_rows (words_of file)) answer
    solve_file_rows = answer_rows certificate_bytes _ entry exit answer h
        (room_rows (word_bytes * longest_certificate limits) (length entry) (read_line_file limits k file)
        (line_file_rows_lem limits k file))
