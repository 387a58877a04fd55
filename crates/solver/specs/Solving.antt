-- What the solver gives, for every list of words, every right side that is asked for, and whatever words are lent (document 01,
-- "Turned back" and "Four questions"; document 02, item 1: it is "told which right side is meant").
use Rattle.std.specs.Prelude.{ℕ, ◌*◌, ◌≡◌, List, length, ltb}
use Rattle.words.specs.Limits.{Limits, longest_certificate}
use Rattle.words.specs.Outcome.{Outcome, refuse, followed_by}
use Rattle.words.specs.Outcome.Outcome.{accepted, refused}
use Rattle.words.specs.System.{System, shape}
use Rattle.words.specs.Systems.{read_line}
use Rattle.words.specs.Bytes.{bytes_of, read_line_file, word_bytes}
use Rattle.words.specs.Certificate.{Certificate, CertificateWithin, certificate_words}
use Rattle.truth.specs.Solution.{Answers}
use Rattle.truth.specs.Right.{Right}
use Rattle.truth.specs.Chosen.{Chosen}
use Rattle.write_frame.specs.Overwriting.{overwritten}
use Rattle.solve_meaning.specs.Answers.{answer_of}

-- what was read is the system to solve, if there is room for the longest certificate: "The solver reads the sheet, then looks at
-- 11."; 40 is "after the sheet has been read and before 11"
abbrev pub with_room : (longest lent : ℕ) → Outcome System → Outcome System
with_room longest lent read =
    followed_by read (λ s.
    refuse (ltb lent longest) 11 0  -- 11: fewer words lent than the longest card has
    (accepted s))

abbrev pub system_to_solve : Limits → (k lent : ℕ) → List ℕ → Outcome System
system_to_solve limits k lent ws = with_room (longest_certificate limits) lent (read_line limits k ws)

-- A right certificate stands over the first of the lent words: "they keep the degree bound, the check's conditions hold of the
-- card, its words are its written form, and the returned count is theirs." "Lent words behind the card keep their values." A
-- certificate is written as words, or as bytes of a file.
pub record GivesRight (limits : Limits) (write : Certificate → List ℕ) (s : System) (entry exit : List ℕ) (count : ℕ) : Type 0 where
  pub certificate : Certificate
  pub within : CertificateWithin limits (shape s) certificate
  pub right : Right s certificate
  pub answers : Answers s (answer_of certificate)
  pub words : exit ≡ overwritten (write certificate) entry
  pub same_count : count ≡ length (write certificate)

-- Nothing of the certificate is free: it is the chosen one, of which a system has only one (`gives_certificate`).
pub record Gives (limits : Limits) (write : Certificate → List ℕ) (s : System) (entry exit : List ℕ) (count : ℕ) : Type 0 where
  pub given : GivesRight limits write s entry exit count
  pub chosen : Chosen s given.certificate

-- "A refusal gives a number and a place, and no lent word changes."
unfoldable pub SolvesOr : Limits → (Certificate → List ℕ) → Outcome System → (entry exit : List ℕ) → Outcome ℕ → Type 0
SolvesOr limits write (refused number place) entry exit answer = (answer ≡ refused number place) × (exit ≡ entry)
SolvesOr limits write (accepted s) entry exit answer =
    (count : ℕ) × (answer ≡ accepted count) × Gives limits write s entry exit count

-- the answer to the words of a sheet, of which line k is asked for, and the lent words before and after
abbrev pub Solves : Limits → (k : ℕ) → List ℕ → (entry exit : List ℕ) → Outcome ℕ → Type 0
Solves limits k ws entry exit answer =
    SolvesOr limits certificate_words (system_to_solve limits k (length entry) ws) entry exit answer

-- ---- files

-- with 10 before all others; 11 where fewer bytes are lent than the longest certificate's file has
abbrev pub file_to_solve : Limits → (k lent : ℕ) → List ℕ → Outcome System
file_to_solve limits k lent file = with_room (word_bytes * longest_certificate limits) lent (read_line_file limits k file)

unfoldable pub certificate_bytes : Certificate → List ℕ
unfolding bytes_of certificate_words
certificate_bytes c = bytes_of (certificate_words c)

-- the answer to the bytes of a sheet's file, of which line k is asked for, and the lent bytes before and after
abbrev pub SolvesFile : Limits → (k : ℕ) → List ℕ → (entry exit : List ℕ) → Outcome ℕ → Type 0
SolvesFile limits k file entry exit answer =
    SolvesOr limits certificate_bytes (file_to_solve limits k (length entry) file) entry exit answer
