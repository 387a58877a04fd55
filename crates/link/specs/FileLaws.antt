-- Demand 3, its last sentence, on files, for each right side by itself: the check accepts the file that the solver gives for the
-- same system's file and right side.
use Rattle.std.specs.Prelude.{ℕ, ◌*◌, ◌≤◌, ◌<◌, ◌≡◌, refl, ◌||◌, List, length}
use Rattle.std.proofs.Math.Path.{ap, subst}
use Rattle.std.proofs.Common.{◌∙◌, le-ltb}
use Rattle.std.proofs.Math.ListN.{take}
use Rattle.words.specs.Limits.{Limits, longest_certificate}
use Rattle.words.specs.LimitsLaws.{LimitsFit}
use Rattle.words.specs.Outcome.{Outcome, refuse}
use Rattle.words.specs.Outcome.Outcome.{accepted}
use Rattle.words.specs.OutcomeLaws.{refuse_passed}
use Rattle.words.specs.System.{System}
use Rattle.words.specs.Systems.{Systems, SystemsWithin, systems_words, line, read_line}
use Rattle.words.proofs.LineLaws.{line_written_of_read}
use Rattle.words.specs.Bytes.{words_of, bytes_of, broken, too_long, read_line_file, word_bytes}
use Rattle.words.proofs.BytesLaws.{words_of_bytes_of}
use Rattle.words.proofs.LineFileLaws.{line_file_read}
use Rattle.words.specs.Certificate.{Certificate, certificate_words}
use Rattle.truth.specs.Verdict.{verdict}
use Rattle.truth.proofs.Accepted.{accepted_of_words}
use Rattle.verifier.specs.File.{file_verdict}
use Rattle.verifier.specs.Checked.{whole_words}
use Rattle.solver.specs.Solving.{with_room, file_to_solve, certificate_bytes, GivesRight, SolvesOr, SolvesFile}
use Rattle.solver.specs.SolvingLaws.{gives_words, solved_gives, line_of_written}

pub bytes_are : (c : Certificate) → certificate_bytes c ≡ bytes_of (certificate_words c)
unfolding certificate_bytes
bytes_are c = refl

module _ (limits : Limits) (fit : LimitsFit limits) (k : ℕ) (file entry exit : List ℕ) where
  -- the system's file is not at fault, the certificate's is whole words, and the check accepts their words
  pub gives_accepted : {s : System} {count : ℕ} → read_line_file limits k file ≡ accepted s
      → GivesRight limits certificate_bytes s entry exit count → file_verdict limits k file (take count exit) ≡ accepted tt
  unfolding read_line_file file_verdict
  gives_accepted {s} {count} e G =
      let ten = refuse_passed (broken file || too_long limits file) 10 0 (read_line limits k (words_of file)) e in
      let ws = certificate_words G.certificate in
      let bytes : take count exit ≡ bytes_of ws = gives_words G ∙ bytes_are G.certificate in
      let told_of = verdict limits k (words_of file) (words_of (take count exit)) in
      ap (λ b. refuse (b || broken (take count exit)) 10 0 told_of) ten.0
      ∙ ap (λ b. refuse b 10 0 told_of) (ap broken bytes ∙ whole_words ws)
      ∙ accepted_of_words limits fit k (words_of file) (words_of (take count exit)) (record {
        system = s;
        certificate = G.certificate;
        system_words = line_written_of_read limits fit k (words_of file) ten.1;
        certificate_words_lem = ap words_of bytes ∙ words_of_bytes_of ws;
        certificate_within = G.within;
        holds = G.right;
      })

  pub solved_file_accepted : (answer : Outcome ℕ) → SolvesFile limits k file entry exit answer → (count : ℕ)
      → answer ≡ accepted count → file_verdict limits k file (take count exit) ≡ accepted tt
  solved_file_accepted answer h count a =
      let given = solved_gives limits certificate_bytes (word_bytes * longest_certificate limits) (length entry)
      (read_line_file limits k file)
      entry exit answer h count a in
      gives_accepted given.1 given.2.given

-- systems within the limits have a file, and for each right side that they have the solver gives a certificate's file for it, which
-- the check accepts
module _ (limits : Limits) (fit : LimitsFit limits) (s : Systems) (within : SystemsWithin limits s) (k : ℕ)
    (has : k < s.head.sides) where
  abbrev file : List ℕ
  file = bytes_of (systems_words s)

  pub line_of_file : read_line_file limits k (bytes_of (systems_words s)) ≡ accepted (line s k)
  line_of_file = line_file_read limits k fit (line s k) (systems_words s) (line_of_written limits s within k has)

  module _ (entry exit : List ℕ) (room : word_bytes * longest_certificate limits ≤ length entry) (answer : Outcome ℕ) where
    to_solve : file_to_solve limits k (length entry) file ≡ accepted (line s k)
    to_solve =
        ap (with_room (word_bytes * longest_certificate limits) (length entry)) line_of_file
        ∙ ap (λ t. refuse t 11 0 (accepted (line s k))) (le-ltb (length entry) (word_bytes * longest_certificate limits) room)

    pub every_file_solved : SolvesFile limits k (bytes_of (systems_words s)) entry exit answer
        → (count : ℕ) × (answer ≡ accepted count)
        × (file_verdict limits k (bytes_of (systems_words s)) (take count exit) ≡ accepted tt)
    unfolding SolvesOr
    every_file_solved h =
        let given = subst (λ o. SolvesOr limits certificate_bytes o entry exit answer) to_solve h in
        (given.0, given.1, solved_file_accepted limits fit k file entry exit answer h given.0 given.1)
