-- The customer's three demands, each sentence as a field, each proved from the laws below it; and behind them what document 02
-- asks: item 1 of lines that share a matrix, item 2 of delay and feedback, item 4 of the panel. "Sheet" is a system here, or
-- several with one matrix, "card" a certificate. What a call gives is what its contract says: `Solves` and `verdict` for the solver
-- and the check on words, `SolvesPacked` for the number and the bytes of `yezsdolak_solve`, `check_gives` for the number of
-- `yezsdolak_check`, `panel_gives` for that of `yezsdolak_panel_check`, `ReportsPacked` for the number and the bytes of
-- `yezsdolak_report`, `GivesPacked` and `packed` for `yezsdolak_write_system`, `_lookup`, `_shape` and `_kind`, `Writes` for the
-- writers, `LoadsSystem` and `LoadsCertificate` for the calls that hand out values, `polynomial_lookup` for the lookup, `Opened` for
-- the words of a file. Each of these has a contract without `requires`, so it is proved for all that is lent that the call reads
-- and writes nothing beside it and returns.
use Rattle.std.specs.Prelude.{ℕ, ◌+◌, ◌*◌, ◌/◌, ◌%◌, ◌≤◌, ◌<◌, ◌≡◌, refl, ◌↔◌, Bool, true, false, ◌||◌, List, [], length, take, Result, Ok, Err}
use Rattle.std.proofs.Common.{ap, subst, arith, le-ltb}
use Rattle.modular.specs.Prime.{Prime}
use Rattle.modular.specs.Canonical.{Canonical}
use Rattle.modular.specs.Delay.{delay, undelayed, feedback}
use Rattle.words.specs.Limits.{office, panel, system_count, solution_count, longest_system, longest_certificate}
use Rattle.words.specs.LimitsLaws.{office_fits, panel_fits, panel_narrower}
use Rattle.words.specs.Word.{Bytes}
use Rattle.words.specs.Outcome.{Outcome, refuse, mapped, followed_by}
use Rattle.words.specs.Outcome.Outcome.{accepted, refused}
use Rattle.words.specs.System.{System, Shape, shape, ShapeWithin, SystemWithin}
use Rattle.words.specs.Systems.{Systems, Head, SystemsWithin, systems_words, line, single, read_systems, read_line}
use Rattle.words.proofs.SystemsLaws.{systems_accepted_iff, systems_read_of_written, systems_words_injective}
use Rattle.words.specs.Line.{LineIn, LineRefused}
use Rattle.words.proofs.LineLaws.{line_within, line_in_within, line_read_of_written, line_refused_iff}
use Rattle.words.proofs.LineFileLaws.{line_file_refused_iff}
use Rattle.words.specs.Before.{ZeroBits, read_before, longest_before, read_before_file}
use Rattle.words.proofs.BeforeLaws.{before_read, before_line, before_accepted, before_file, before_line_file}
use Rattle.words.specs.Certificate.{Certificate, Form, CertificateWithin, certificate_form, certificate_words, read_certificate}
use Rattle.words.proofs.CertificateLaws.{certificate_accepted_iff, certificate_read_of_written, certificate_words_injective}
use Rattle.words.proofs.CertificateLaws.{certificate_words_most}
use Rattle.words.proofs.KeptLaws.{systems_wider, certificate_wider}
use Rattle.words.specs.Bytes.{words_of, bytes_of, broken, read_systems_file, read_line_file, word_bytes}
use Rattle.words.specs.Table.{ByTable, system_table, certificate_table, PolynomialsByTable}
use Rattle.words.specs.Reading.{used}
use Rattle.words.specs.Polynomial.{polynomial_from, polynomials_from}
use Rattle.words.proofs.PolynomialsRefused.{polynomial_refused_iff, polynomials_refused_iff}
use Rattle.words.specs.TenFirst.{FileRefused, LineFileRefused}
use Rattle.words.specs.Pair.{PairRefused, WrittenPair, whole, one_line}
use Rattle.words.proofs.RefusedLaws.{systems_refused_iff, certificate_refused_iff, file_refused_iff}
use Rattle.truth.specs.Solution.{RationalSolution, Answers}
use Rattle.truth.specs.Solution.Answer.{least}
use Rattle.truth.specs.Verdict.{certificate_verdict, verdict}
use Rattle.truth.proofs.Accepted.{AcceptedWords, proper}
use Rattle.truth.proofs.CertifiedWords.{CertifiedWords, accepted_iff_certified}
use Rattle.truth.specs.TurnedBack.{Fault}
use Rattle.truth.proofs.RefusedWords.{words_refused_iff}
use Rattle.truth.proofs.DemandLaws.{Says, Agree, accepted_says, verdicts_agree}
use Rattle.truth.specs.Feedback.{TakenOut, SolutionWith, LeastOfEither, SaysLeast}
use Rattle.truth.proofs.FeedbackLaws.{taken_out, taken_out_only, solution_with, solution_one, answer_least, says_least, least_one}
use Rattle.truth.specs.Chosen.{Chosen}
use Rattle.files.specs.Opening.{Opened}
use Rattle.files.specs.OpeningLaws.{opened_unchanged}
use Rattle.files.specs.OpeningBoth.{files_broken}
use Rattle.verifier.specs.File.{file_verdict, panel_verdict}
use Rattle.verifier.specs.Panel.{PanelRefused}
use Rattle.truth.specs.Within.{Keeps}
use Rattle.verifier.specs.Checked.{CertifiedFiles, system_of_file, files_true}
use Rattle.verifier.specs.FilesRefused.{FilesRefused}
use Rattle.lookup.specs.Lookup.{Of, polynomial_lookup}
use Rattle.lookup.specs.RefusedLaws.{NoPolynomial, lookup_refused_iff}
use Rattle.answers.specs.declared.answer.Refusal.{Refusal}
use Rattle.answers.specs.declared.shape.Form.{Form as FormValue}
use Rattle.answers.specs.declared.shape.Head.{Head as HeadValue}
use Rattle.answers.specs.Answer.{system_outcome, certificate_outcome}
use Rattle.answers.specs.Packed.{packed, packed_verdict, place_unit, number_most}
use Rattle.writer.specs.Writing.{write_systems, write_certificate, Writes}
use Rattle.writer.specs.Values.{system_in_arrays, certificate_in, certificate_stride}
use Rattle.writer.specs.Refused.{SystemFault, CertificateFault}
use Rattle.writer.proofs.RefusedLaws.{system_refused_iff_fault, certificate_refused_iff_fault, refused_lent}
use Rattle.writer.specs.WrittenBackLaws.{WritesBack}
use Rattle.values.specs.Loading.{LoadsSystem, LoadsCertificate}
use Rattle.values.proofs.LoadedLaws.{system_load_refused, certificate_load_refused}
use Rattle.values.specs.RefusedLaws.{ShapeFirst, system_load_refused_iff, certificate_load_refused_iff}
use Rattle.values.specs.HeldLaws.{InArrays, system_held, certificate_held}
use Rattle.values.proofs.RoundTrip.{SystemRoom, CertificateRoom, WritesSystem, WritesCertificate}
use Rattle.values.proofs.RoundTrip.{system_writes_form, certificate_writes_form}
use Rattle.values.proofs.RoundTrip.{system_reads_back, system_loads_back, certificate_reads_back, certificate_loads_back}
use Rattle.solve_meaning.specs.Answers.{answer_of}
use Rattle.solve_meaning.specs.Existence.{office_certificate, office_suffices, chosen_certificate_chosen, chosen_certificate_same}
use Rattle.solver.specs.Solving.{Solves, system_to_solve, with_room, SolvesOr, certificate_bytes}
use Rattle.solver.specs.SolvingLaws.{line_of_written, every_system_solved, refused_unchanged as words_unchanged}
use Rattle.solver.specs.RefusedLaws.{RoomLast, solve_refused_iff}
use Rattle.solver.proofs.OneCertificate.{GivesWords, Call, SameGiven, solved_certificate}
use Rattle.solver.proofs.SameLine.{SameLine, same_line_given, alone_given}
use Rattle.report_text.specs.Text.{solution_text, report_text}
use Rattle.report_text.specs.TextLaws.{text_apart}
use Rattle.report_text.specs.Longest.{report_space}
use Rattle.report.specs.ReportingLaws.{reports_text}
use Rattle.report.specs.Reporting.{Reports, ReportOf}
use Rattle.report.specs.LeastReported.{ReportSays}
use Rattle.report.proofs.LeastReportedLaws.{report_of_certificate, file_says}
use Rattle.link.specs.Packed.{SolvesPacked, ReportsPacked}
use Rattle.link_values.specs.Files.{file_shape, file_kind, file_lookup, write_systems_file}
use Rattle.link_values.specs.Giving.{GivesPacked}
use Rattle.link_values.proofs.RefusedLaws.{FilesRefusedBy, NothingTried, shape_gives_iff, kind_gives_iff, lookup_gives_iff}
use Rattle.link_values.proofs.RefusedLaws.{write_gives_iff, unchanged_lookup, unchanged_write}
use Rattle.link.specs.PackedLaws.{solver_refused_iff, packed_same, packed_unique, report_unpacked}
use Rattle.link.specs.Checked.{check_gives, checked_iff, checked_says, checked_refused_iff, checked_agree, checked_same}
use Rattle.link.specs.Checked.{checked_alone, checked_no_side}
use Rattle.link.specs.Together.{checked_after, line_certificate, CertificateBytesIn, every_system_checked}
use Rattle.link.specs.Together.{every_system_certificate, SameBytes, same_line_bytes, alone_bytes, solved_no_side}
use Rattle.link.specs.Together.{refused_unchanged}
use Rattle.link.specs.PackedLaws.{unpacked_verdict}
use Rattle.link.specs.Panel.{panel_gives, panel_iff, panel_certified, panel_says, panel_agree, panel_solved, panel_gives_iff}
use Rattle.link.specs.Panel.{TooLarge, panel_ten, panel_forty, panel_large, panel_system_large, panel_certificate_large}
use Rattle.link.specs.Panel.{panel_sizes, panel_unpacked, panel_small}

-- 1. "No words handed in, for sheet or card, can make a call read outside them, fail to end, or change a lent word when it refuses;
-- each refusal has the number and place on the table, and is given under that condition only."
pub record Demand1 : Type 0 where
  -- a refusal of the solver, of the writers, of the calls that hand out values, on words and on files, and of the call that opens a
  -- file. What other calls are lent they cannot change, but for the report, which refuses nothing.
  pub unchanged_solve : (k : ℕ) (ws entry exit : List ℕ) (answer : Outcome ℕ) → Solves office k ws entry exit answer
      → {number place : ℕ} → answer ≡ refused number place → exit ≡ entry
  pub unchanged_open : {limit : ℕ} {bytes entry exit : List ℕ} {told : Outcome ℕ} → Opened limit bytes entry exit told
      → {number place : ℕ} → told ≡ refused number place → exit ≡ entry
  pub unchanged : {k : ℕ} {file entry exit : List ℕ} {r : ℕ} → SolvesPacked office k file entry exit r → ¬ (r % place_unit ≡ 0)
      → exit ≡ entry
  pub unchanged_writing : {o : Outcome (List ℕ)} {entry exit : List ℕ} {r : Refusal} → Writes o entry (Err r) exit
      → exit ≡ entry
  pub unchanged_system : {ws sizes sizes' values values' : List ℕ} {answer : Result HeadValue Refusal}
      → LoadsSystem office ws answer sizes sizes' values values' → {number place : ℕ} → system_outcome answer ≡ refused number place
      → (sizes' ≡ sizes) × (values' ≡ values)
  pub unchanged_certificate : {h : Shape} {cs sizes sizes' values values' : List ℕ} {answer : Result FormValue Refusal}
      → LoadsCertificate office h cs answer sizes sizes' values values' → {number place : ℕ}
      → certificate_outcome answer ≡ refused number place → (sizes' ≡ sizes) × (values' ≡ values)
  pub unchanged_lookup : (f g : List ℕ) (of : Of) (k : ℕ) {entry exit : List ℕ} {r : ℕ}
      → GivesPacked (file_lookup office f g of k) entry exit r → ¬ (r % place_unit ≡ 0) → exit ≡ entry
  pub unchanged_write_file : (h : Head) (sizes values : List ℕ) {entry exit : List ℕ} {r : ℕ}
      → GivesPacked (write_systems_file office (length entry) (system_in_arrays office h sizes values)) entry exit r
      → ¬ (r % place_unit ≡ 0)
      → exit ≡ entry
  -- rows 1 to 9, of a sheet's words; behind them 40, of one right side; 21 and 24 to 29, of a card's words; 10 before all others,
  -- of a file
  pub system : (ws : List ℕ) (number place : ℕ)
      → (read_systems office ws ≡ refused number place) ↔ ByTable (system_table office) 0 ws number place
  pub one_line_lem : (k : ℕ) (ws : List ℕ) (number place : ℕ)
      → (read_line office k ws ≡ refused number place) ↔ LineRefused office k ws number place
  pub certificate : (h : Shape) (cs : List ℕ) (number place : ℕ)
      → (read_certificate office h cs ≡ refused number place) ↔ ByTable (certificate_table office h) 20 cs number place
  pub file : (bytes : List ℕ) (number place : ℕ)
      → (read_systems_file office bytes ≡ refused number place) ↔ FileRefused office bytes number place
  pub line_file : (k : ℕ) (bytes : List ℕ) (number place : ℕ)
      → (read_line_file office k bytes ≡ refused number place) ↔ LineFileRefused office k bytes number place
  -- 4 to 8, of a polynomial that is read alone, and of several
  pub polynomial : (p limit : ℕ) (ws : List ℕ) (number place : ℕ)
      → (used (polynomial_from p limit) ws ≡ refused number place) ↔ PolynomialsByTable p limit 1 ws number place
  pub polynomials : (p limit count : ℕ) (ws : List ℕ) (number place : ℕ)
      → (used (polynomials_from p limit count) ws ≡ refused number place) ↔ PolynomialsByTable p limit count ws number place
  -- of the calls that hand out values: of a sheet those of its words; of a card 2 and 3 of the p, n and m that are given, and those
  pub load_system : {ws sizes sizes' values values' : List ℕ} {answer : Result HeadValue Refusal}
      → LoadsSystem office ws answer sizes sizes' values values' → (number place : ℕ)
      → (system_outcome answer ≡ refused number place) ↔ ByTable (system_table office) 0 ws number place
  pub load_certificate : {h : Shape} {cs sizes sizes' values values' : List ℕ} {answer : Result FormValue Refusal}
      → LoadsCertificate office h cs answer sizes sizes' values values' → (number place : ℕ)
      → (certificate_outcome answer ≡ refused number place)
      ↔ ShapeFirst office h (ByTable (certificate_table office h) 20 cs) number place
  -- of the number for the shape of a sheet's file
  pub shape_of_file : (f : List ℕ) (number place : ℕ) → 1 ≤ number → number ≤ number_most
      → (packed (file_shape office f) ≡ place_unit * place + number) ↔ FileRefused office f number place
  -- of the number for a card's kind: 10 before all others, then the sheet's rows and the card's; no right side is asked for
  pub kind_of_files : (f g : List ℕ) (number place : ℕ) → 1 ≤ number → number ≤ number_most
      → (packed (file_kind office f g) ≡ place_unit * place + number) ↔ FilesRefusedBy office NothingTried f g number place
  -- of the check: the sheet's rows, 40, the card's, and 31 to 36; of its number on files, 10 before all others
  pub check_words : (k : ℕ) (ws cs : List ℕ) (number place : ℕ)
      → (verdict office k ws cs ≡ refused number place) ↔ PairRefused office (one_line office k) Fault ws cs number place
  pub check : (k : ℕ) (f g : List ℕ) (number place : ℕ) → 1 ≤ number → number ≤ number_most
      → (check_gives k f g ≡ place_unit * place + number) ↔ FilesRefused office k f g number place
  -- of the solver: the sheet's rows, 40, and then 11; of its number those of the sheet's file, 40, and then 11
  pub solve_words : (k : ℕ) (ws entry exit : List ℕ) (answer : Outcome ℕ) → Solves office k ws entry exit answer
      → (number place : ℕ) → (answer ≡ refused number place)
      ↔ RoomLast (LineRefused office k ws) (λ s. LineIn office k s ws) (longest_certificate office) (length entry) number place
  pub solve : {k : ℕ} {file entry exit : List ℕ} {r : ℕ} → Bytes file → SolvesPacked office k file entry exit r
      → (number place : ℕ) → 1 ≤ number → number ≤ number_most → (r ≡ place_unit * place + number)
      ↔ RoomLast (LineFileRefused office k file) (λ s. (ws : List ℕ) × (file ≡ bytes_of ws) × LineIn office k s ws)
      (word_bytes * longest_certificate office) (length entry) number place
  -- of both, 40 at 0 of a right side that the sheet does not have, "after the sheet has been read and before 11 or the card"
  -- (document 02, item 1)
  pub no_side_checked : (k : ℕ) (f g : List ℕ) → files_broken office f g ≡ false → {s : Systems}
      → read_systems office (words_of f) ≡ accepted s → s.head.sides ≤ k → check_gives k f g ≡ 40
  pub no_side_solved : {k : ℕ} {file entry exit : List ℕ} {r : ℕ} {s : Systems} → SolvesPacked office k file entry exit r
      → read_systems_file office file ≡ accepted s → s.head.sides ≤ k → (r ≡ 40) × (exit ≡ entry)
  -- of the lookup, which counts all right sides: the sheet's rows, the card's, and then 12
  pub lookup : (ws cs : List ℕ) (of : Of) (k number place : ℕ)
      → (polynomial_lookup office ws cs of k ≡ refused number place)
      ↔ PairRefused office (whole office) (NoPolynomial of k) ws cs number place
  -- of its number on files: 10 before all others
  pub lookup_in_files : (f g : List ℕ) (of : Of) (k : ℕ) {entry exit : List ℕ} {r : ℕ}
      → GivesPacked (file_lookup office f g of k) entry exit r → (number place : ℕ) → 1 ≤ number → number ≤ number_most
      → (r ≡ place_unit * place + number) ↔ FilesRefusedBy office (NoPolynomial of k) f g number place
  -- of the writers: of a sheet's 1, of the number of right sides; 2, 3, then the first value at fault, then 11
  pub write_system : (lent : ℕ) (s : Systems) (number place : ℕ)
      → (write_systems office lent s ≡ refused number place) ↔ SystemFault office lent s number place
  pub write_certificate_lem : (lent : ℕ) (h : Shape) (c : Certificate) (number place : ℕ)
      → (write_certificate office lent h c ≡ refused number place) ↔ CertificateFault office lent h c number place
  -- of the number for a sheet's file: the same, on as many words as there are whole in the lent bytes
  pub write_system_file : (h : Head) (sizes values : List ℕ) {entry exit : List ℕ} {r : ℕ}
      → GivesPacked (write_systems_file office (length entry) (system_in_arrays office h sizes values)) entry exit r
      → (number place : ℕ) → 1 ≤ number → number ≤ number_most
      → (r ≡ place_unit * place + number)
      ↔ SystemFault office (length entry / word_bytes) (system_in_arrays office h sizes values) number place

pub demand_1 : Demand1
demand_1 = record {
  unchanged_solve = λ k ws entry exit answer h.
      words_unchanged office certificate_words (system_to_solve office k (length entry) ws) entry exit answer h;
  unchanged_open = λ opened. opened_unchanged opened;
  unchanged = refused_unchanged;
  unchanged_writing = refused_lent;
  unchanged_system = system_load_refused;
  unchanged_certificate = certificate_load_refused;
  unchanged_lookup = λ f g of k gives. unchanged_lookup office f g of k gives;
  unchanged_write_file = λ h sizes values gives. unchanged_write office h sizes values gives;
  system = systems_refused_iff office;
  one_line_lem = line_refused_iff office office_fits;
  certificate = certificate_refused_iff office;
  file = file_refused_iff office;
  line_file = λ k. line_file_refused_iff office k office_fits;
  polynomial = polynomial_refused_iff;
  polynomials = polynomials_refused_iff;
  load_system = λ loads. system_load_refused_iff loads;
  load_certificate = λ loads. certificate_load_refused_iff loads;
  shape_of_file = shape_gives_iff office;
  kind_of_files = kind_gives_iff office office_fits;
  check_words = words_refused_iff office office_fits;
  check = checked_refused_iff;
  solve_words = λ k ws entry exit answer h. solve_refused_iff office k ws entry exit answer h office_fits;
  solve = λ small h. solver_refused_iff office_fits small h;
  no_side_checked = checked_no_side;
  no_side_solved = solved_no_side;
  lookup = λ ws cs of k. lookup_refused_iff office ws cs of k office_fits;
  lookup_in_files = λ f g of k gives. lookup_gives_iff office f g of k gives office_fits;
  write_system = system_refused_iff_fault office;
  write_certificate_lem = certificate_refused_iff_fault office;
  write_system_file = λ h sizes values gives. write_gives_iff office h sizes values gives;
}

-- 2. "The check accepts a card for a sheet exactly when the conditions for a certified solution, or for a certified absence of
-- solutions, in Mulders and Storjohann hold of it, any stated denominator is monic, and the solution's is in lowest terms. Every
-- sheet and card within the limits has one written form; it reads back as the same values, and every accepted form writes back as
-- the same words."
pub record Demand2 : Type 0 where
  pub accepts_words : (k : ℕ) (ws cs : List ℕ) → (verdict office k ws cs ≡ accepted tt) ↔ CertifiedWords office k ws cs
  pub accepts : (k : ℕ) (f g : List ℕ) → Bytes f → Bytes g → (check_gives k f g ≡ 0) ↔ CertifiedFiles office k f g
  pub system_form : (ws : List ℕ) (s : Systems) → (read_systems office ws ≡ accepted s)
      ↔ ((ws ≡ systems_words s) × SystemsWithin office s)
  pub system_once : (s t : Systems) → SystemsWithin office s → SystemsWithin office t → systems_words s ≡ systems_words t → s ≡ t
  pub certificate_form_lem : (h : Shape) → ShapeWithin office h → (cs : List ℕ) (c : Certificate)
      → (read_certificate office h cs ≡ accepted c) ↔ ((cs ≡ certificate_words c) × CertificateWithin office h c)
  pub certificate_once : (h : Shape) → ShapeWithin office h → (c e : Certificate) → CertificateWithin office h c
      → CertificateWithin office h e
      → certificate_words c ≡ certificate_words e → c ≡ e
  -- of the calls: the arrays hold every value within the limits; such a value is written as its form; what is written is loaded as
  -- the same values, and what is loaded is written as the same words
  pub system_fits : (s : Systems) → SystemsWithin office s
      → InArrays (system_count office.rows office.columns office.sides)
      (office.system_coefficients * system_count office.rows office.columns office.sides)
      (λ sizes values. system_in_arrays office s.head sizes values ≡ s)
  pub system_writes : (sizes values : List ℕ) {entry exit : List ℕ} {s : Systems} → SystemsWithin office s
      → system_in_arrays office s.head sizes values ≡ s → longest_system office ≤ length entry
      → {answer : Result ℕ Refusal} → WritesSystem office office_fits sizes values s.head entry answer exit
      → WritesBack (systems_words s) entry answer exit
  pub system_back : (sizes values : List ℕ) {entry exit : List ℕ} {h : Head} {n : ℕ}
      → WritesSystem office office_fits sizes values h entry (Ok n) exit
      → {lent_sizes sizes' lent_values values' : List ℕ} {answer : Result HeadValue Refusal}
      → LoadsSystem office (take n exit) answer lent_sizes sizes' lent_values values' → SystemRoom office office_fits lent_values
      → (system_outcome answer ≡ accepted h) × (system_in_arrays office h sizes' values' ≡ system_in_arrays office h sizes values)
  pub words_back : (sizes values : List ℕ) {entry exit ws lent_sizes lent_values : List ℕ} {read : Result HeadValue Refusal}
      → LoadsSystem office ws read lent_sizes sizes lent_values values → SystemRoom office office_fits lent_values
      → {h : Head} → system_outcome read ≡ accepted h → longest_system office ≤ length entry
      → {answer : Result ℕ Refusal} → WritesSystem office office_fits sizes values h entry answer exit → WritesBack ws entry answer exit
  pub certificate_fits : (h : Shape) → ShapeWithin office h → (c : Certificate) → CertificateWithin office h c
      → InArrays (solution_count office.rows office.columns)
      (certificate_stride * solution_count office.rows office.columns)
      (λ sizes values. certificate_in h (certificate_form c) sizes values ≡ c)
  pub certificate_writes : (h : Shape) (sizes values : List ℕ) {entry exit : List ℕ} → ShapeWithin office h → {c : Certificate}
      → CertificateWithin office h c → certificate_in h (certificate_form c) sizes values ≡ c
      → longest_certificate office ≤ length entry
      → {answer : Result ℕ Refusal} → WritesCertificate office office_fits sizes values (certificate_form c) h entry answer exit
      → WritesBack (certificate_words c) entry answer exit
  pub certificate_back : (h : Shape) (sizes values : List ℕ) {entry exit : List ℕ} {form : Form} {n : ℕ}
      → WritesCertificate office office_fits sizes values form h entry (Ok n) exit
      → {lent_sizes sizes' lent_values values' : List ℕ} {answer : Result FormValue Refusal}
      → LoadsCertificate office h (take n exit) answer lent_sizes sizes' lent_values values'
      → CertificateRoom office office_fits lent_values
      → (certificate_outcome answer ≡ accepted form) × (certificate_in h form sizes' values' ≡ certificate_in h form sizes values)
  pub certificate_words_back : (h : Shape) (sizes values : List ℕ) {entry exit ws lent_sizes lent_values : List ℕ}
      {read : Result FormValue Refusal}
      → LoadsCertificate office h ws read lent_sizes sizes lent_values values → CertificateRoom office office_fits lent_values
      → {form : Form} → certificate_outcome read ≡ accepted form → longest_certificate office ≤ length entry
      → {answer : Result ℕ Refusal} → WritesCertificate office office_fits sizes values form h entry answer exit
      → WritesBack ws entry answer exit

pub demand_2 : Demand2
demand_2 = record {
  accepts_words = accepted_iff_certified office office_fits;
  accepts = checked_iff;
  system_form = systems_accepted_iff office office_fits;
  system_once = systems_words_injective office office_fits;
  certificate_form_lem = λ h within. certificate_accepted_iff office h office_fits within;
  certificate_once = λ h within. certificate_words_injective office h office_fits within;
  system_fits = system_held office office_fits;
  system_writes = λ sizes values within stand enough w. system_writes_form office office_fits sizes values within stand enough w;
  system_back = λ sizes values w loads room. system_reads_back office office_fits sizes values w loads room;
  words_back = λ sizes values loads room is enough w. system_loads_back office office_fits sizes values loads room is enough w;
  certificate_fits = certificate_held office office_fits (omega arith);
  certificate_writes = λ h sizes values shape within stand enough w.
      certificate_writes_form office office_fits (omega arith) h sizes values shape within stand enough w;
  certificate_back = λ h sizes values w loads room. certificate_reads_back office office_fits (omega arith) h sizes values w loads
      room;
  certificate_words_back = λ h sizes values loads room is enough w.
      certificate_loads_back office office_fits (omega arith) h sizes values loads room is enough w;
}

-- 3. "However a card came about, whatever its words: once the check accepts it for a sheet, it tells the truth. Its solution solves
-- the system, and the denominator it states is that solution's own and divides the denominator of every rational solution; or, on a
-- card of absence, no rational solution exists. No sheet can have accepted cards of both kinds. For every sheet within the limits,
-- whatever stood in the space lent for the card, if it is the stated space or more, the solver gives a card there, and the check
-- accepts that card for that sheet." It "is meant for each right side that the sheet has, by itself" (document 02, item 1): k is
-- its number.
pub record Demand3 : Type 0 where
  pub truth_words : (k : ℕ) (ws cs : List ℕ) → verdict office k ws cs ≡ accepted tt
      → (a : AcceptedWords office k ws cs) × Says a.system a.certificate
  pub truth : (k : ℕ) (f g : List ℕ) → Bytes f → Bytes g → check_gives k f g ≡ 0 → (a : CertifiedFiles office k f g)
      × Says a.written.system a.written.certificate
  pub one_kind_words : (k : ℕ) (ws cs es : List ℕ) → verdict office k ws cs ≡ accepted tt → verdict office k ws es ≡ accepted tt
      → (a : AcceptedWords office k ws cs) × (b : AcceptedWords office k ws es) × Agree a.certificate b.certificate
  pub one_kind : (k : ℕ) (f g h : List ℕ) → Bytes f → Bytes g → Bytes h → check_gives k f g ≡ 0 → check_gives k f h ≡ 0
      → (a : CertifiedFiles office k f g) × (b : CertifiedFiles office k f h)
      × Agree a.written.certificate b.written.certificate
  pub solved_words : (s : Systems) → SystemsWithin office s → (k : ℕ) → k < s.head.sides
      → (entry exit : List ℕ) (answer : Outcome ℕ) → longest_certificate office ≤ length entry
      → Solves office k (systems_words s) entry exit answer
      → (count : ℕ) × (answer ≡ accepted count) × (verdict office k (systems_words s) (take count exit) ≡ accepted tt)
  pub solved : (s : Systems) → SystemsWithin office s → (k : ℕ) → k < s.head.sides → {entry exit : List ℕ} {r : ℕ}
      → word_bytes * longest_certificate office ≤ length entry
      → SolvesPacked office k (bytes_of (systems_words s)) entry exit r
      → (r % place_unit ≡ 0) × (checked_after k (bytes_of (systems_words s)) exit r ≡ 0)
  -- which card it is, is a function of the line: what the call returns and leaves is the written form of the line's own card, the
  -- chosen one, whatever proof the function is handed
  pub certificate_chosen : (s : System) (h : SystemWithin office s) → Chosen s (office_certificate s h)
  pub certificate_same : (s : System) (h h₁ : SystemWithin office s) → office_certificate s h ≡ office_certificate s h₁
  pub certificate_given_words : (s : Systems) (h : SystemsWithin office s) (k : ℕ) (has : k < s.head.sides)
      (entry exit : List ℕ) (answer : Outcome ℕ) → longest_certificate office ≤ length entry
      → Solves office k (systems_words s) entry exit answer
      → GivesWords (certificate_words (line_certificate s h k has)) entry exit answer
  pub certificate_given : (s : Systems) (h : SystemsWithin office s) (k : ℕ) (has : k < s.head.sides)
      → {entry exit : List ℕ} {r : ℕ} → word_bytes * longest_certificate office ≤ length entry
      → SolvesPacked office k (bytes_of (systems_words s)) entry exit r
      → CertificateBytesIn (certificate_words (line_certificate s h k has)) entry exit r

pub demand_3 : Demand3
demand_3 = record {
  truth_words = accepted_says office office_fits;
  truth = checked_says;
  one_kind_words = verdicts_agree office office_fits;
  one_kind = λ k f g h small_f. checked_agree k k f f refl g h small_f small_f;
  solved_words = λ s within k has entry exit answer room.
      every_system_solved office s within k has office_fits entry exit room answer;
  solved = λ s within k has room. every_system_checked s within k has room;
  certificate_chosen = λ s h. chosen_certificate_chosen office s h (office_suffices s h);
  certificate_same = λ s h h₁. chosen_certificate_same office office s h h₁ (office_suffices s h) (office_suffices s h₁);
  certificate_given_words = λ s h k has entry exit answer room solves.
      let within = line_within office s h k has in
      solved_certificate office within (office_suffices (line s k) within) entry exit answer k (systems_words s)
      (line_read_of_written office office_fits k (systems_words s) (line_of_written office s h k has)) room solves;
  certificate_given = λ s h k has room. every_system_certificate s h k has room;
}

-- Document 02, item 1: "Between two accepted sheets that agree in p, A and one line's right side, that line's card has the same
-- words, and they are those of its single sheet." The line may stand at different places in the two, or twice in one.
pub record SameLines : Type 0 where
  -- where both are lent the stated space or more, the two calls give the same words, or bytes, and as many
  pub same_words : {s s₁ : Systems} {k k₁ : ℕ} → SameLine s k s₁ k₁ → (x y : Call) (ws ws₁ : List ℕ)
      → read_systems office ws ≡ accepted s → read_systems office ws₁ ≡ accepted s₁
      → Solves office k ws x.entry x.exit x.answer → Solves office k₁ ws₁ y.entry y.exit y.answer
      → longest_certificate office ≤ length x.entry → longest_certificate office ≤ length y.entry → SameGiven x y
  pub same_bytes : {s s₁ : Systems} {k k₁ : ℕ} → SameLine s k s₁ k₁ → {file file₁ entry exit entry₁ exit₁ : List ℕ} {r r₁ : ℕ}
      → read_systems_file office file ≡ accepted s → read_systems_file office file₁ ≡ accepted s₁
      → SolvesPacked office k file entry exit r → SolvesPacked office k₁ file₁ entry₁ exit₁ r₁
      → word_bytes * longest_certificate office ≤ length entry → word_bytes * longest_certificate office ≤ length entry₁
      → SameBytes entry exit entry₁ exit₁ r r₁
  pub single_words : {s : Systems} (k : ℕ) → k < s.head.sides → (x y : Call) (ws : List ℕ) → read_systems office ws ≡ accepted s
      → Solves office k ws x.entry x.exit x.answer
      → Solves office 0 (systems_words (single (line s k))) y.entry y.exit y.answer
      → longest_certificate office ≤ length x.entry → longest_certificate office ≤ length y.entry → SameGiven x y
  pub single_bytes : {s : Systems} (k : ℕ) → k < s.head.sides → {file entry exit entry₁ exit₁ : List ℕ} {r r₁ : ℕ}
      → read_systems_file office file ≡ accepted s → SolvesPacked office k file entry exit r
      → SolvesPacked office 0 (bytes_of (systems_words (single (line s k)))) entry₁ exit₁ r₁
      → word_bytes * longest_certificate office ≤ length entry → word_bytes * longest_certificate office ≤ length entry₁
      → SameBytes entry exit entry₁ exit₁ r r₁
  -- whatever is lent, where both calls count; and all is the same where the same is lent, refusals too
  pub one_certificate : (k k₁ : ℕ) {file file₁ entry exit entry₁ exit₁ : List ℕ} {r r₁ : ℕ}
      → read_line_file office k file ≡ read_line_file office k₁ file₁
      → SolvesPacked office k file entry exit r → SolvesPacked office k₁ file₁ entry₁ exit₁ r₁
      → r % place_unit ≡ 0 → r₁ % place_unit ≡ 0
      → (r ≡ r₁) × (take (r / place_unit) exit ≡ take (r₁ / place_unit) exit₁)
  pub one_answer : (k k₁ : ℕ) {file file₁ entry exit exit₁ : List ℕ} {r r₁ : ℕ}
      → read_line_file office k file ≡ read_line_file office k₁ file₁
      → SolvesPacked office k file entry exit r → SolvesPacked office k₁ file₁ entry exit₁ r₁ → (exit ≡ exit₁) × (r ≡ r₁)
  -- the check says the same of them, and of the single sheet; and they have no accepted cards of both kinds
  pub same_check : (k k₁ : ℕ) (file file₁ : List ℕ) {s : System} → read_line_file office k file ≡ accepted s
      → read_line_file office k₁ file₁ ≡ accepted s → (g : List ℕ) → check_gives k file g ≡ check_gives k₁ file₁ g
  pub single_check : (k : ℕ) (file : List ℕ) {s : System} → read_line_file office k file ≡ accepted s → (g : List ℕ)
      → check_gives k file g ≡ check_gives 0 (bytes_of (systems_words (single s))) g
  pub one_kind : (k k₁ : ℕ) (file file₁ g h : List ℕ) → read_line_file office k file ≡ read_line_file office k₁ file₁ → Bytes file
      → Bytes file₁ → Bytes g → Bytes h → check_gives k file g ≡ 0 → check_gives k₁ file₁ h ≡ 0
      → (a : CertifiedFiles office k file g) × (b : CertifiedFiles office k₁ file₁ h)
      × Agree a.written.certificate b.written.certificate

pub same_lines : SameLines
same_lines = record {
  same_words = λ L x y ws ws₁ is is₁ h h₁. same_line_given office office_fits L x y ws ws₁ is is₁ h h₁;
  same_bytes = λ L is is₁ x y room room₁. same_line_bytes x y L is is₁ room room₁;
  single_words = λ k has x y ws is h h₁. alone_given office office_fits k has x y ws is h h₁;
  single_bytes = λ k has is x y room room₁. alone_bytes x y is has room room₁;
  one_certificate = λ k k₁ {file} {file₁} same. packed_same office office_fits k k₁ file file₁ same;
  one_answer = λ k k₁ {file} {file₁} {entry} same. packed_unique office office_fits k k₁ file file₁ same entry;
  same_check = checked_same;
  single_check = checked_alone;
  one_kind = λ k k₁ file file₁ g h same. checked_agree k k₁ file file₁ same g h;
}

-- Document 02, item 1: "Sheets of before read as they did." `read_before` and `read_before_file` are document 01's reading, whose
-- sheets have one right side and zeros where the head now has their number; on files, up to the 4,904 bytes of its number 10.
pub record OfBefore : Type 0 where
  pub words : (ws : List ℕ) → ZeroBits ws → read_systems office ws ≡ mapped single (read_before office ws)
  pub one_line_lem : (ws : List ℕ) → ZeroBits ws → read_line office 0 ws ≡ read_before office ws
  pub files : (file : List ℕ) → length file ≤ word_bytes * longest_before office → ZeroBits (words_of file)
      → read_systems_file office file ≡ mapped single (read_before_file office file)
  -- all that was read before is read as it was, so no sheet of before is turned away
  pub still_read : (ws : List ℕ) (s : System) → read_before office ws ≡ accepted s → read_systems office ws ≡ accepted (single s)
  -- what the solver answers and leaves, and what the check says, is what it was
  pub solved : {file entry exit : List ℕ} {r : ℕ} → length file ≤ word_bytes * longest_before office → ZeroBits (words_of file)
      → SolvesPacked office 0 file entry exit r
      → (answer : Outcome ℕ) × SolvesOr office certificate_bytes
      (with_room (word_bytes * longest_certificate office) (length entry) (read_before_file office file)) entry exit answer
      × (r ≡ packed answer)
  pub checked_words : (ws cs : List ℕ) → ZeroBits ws
      → verdict office 0 ws cs
      ≡ followed_by (read_before office ws) (λ s. followed_by (read_certificate office (shape s) cs) (certificate_verdict s))
  pub checked : (f g : List ℕ) → length f ≤ word_bytes * longest_before office → ZeroBits (words_of f)
      → check_gives 0 f g
      ≡ packed_verdict (refuse (broken g) 10 0 (followed_by (read_before_file office f) (λ s.
      followed_by (read_certificate office (shape s) (words_of g)) (certificate_verdict s))))

-- 10 of either file is the same, whichever is looked at first
ten_of_either : (b c : Bool) {A B : Type 0} (reading : Outcome A) (next : A → Outcome B)
    → refuse ((b || false) || c) 10 0 (followed_by reading next) ≡ refuse c 10 0 (followed_by (refuse (b || false) 10 0 reading) next)
ten_of_either true true reading next = refl
ten_of_either true false reading next = refl
ten_of_either false true reading next = refl
ten_of_either false false reading next = refl

checked_before : (f g : List ℕ) → length f ≤ word_bytes * longest_before office → ZeroBits (words_of f)
    → file_verdict office 0 f g ≡ refuse (broken g) 10 0 (followed_by (read_before_file office f) (λ s.
    followed_by (read_certificate office (shape s) (words_of g)) (certificate_verdict s)))
unfolding file_verdict verdict read_before_file
checked_before f g few zeros =
    rw (
      le-ltb (word_bytes * longest_system office) (length f) (omega arith),
      le-ltb (word_bytes * longest_before office) (length f) few,
      before_line office (omega arith) office_fits (words_of f) zeros,
    )
    (ten_of_either (broken f) (broken g) (read_before office (words_of f)) (λ s.
    followed_by (read_certificate office (shape s) (words_of g)) (certificate_verdict s)))

pub of_before : OfBefore
unfolding verdict
of_before = record {
  words = before_read office (omega arith);
  one_line_lem = before_line office (omega arith) office_fits;
  files = before_file office (omega arith);
  still_read = before_accepted office (omega arith);
  solved = λ {file} {entry} {exit} few zeros x.
      let same = before_line_file office (omega arith) office_fits file few zeros in (
        x.answer,
        subst
            (λ o. SolvesOr office certificate_bytes (with_room (word_bytes * longest_certificate office) (length entry) o) entry exit
            x.answer)
            same
            x.solves,
        x.packs,
      );
  checked_words = λ ws cs zeros.
      ap
      (λ o. followed_by o (λ s. followed_by (read_certificate office (shape s) cs) (certificate_verdict s)))
      (before_line office (omega arith) office_fits ws zeros);
  checked = λ f g few zeros. ap packed_verdict (checked_before f g few zeros);
}

-- Document 02, item 2: "a factor x of d is a tick of delay; feedback is the degree of d after all such factors are taken out. ..
-- No rational solution has less of either, and that is to be shown." A solution's are those of its own denominator;
-- `LeastOfEither` says it also of whatever else but zero clears it, and that one solution has both.
pub record DelayAndFeedback : Type 0 where
  -- d = x^k·f, where k is the delay and f is not divisible by x, for no other k and f; `feedback` is the degree of that f
  pub taken : (p : ℕ) → Prime p → (d : List ℕ) → Canonical p d → ¬ (d ≡ []) → TakenOut p d (delay d) (undelayed d)
  pub taken_only : (p : ℕ) → Prime p → (d : List ℕ) (k : ℕ) (f : List ℕ) → TakenOut p d k f
      → (delay d ≡ k) × (undelayed d ≡ f)
  -- every rational solution has both, and one of each
  pub every_solution : (s : System) → Prime s.modulus → (M : List (List ℕ)) (e : List ℕ) → RationalSolution s M e
      → (n : ℕ) × (k : ℕ) × SolutionWith s M e n k
  pub one_each : (s : System) → Prime s.modulus → (M : List (List ℕ)) (e : List ℕ) (n k i j : ℕ) → SolutionWith s M e n k
      → SolutionWith s M e i j
      → (n ≡ i) × (k ≡ j)
  -- of the answer to a system, of any size and any degree, none has less; no other numbers are the least
  pub answer : (s : System) → Prime s.modulus → (d : List ℕ) → Answers s (least d) → LeastOfEither s (feedback d) (delay d)
  pub least_only : (s : System) (n k i j : ℕ) → LeastOfEither s n k → LeastOfEither s i j → (n ≡ i) × (k ≡ j)
  -- of the bytes that `yezsdolak_report` gives; d, feedback and delay can be read off them
  pub reported : {file entry exit : List ℕ} {r : ℕ} → ReportsPacked office file entry exit r → report_space ≤ length entry
      → {s : System} → read_line_file office 0 file ≡ accepted s → ReportSays s (take (r / place_unit) exit)
  pub read_off : (d f : List ℕ) (n k i j : ℕ) → solution_text d n k ≡ solution_text f i j → (d ≡ f) × (n ≡ i) × (k ≡ j)
  -- of an accepted certificate, of every right side: its own solution has both
  pub certified_words : (k : ℕ) (ws cs : List ℕ) → verdict office k ws cs ≡ accepted tt
      → (a : AcceptedWords office k ws cs) × SaysLeast a.system a.certificate
  pub certified : (k : ℕ) (f g : List ℕ) → Bytes f → Bytes g → check_gives k f g ≡ 0 → (a : CertifiedFiles office k f g)
      × SaysLeast a.written.system a.written.certificate
  -- and the report has the kind, the denominator, its feedback and its delay of every accepted certificate for the first right side
  pub as_certified : (f g : List ℕ) → Bytes f → Bytes g → check_gives 0 f g ≡ 0 → {entry exit : List ℕ} {r : ℕ}
      → ReportsPacked office f entry exit r → report_space ≤ length entry
      → (a : CertifiedFiles office 0 f g) × (take (r / place_unit) exit ≡ report_text (accepted (answer_of a.written.certificate)))

line_prime : (s : System) (k : ℕ) (ws : List ℕ) → LineIn office k s ws → Prime s.modulus
line_prime s k ws h = (proper office s (line_in_within office office_fits k ws h)).prime

-- the bytes that the report's call gives, where enough are lent
given_report : {file entry exit : List ℕ} {r : ℕ} → ReportsPacked office file entry exit r → report_space ≤ length entry
    → ReportOf office file (take (r / place_unit) exit)
given_report {file} {entry} {exit} {r} h room = reports_text office file entry exit (r / place_unit) room (report_unpacked h).1

pub delay_and_feedback : DelayAndFeedback
delay_and_feedback = record {
  taken = taken_out;
  taken_only = taken_out_only;
  every_solution = solution_with;
  one_each = solution_one;
  answer = answer_least;
  least_only = least_one;
  reported = λ {file} {entry} {exit} {r} h room is.
      file_says office office_fits file is (take (r / place_unit) exit) (given_report h room);
  read_off = text_apart;
  certified_words = λ k ws cs e.
      let says = accepted_says office office_fits k ws cs e in
      let a = says.0 in
      (a, says_least a.system (line_prime a.system k ws a.system_words) a.certificate says.1);
  certified = λ k f g small_f small_g e.
      let says = checked_says k f g small_f small_g e in
      let a = says.0 in
      let w = a.written in
      (a, says_least w.system (line_prime w.system k a.system_words w.system_words) w.certificate says.1);
  as_certified = λ f g small_f small_g e {entry} {exit} {r} h room.
      let a = (checked_iff 0 f g small_f small_g).0 e in
      let w = a.written in
      let within = line_in_within office office_fits 0 a.system_words w.system_words in
      let text = take (r / place_unit) exit in
      let reports = subst (λ o. Reports o text) (system_of_file office office_fits 0 f g a) (given_report h room) in (
        a,
        report_of_certificate w.system (proper office w.system within) text reports w.certificate
            (files_true office office_fits 0 f g a),
      );
}

-- Document 02, item 4: what the panel's call gives, as one number.
pub record OnPanel : Type 0 where
  -- "the panel accepts exactly those cards that the office accepts and that, with their sheet, keep the panel's limits; the second
  -- demand is meant so there"
  pub accepts : (f g : List ℕ) → (panel_gives f g ≡ 0) ↔ ((check_gives 0 f g ≡ 0) × Keeps panel (words_of f) (words_of g))
  pub certified : (f g : List ℕ) → Bytes f → Bytes g → (panel_gives f g ≡ 0) ↔ CertifiedFiles panel 0 f g
  -- the third demand, but for its last sentence, which "is of the office's check only"
  pub truth : (f g : List ℕ) → Bytes f → Bytes g → panel_gives f g ≡ 0
      → (a : CertifiedFiles panel 0 f g) × Says a.written.system a.written.certificate
  pub one_kind : (f g : List ℕ) → Bytes f → Bytes g → (h : List ℕ) → Bytes h → panel_gives f g ≡ 0 → panel_gives f h ≡ 0
      → (a : CertifiedFiles panel 0 f g) × (b : CertifiedFiles panel 0 f h)
      × Agree a.written.certificate b.written.certificate
  -- more than was asked: the solver's card of a sheet within the panel's limits is within them, and the panel accepts it
  pub solved : (s : Systems) → SystemsWithin panel s → {entry exit : List ℕ} {r : ℕ}
      → word_bytes * longest_certificate office ≤ length entry → SolvesPacked office 0 (bytes_of (systems_words s)) entry exit r
      → panel_gives (bytes_of (systems_words s)) (take (r / place_unit) exit) ≡ 0
  -- the first demand: each refusal under its condition only
  pub refuses : (f g : List ℕ) (number place : ℕ) → 1 ≤ number → number ≤ number_most
      → (panel_gives f g ≡ place_unit * place + number) ↔ PanelRefused f g number place
  -- "Here 10 is given only for a byte count not a multiple of four"
  pub ten : (f g : List ℕ) → (panel_gives f g % place_unit ≡ 10) ↔ (broken f || broken g ≡ true)
  -- no right side is asked for, so none is missing
  pub no_forty : (f g : List ℕ) → ¬ (panel_gives f g % place_unit ≡ 40)
  -- "41 .. place 0 for the sheet, tried first, and 1 for the card, after both have been read and before 31"
  pub system_large : (f g : List ℕ) {s : Systems} {c : Certificate} → broken f || broken g ≡ false
      → read_systems office (words_of f) ≡ accepted s → read_certificate office s.head.shape (words_of g) ≡ accepted c
      → ¬ SystemsWithin panel s → panel_gives f g ≡ 41
  pub certificate_large : (f g : List ℕ) {s : Systems} {c : Certificate} → broken f || broken g ≡ false
      → read_systems office (words_of f) ≡ accepted s → read_certificate office s.head.shape (words_of g) ≡ accepted c
      → SystemsWithin panel s → ¬ CertificateWithin panel s.head.shape c → panel_gives f g ≡ 105
  pub large_only : (f g : List ℕ) → panel_gives f g % place_unit ≡ 41 → (place : ℕ) × (panel_gives f g ≡ place_unit * place + 41)
      × WrittenPair office (whole office) (λ s c. TooLarge s c place) (words_of f) (words_of g)
  -- "Every sheet and card within the limits has one written form; it reads back as the same values": by the office's limits, which
  -- the panel reads by, what is within its own. "Every accepted form writes back as the same words": `accepts`, by `Keeps`.
  pub system_form : (s : Systems) → SystemsWithin panel s → read_systems office (systems_words s) ≡ accepted s
  pub certificate_form_lem : (h : Shape) → ShapeWithin office h → (c : Certificate) → CertificateWithin panel h c
      → read_certificate office h (certificate_words c) ≡ accepted c
  pub system_once : (s t : Systems) → SystemsWithin panel s → SystemsWithin panel t → systems_words s ≡ systems_words t → s ≡ t
  pub certificate_once : (h : Shape) → ShapeWithin panel h → (c e : Certificate) → CertificateWithin panel h c
      → CertificateWithin panel h e → certificate_words c ≡ certificate_words e → c ≡ e
  -- so much room is enough for what is accepted: 728 bytes and 1,208
  pub sizes : (f g : List ℕ) → panel_gives f g ≡ 0 → (length f ≤ 728) × (length g ≤ 1208)
  -- "cards of at most 302 words" follows from the other limits
  pub short : (h : Shape) → ShapeWithin panel h → (c : Certificate) → CertificateWithin panel h c
      → length (certificate_words c) ≤ 302
  -- "one 64-bit number: 0 where the card is accepted, else place × 64 plus refusal number": it can be taken apart, and it fits,
  -- however long the buffers are
  pub taken_apart : (f g : List ℕ) → unpacked_verdict (panel_gives f g) ≡ panel_verdict f g
  pub fits : (f g : List ℕ) → panel_gives f g ≤ place_unit * 2199 + 41

pub on_panel : OnPanel
on_panel = record {
  accepts = panel_iff;
  certified = panel_certified;
  truth = panel_says;
  one_kind = panel_agree;
  solved = panel_solved;
  refuses = panel_gives_iff;
  ten = panel_ten;
  no_forty = panel_forty;
  system_large = λ f g whole system certificate. panel_system_large f g whole system certificate;
  certificate_large = λ f g whole system certificate. panel_certificate_large f g whole system certificate;
  large_only = panel_large;
  system_form = λ s within. systems_read_of_written office office_fits s (systems_wider office panel panel_narrower s within);
  certificate_form_lem = λ h valid c within.
      certificate_read_of_written office h office_fits valid c (certificate_wider office h panel (omega arith) c within);
  system_once = systems_words_injective panel panel_fits;
  certificate_once = λ h valid. certificate_words_injective panel h panel_fits valid;
  sizes = panel_sizes;
  short = λ h valid c within. certificate_words_most panel h valid c within;
  taken_apart = panel_unpacked;
  fits = panel_small;
}
