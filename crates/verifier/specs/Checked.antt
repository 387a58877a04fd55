-- Demands 2 and 3 of the check on files, for each right side by itself: it accepts two files exactly when they are the bytes of the
-- written forms of systems that have this right side and of a certificate of which the conditions hold for its line, the
-- certificate then tells the truth, and no line has accepted files of both kinds.
use Rattle.std.specs.Prelude.{ℕ, ◌*◌, ◌%◌, ◌≤◌, ◌≡◌, refl, ◌↔◌, false, ◌||◌, List, length, get_or}
use Rattle.std.proofs.Common.{sym, ◌∙◌, subst₂, arith, eqb-true, eq-eqb, le-ltb}
use Rattle.std.proofs.Math.Path.{ap}
use Rattle.std.proofs.lemmas.Bool.{not-false}
use Rattle.words.specs.Limits.{Limits, longest_system}
use Rattle.words.specs.LimitsLaws.{LimitsFit}
use Rattle.words.specs.Word.{Bytes}
use Rattle.words.specs.Outcome.{refuse}
use Rattle.words.specs.Outcome.Outcome.{accepted}
use Rattle.words.specs.OutcomeLaws.{refuse_passed}
use Rattle.words.specs.Systems.{read_line}
use Rattle.words.proofs.SystemsLaws.{systems_words_most}
use Rattle.words.proofs.LineLaws.{line_in_within}
use Rattle.words.proofs.LineFileLaws.{line_file_read}
use Rattle.words.specs.Certificate.{Certificate}
use Rattle.words.specs.Bytes.{words_of, bytes_of, broken, too_long, word_bytes, read_line_file}
use Rattle.words.proofs.BytesLaws.{words_of_bytes_of, bytes_of_words_of, length_bytes_of, or_left, or_right}
use Rattle.words.specs.Pair.{Source, whole, one_line, WrittenPair, WrittenFiles}
use Rattle.truth.specs.Verdict.{verdict}
use Rattle.truth.specs.Certified.{Certified}
use Rattle.truth.proofs.CertifiedWords.{accepted_iff_certified}
use Rattle.truth.specs.Demand.{True}
use Rattle.truth.proofs.DemandLaws.{Says, Agree, certified_true, true_says, same_agree, line_same_head}
use Rattle.files.specs.OpeningBoth.{files_broken}
use Rattle.verifier.specs.File.{file_verdict}

-- the files are the bytes of the written forms of systems within the limits that have right side k, and of a certificate of which
-- the conditions hold for its line
abbrev pub CertifiedFiles : Limits → (k : ℕ) → (f g : List ℕ) → Type 0
CertifiedFiles limits k f g = WrittenFiles limits (one_line limits k) Certified f g

-- ---- files and words

pub whole_words : (ws : List ℕ) → broken (bytes_of ws) ≡ false
whole_words ws =
    let n = length_bytes_of ws in
    let whole : length (bytes_of ws) % word_bytes ≡ 0 = omega arith in
    simp (eq-eqb _ _ whole)

module _ (limits : Limits) {S : Type 0} (source : Source S) where
  -- words that hold a value are no more than the longest sheet has
  abbrev pub Shorter : Type 0
  Shorter = (s : S) (ws : List ℕ) → source.Holds s ws → length ws ≤ longest_system limits

  module _ {Of : S → Certificate → Type 0} (f g : List ℕ) where
    -- files of written forms are not turned back by 10, and their words are the written forms
    pub words_of_files : Shorter → WrittenFiles limits source Of f g
        → (files_broken limits f g ≡ false) × WrittenPair limits source Of (words_of f) (words_of g)
    words_of_files few a = (
      passed,
      subst₂ (WrittenPair limits source Of)
          (sym (ap words_of a.system_file ∙ words_of_bytes_of a.system_words))
          (sym (ap words_of a.certificate_file ∙ words_of_bytes_of a.certificate_words_lem)) a.written,
    )
      where
        passed : files_broken limits f g ≡ false
        passed =
            let n = length_bytes_of a.system_words in
            let most = few a.written.system a.system_words a.written.system_words in
            let short = le-ltb (word_bytes * longest_system limits) (length (bytes_of a.system_words)) (omega arith) in
            let system = whole_words a.system_words in
            let certificate = whole_words a.certificate_words_lem in
            rw (a.system_file, a.certificate_file) (simp (system, short, certificate))

    pub files_of_words : Bytes f → Bytes g → files_broken limits f g ≡ false → WrittenPair limits source Of (words_of f) (words_of g)
        → WrittenFiles limits source Of f g
    files_of_words small_f small_g e a =
        let system = or_left (broken f) (too_long limits f) (or_left (broken f || too_long limits f) (broken g) e) in
        let certificate = or_right (broken f || too_long limits f) (broken g) e in
        record {
          system_words = words_of f;
          certificate_words_lem = words_of g;
          system_file = sym (bytes_of_words_of f small_f (eqb-true _ _ (not-false _ system)));
          certificate_file = sym (bytes_of_words_of g small_g (eqb-true _ _ (not-false _ certificate)));
          written = a;
        }

module _ (limits : Limits) (fit : LimitsFit limits) where
  pub whole_short : Shorter limits (whole limits)
  whole_short s ws h = omega (arith, ap length h.0, systems_words_most limits fit s h.1)

  pub line_short : (k : ℕ) → Shorter limits (one_line limits k)
  line_short k s ws h = whole_short h.systems ws (h.words, h.within)

-- ---- the demands

module _ (limits : Limits) (fit : LimitsFit limits) where
  -- the words of accepted files are accepted
  accepted_words : (k : ℕ) (f g : List ℕ) → file_verdict limits k f g ≡ accepted tt
      → (files_broken limits f g ≡ false) × (verdict limits k (words_of f) (words_of g) ≡ accepted tt)
  unfolding file_verdict
  accepted_words k f g e = refuse_passed (files_broken limits f g) 10 0 (verdict limits k (words_of f) (words_of g)) e

  -- a file that passes 10 is read as its words are
  passed_line : (k : ℕ) (f g : List ℕ) → files_broken limits f g ≡ false → read_line_file limits k f ≡ read_line limits k (words_of f)
  unfolding read_line_file
  passed_line k f g passed =
      ap (λ b. refuse b 10 0 (read_line limits k (words_of f))) (or_left (broken f || too_long limits f) (broken g) passed)

  -- what the files hold, and that it is true
  module _ (k : ℕ) (f g : List ℕ) (a : CertifiedFiles limits k f g) where
    pub system_of_file : read_line_file limits k f ≡ accepted a.written.system
    system_of_file =
        ap (read_line_file limits k) a.system_file
        ∙ line_file_read limits k fit a.written.system a.system_words a.written.system_words

    pub files_true : True a.written.system a.written.certificate
    files_true =
        let w = a.written in
        certified_true limits w.system (line_in_within limits fit k a.system_words w.system_words) w.certificate
        w.certificate_within w.holds

  module _ (k : ℕ) (f g : List ℕ) (small_f : Bytes f) (small_g : Bytes g) where
    -- demand 2's first sentence, of files
    pub files_iff_certified : (file_verdict limits k f g ≡ accepted tt) ↔ CertifiedFiles limits k f g
    unfolding file_verdict
    files_iff_certified = (
      λ e.
          let t = accepted_words k f g e in
          files_of_words limits (one_line limits k) f g small_f small_g t.0
          ((accepted_iff_certified limits fit k (words_of f) (words_of g)).0 t.1),
      λ a.
          let t = words_of_files limits (one_line limits k) f g (line_short limits fit k) a in
          ap (λ b. refuse b 10 0 (verdict limits k (words_of f) (words_of g))) t.0
          ∙ (accepted_iff_certified limits fit k (words_of f) (words_of g)).1 t.1,
    )

    -- "once the check accepts it for a sheet, it tells the truth"
    pub files_say : file_verdict limits k f g ≡ accepted tt
        → (a : CertifiedFiles limits k f g) × Says a.written.system a.written.certificate
    files_say e =
        let a = files_iff_certified.0 e in
        (a, true_says a.written.system a.written.certificate (files_true k f g a))

  -- Two lines with one system, of one file or of two: "agree in p, A and one line's right side". They have no accepted files of
  -- both kinds, and all state the same denominator.
  module _ (k j : ℕ) (f e : List ℕ) (same : read_line_file limits k f ≡ read_line_file limits j e) (g h : List ℕ) where
    pub line_files_agree : (a : CertifiedFiles limits k f g) (b : CertifiedFiles limits j e h)
        → Agree a.written.certificate b.written.certificate
    line_files_agree a b =
        let first = system_of_file k f g a in
        let second = system_of_file j e h b in
        let systems : b.written.system ≡ a.written.system = cc in
        same_agree limits systems (line_in_within limits fit k a.system_words a.written.system_words)
        a.written.certificate b.written.certificate (files_true k f g a) (files_true j e h b)

    pub line_file_verdicts_agree : Bytes f → Bytes e → Bytes g → Bytes h → file_verdict limits k f g ≡ accepted tt
        → file_verdict limits j e h ≡ accepted tt
        → (a : CertifiedFiles limits k f g) × (b : CertifiedFiles limits j e h)
        × Agree a.written.certificate b.written.certificate
    line_file_verdicts_agree small_f small_e small_g small_h u v =
        let a = (files_iff_certified k f g small_f small_g).0 u in
        let b = (files_iff_certified j e h small_e small_h).0 v in
        (a, b, line_files_agree a b)

    -- on the bytes: their first words, which say the kind, are the same
    pub line_files_same_head : file_verdict limits k f g ≡ accepted tt → file_verdict limits j e h ≡ accepted tt
        → get_or (words_of g) 0 0 ≡ get_or (words_of h) 0 0
    line_files_same_head u v =
        let first = accepted_words k f g u in
        let second = accepted_words j e h v in
        line_same_head limits fit k j (words_of f) (words_of e)
        (sym (passed_line k f g first.0) ∙ same ∙ passed_line j e h second.0) (words_of g) (words_of h) first.1 second.1

  -- "No sheet can have accepted cards of both kinds", "meant for each right side that the sheet has, by itself"
  module _ (k : ℕ) (f g h : List ℕ) where
    pub files_agree : (a : CertifiedFiles limits k f g) (b : CertifiedFiles limits k f h)
        → Agree a.written.certificate b.written.certificate
    files_agree = line_files_agree k k f f refl g h

    pub file_verdicts_agree : Bytes f → Bytes g → Bytes h → file_verdict limits k f g ≡ accepted tt
        → file_verdict limits k f h ≡ accepted tt
        → (a : CertifiedFiles limits k f g) × (b : CertifiedFiles limits k f h)
        × Agree a.written.certificate b.written.certificate
    file_verdicts_agree small = line_file_verdicts_agree k k f f refl g h small small

    pub files_same_head : file_verdict limits k f g ≡ accepted tt → file_verdict limits k f h ≡ accepted tt
        → get_or (words_of g) 0 0 ≡ get_or (words_of h) 0 0
    files_same_head = line_files_same_head k k f f refl g h
