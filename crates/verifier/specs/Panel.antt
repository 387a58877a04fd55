-- The panel's verdict: it and the check on files as one, with what they differ in as parameters; what it accepts, which is what the
-- office accepts and keeps the panel's limits; and its refusals, each under its condition only.
use Prim.Native.Nat.{ℕ, suc, ◌+◌, ◌*◌, ◌%◌, ◌≤◌}
use Rattle.std.specs.Prelude.{◌≡◌, ◌↔◌, Bool, true, false, ◌||◌, length, get_or}
use Rattle.std.proofs.Common.{sym, subst, ◌∙◌, arith}
use Rattle.std.proofs.Math.Path.{ap}
use mathlib.Core.List.{List, ◌∷◌, ◌++◌}
use borrow.Author.Tests.{eqb-true, le-ltb, not-false}
use Rattle.modular.specs.Bits.{most4}
use Rattle.words.specs.Limits.{Limits, office, panel, longest_system, longest_certificate}
use Rattle.words.specs.LimitsLaws.{LimitsFit, office_fits, panel_fits, panel_narrower}
use Rattle.words.specs.Outcome.{Outcome, refuse, followed_by}
use Rattle.words.specs.Outcome.Outcome.{accepted, refused}
use Rattle.words.specs.OutcomeLaws.{refuse_passed, passed_refuse}
use Rattle.words.specs.Systems.{head_in, read_systems}
use Rattle.words.proofs.SystemsLaws.{systems_written_of_read, systems_words_most}
use Rattle.words.specs.Certificate.{read_certificate}
use Rattle.words.proofs.CertificateLaws.{certificate_written_of_read}
use Rattle.words.specs.Bytes.{words_of, broken, too_long, word_bytes}
use Rattle.words.proofs.BytesLaws.{length_words_of, or_left, or_right}
use Rattle.words.specs.TenFirst.{TenFirst}
use Rattle.words.proofs.RefusedLaws.{ten_first_iff}
use Rattle.words.specs.Rows.{Row, RefusesBy, at_0, system_rows, certificate_rows, kept_rows, check_kept_rows}
use Rattle.words.specs.RowLaws.{by_row, places_below, check_kept_below}
use Rattle.words.specs.Pair.{PairRefused, whole}
use Rattle.words.proofs.PairLaws.{pair_refused_iff, pair_rows}
use Rattle.words.proofs.SourceLaws.{whole_laws, whole_rows}
use Rattle.words.proofs.KeptLaws.{sided_first}
use Rattle.truth.specs.Verdict.{verdict}
use Rattle.truth.specs.Within.{kept_verdict, verdict_within, Keeps, KeptFault}
use Rattle.truth.proofs.WithinLaws.{within_own, within_exactly, within_kept, within_rows, within_room}
use Rattle.truth.proofs.WithinLaws.{kept_refused_iff, fault_in_rows}
use Rattle.answers.specs.Packed.{VerdictMost}
use Rattle.files.specs.Opening.{first_words}
use Rattle.files.specs.OpeningLaws.{unlimited, few_words}
use Rattle.files.specs.OpeningBoth.{files_broken}
use Rattle.verifier.specs.File.{file_verdict, panel_verdict, bytes_verdict}

-- the office's: its own limits are kept, and a system's file has a limit
pub bytes_office : (limits : Limits) → LimitsFit limits → (k : ℕ) (f g : List ℕ)
    → bytes_verdict limits limits (word_bytes * longest_system limits) k f g ≡ file_verdict limits k f g
unfolding bytes_verdict file_verdict
bytes_office limits fit k f g =
    ap (refuse (files_broken limits f g) 10 0) (within_own limits fit k (words_of f) (words_of g))

-- the panel's: the limit is the buffer's own length, so none is too long
pub bytes_panel : (f g : List ℕ) → bytes_verdict office panel (length f) 0 f g ≡ panel_verdict f g
unfolding bytes_verdict panel_verdict
bytes_panel f g =
    ap (λ b. refuse (b || broken g) 10 0 (verdict_within office panel 0 (words_of f) (words_of g))) (unlimited f)

-- ---- the panel: what is accepted

module _ (f g : List ℕ) where
  abbrev read_panel : Outcome (Unit {0})
  read_panel = verdict_within office panel 0 (words_of f) (words_of g)

  -- bytes of whole words, no more than some limits allow, are turned back by no file limit of these
  passes : (limits : Limits) → broken f || broken g ≡ false → length (words_of f) ≤ longest_system limits
      → files_broken limits f g ≡ false
  passes limits e few =
      let system = or_left (broken f) (broken g) e in
      let whole : length f % word_bytes ≡ 0 = eqb-true _ _ (not-false _ system) in
      let short = le-ltb (word_bytes * longest_system limits) (length f) (omega (arith, length_words_of f)) in
      rw (system, short) (or_right (broken f) (broken g) e)

  not_broken : (limits : Limits) → files_broken limits f g ≡ false → broken f || broken g ≡ false
  not_broken limits e =
      let first = or_left (broken f || too_long limits f) (broken g) e in
      rw (or_left (broken f) (too_long limits f) first) (or_right (broken f || too_long limits f) (broken g) e)

  keeps_short : Keeps panel (words_of f) (words_of g) → length (words_of f) ≤ longest_system panel
  keeps_short K = rw K.system_words (systems_words_most panel panel_fits K.systems K.system_within)

  -- "the panel accepts exactly those cards that the office accepts and that, with their sheet, keep the panel's limits"
  pub panel_exactly : (panel_verdict f g ≡ accepted tt)
      ↔ ((file_verdict office 0 f g ≡ accepted tt) × Keeps panel (words_of f) (words_of g))
  unfolding panel_verdict file_verdict
  panel_exactly =
      let exactly = within_exactly office panel office_fits 0 (words_of f) (words_of g) panel_narrower panel_fits in (
        λ e.
            let t = refuse_passed (broken f || broken g) 10 0 read_panel e in
            let u = exactly.0 t.1 in
            let few = keeps_short u.1 in
            (passed_refuse (files_broken office f g) 10 0 _ (passes office t.0 (omega arith)) u.0, u.1),
        λ h.
            let t = refuse_passed (files_broken office f g) 10 0 (verdict office 0 (words_of f) (words_of g)) h.0 in
            passed_refuse (broken f || broken g) 10 0 read_panel (not_broken office t.0) (exactly.1 (t.1, h.1)),
      )

  -- then both are whole words
  pub panel_whole : panel_verdict f g ≡ accepted tt → (length f % word_bytes ≡ 0) × (length g % word_bytes ≡ 0)
  unfolding panel_verdict
  panel_whole e =
      let t = (refuse_passed (broken f || broken g) 10 0 read_panel e).0 in
      (eqb-true _ _ (not-false _ (or_left (broken f) (broken g) t)), eqb-true _ _ (not-false _ (or_right (broken f) (broken g) t)))

  -- that is, what the check on files by the panel's limits accepts: of which `Checked` says the demands
  pub panel_kept : (panel_verdict f g ≡ accepted tt) ↔ (file_verdict panel 0 f g ≡ accepted tt)
  unfolding panel_verdict file_verdict
  panel_kept =
      let kept = within_kept office panel office_fits 0 (words_of f) (words_of g) panel_narrower panel_fits in
      let exactly = within_exactly office panel office_fits 0 (words_of f) (words_of g) panel_narrower panel_fits in (
        λ e.
            let t = refuse_passed (broken f || broken g) 10 0 read_panel e in
            let few = keeps_short (exactly.0 t.1).1 in
            passed_refuse (files_broken panel f g) 10 0 _ (passes panel t.0 few) (kept.0 t.1),
        λ h.
            let t = refuse_passed (files_broken panel f g) 10 0 (verdict panel 0 (words_of f) (words_of g)) h in
            passed_refuse (broken f || broken g) 10 0 read_panel (not_broken panel t.0) (kept.1 t.1),
      )

  -- ---- what is refused: 10 of either buffer, and then of the words

  -- no right side is missing: 40 is not among what is tried
  pub panel_reads : panel_verdict f g
      ≡ refuse (broken f || broken g) 10 0
      (followed_by (read_systems office (words_of f)) (λ s.
      followed_by (read_certificate office s.head.shape (words_of g)) (kept_verdict panel 0 s)))
  unfolding panel_verdict verdict_within
  panel_reads =
      ap (λ o. refuse (broken f || broken g) 10 0
      (followed_by o (λ s. followed_by (read_certificate office s.head.shape (words_of g)) (kept_verdict panel 0 s))))
      (sided_first office office_fits (words_of f))

  abbrev pub PanelRefused : (number place : ℕ) → Type 0
  PanelRefused = TenFirst (broken f || broken g) (PairRefused office (whole office) (KeptFault panel 0) (words_of f) (words_of g))

  pub panel_refused_iff : (number place : ℕ) → (panel_verdict f g ≡ refused number place) ↔ PanelRefused number place
  panel_refused_iff number place =
      let iff = ten_first_iff (broken f || broken g) _ _
      (pair_refused_iff office (whole office) (kept_verdict panel 0) (words_of f) (words_of g) office_fits
      (whole_laws office office_fits) (KeptFault panel 0)
      (λ s h c m n p. kept_refused_iff office panel office_fits 0 s h.1 h.1.head.sides.0 c m n p)) number place in
      (λ e. iff.0 (sym panel_reads ∙ e), λ r. panel_reads ∙ iff.1 r)

  -- the rows of the table that it may give: 10, 1 to 9, 21 and 24 to 29, 41, 31 to 36
  abbrev pub panel_rows : List Row
  panel_rows =
      at_0 10 ∷ system_rows (words_of f) ++ (certificate_rows (words_of g) ++ kept_rows (head_in (get_or (words_of f) 0 0)).shape)

  pub panel_rows_lem : RefusesBy panel_rows (panel_verdict f g)
  panel_rows_lem =
      subst (RefusesBy panel_rows) (sym panel_reads)
      (by_row (broken f || broken g) 10
      (pair_rows office (whole office) (kept_verdict panel 0) (words_of f) (words_of g) (whole_rows office) kept_rows (λ s r c q.
      let w = (systems_written_of_read office office_fits (words_of f) s r).1 in
      let m = (certificate_written_of_read office s.head.shape (words_of g) c q).1 in
      record {
        in_rows = λ n p e. fault_in_rows office panel office_fits 0 s w w.head.sides.0 c m n p
            ((kept_refused_iff office panel office_fits 0 s w w.head.sides.0 c m n p).0 e);
      })))

  -- places are small, however long the buffers are
  pub panel_most : (b : ℕ) → longest_system office + 1 ≤ b → longest_certificate office + 1 ≤ b → most4 ≤ b
      → VerdictMost b (panel_verdict f g)
  unfolding panel_verdict
  panel_most b system certificate heads = record { places = λ number place e. by_test (broken f || broken g) e }
    where
      ws : List ℕ
      ws = first_words (longest_system office + 1) (words_of f)

      cs : List ℕ
      cs = first_words (longest_certificate office + 1) (words_of g)

      by_test : (t : Bool) {number place : ℕ} → refuse t 10 0 read_panel ≡ refused number place → place ≤ b
      by_test true {place = place} e = let same : place ≡ 0 = cc in omega arith
      by_test false {number} {place} e =
          let first = within_room office panel office_fits 0 (words_of f) (words_of g) (longest_system office + 1)
          (longest_certificate office + 1) (omega arith) (omega arith) ∙ e in
          let few = few_words (longest_system office + 1) (words_of f) in
          let few' = few_words (longest_certificate office + 1) (words_of g) in
          let below = places_below number place (suc b) (check_kept_rows ws cs)
          (check_kept_below ws cs (omega arith) (omega arith) heads)
          ((within_rows office panel office_fits 0 ws cs).in_rows number place first) in
          omega arith
