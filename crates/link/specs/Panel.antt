-- What the number means that `yezsdolak_panel_check` gives: "0 where the card is accepted, else place × 64 plus refusal number"
-- (document 02, item 4). It can be taken apart, and it is small, however long the buffers are. What is accepted, what is refused,
-- and that the panel accepts the solver's certificates of systems within its limits.
use Rattle.std.specs.Prelude.{ℕ, ◌+◌, ◌*◌, ◌/◌, ◌%◌, ◌≤◌, ◌<◌, ◌≡◌, ◌↔◌, ◌⊎◌, Bool, false, ◌||◌, ◌&&◌, List, [], ◌∷◌, length, take, drop, ltb}
use Rattle.std.proofs.Math.Path.{refl, ap}
use Rattle.std.proofs.Common.{sym, ◌∙◌, subst₂, arith, take_at, ltb-true}
use Rattle.std.proofs.Math.Logic.{inl, inr}
use Rattle.std.proofs.Math.Bool.{true}
use Rattle.words.specs.Limits.{office, panel, longest_system, longest_certificate}
use Rattle.words.specs.LimitsLaws.{office_fits, panel_fits, panel_narrower}
use Rattle.words.specs.Word.{Bytes}
use Rattle.words.specs.Outcome.{Outcome}
use Rattle.words.specs.Outcome.Outcome.{accepted, refused}
use Rattle.words.specs.Systems.{Systems, SystemsWithin, systems_words, read_systems, line}
use Rattle.words.proofs.SystemsLaws.{systems_written_of_read, systems_words_most}
use Rattle.words.proofs.LineLaws.{line_within}
use Rattle.words.specs.Certificate.{Certificate, CertificateWithin, certificate_words, read_certificate}
use Rattle.words.proofs.CertificateLaws.{certificate_written_of_read, certificate_words_most}
use Rattle.words.specs.Bytes.{words_of, bytes_of, broken, word_bytes}
use Rattle.words.proofs.BytesLaws.{words_of_bytes_of, length_words_of}
use Rattle.words.proofs.RefusedLaws.{systems_refused_iff, systems_rows, certificate_refused_iff, certificate_rows_lem}
use Rattle.words.specs.Rows.{Row, InRows, system_rows, certificate_rows, value_rows, kept_rows}
use Rattle.words.specs.TenFirst.TenFirst.{ten, others}
use Rattle.words.specs.Pair.{WrittenPair, whole}
use Rattle.words.specs.Pair.PairRefused.{by_system, by_certificate, by_values}
use Rattle.words.proofs.PairLaws.{written_map}
use Rattle.words.specs.System.{shape}
use Rattle.words.proofs.KeptLaws.{systems_wider}
use Rattle.truth.specs.Within.{Keeps, KeptFault}
use Rattle.truth.specs.Within.KeptFault.{system_exceeds, certificate_exceeds_lem, by_values as kept_values}
use Rattle.truth.proofs.WithinLaws.{line_shape, fault_in_rows}
use Rattle.truth.proofs.TurnedBackLaws.{fault_rows}
use Rattle.truth.proofs.DemandLaws.{Says, Agree}
use Rattle.solve_meaning.specs.Existence.{chosen_certificate_within, panel_suffices, panel_office_same}
use Rattle.verifier.specs.File.{file_verdict, panel_verdict}
use Rattle.verifier.specs.Panel.{panel_exactly, panel_kept, panel_whole, PanelRefused, panel_refused_iff}
use Rattle.verifier.specs.Panel.{panel_rows, panel_rows_lem, panel_most}
use Rattle.verifier.specs.Checked.{CertifiedFiles, files_iff_certified, files_say, file_verdicts_agree}
use Rattle.answers.specs.Packed.{packed_verdict, place_unit, number_most}
use Rattle.link_values.specs.Refusals.{Numbers, numbers_wider}
use Rattle.link.specs.NumberLaws.{by_rows}
use Rattle.link.specs.Packed.{SolvesPacked}
use Rattle.link.specs.PackedLaws.{unpacked_verdict, unpacked_packed_verdict}
use Rattle.link.specs.Checked.{check_gives, zero_accepted, number_refused, numbered_most}
use Rattle.link.specs.Together.{line_certificate, CertificateBytesIn, every_system_checked, every_system_certificate}

-- no place is greater: a number of words, one more than the longest certificate has
abbrev pub places_most : ℕ
places_most = longest_certificate office + 1

-- the conditions of 41, of a sheet and a card that were read
abbrev pub TooLarge : Systems → Certificate → (place : ℕ) → Type 0
TooLarge s c place =
    ((place ≡ 0) × (¬ SystemsWithin panel s))
    ⊎ ((place ≡ 1) × SystemsWithin panel s × (¬ CertificateWithin panel s.head.shape c))

abbrev pub panel_gives : (f g : List ℕ) → ℕ
panel_gives f g = packed_verdict (panel_verdict f g)

-- a number that stands in no row
never? : ℕ → List Row → Bool
never? n [] = true
never? n (row ∷ rows) = (ltb n row.lowest || ltb row.highest n) && never? n rows

never : (n place : ℕ) (rows : List Row) → never? n rows ≡ true → InRows rows n place → ⊥
unfolding InRows never?
never n place [] e r = r
never n place (row ∷ rows) e (inl r) = outside (ltb n row.lowest) (ltb row.highest n) (never? n rows) refl refl e
  where
    outside : (a b c : Bool) → ltb n row.lowest ≡ a → ltb row.highest n ≡ b → (a || b) && c ≡ true → ⊥
    outside true b c x y z = omega (arith, ltb-true n row.lowest x, r.from)
    outside false true c x y z = omega (arith, ltb-true row.highest n y, r.to)
    outside false false c x y z = let w : ◌≡◌ {A = ℕ} 0 1 = cc in omega arith
never n place (row ∷ rows) e (inr r) = never n place rows (second (ltb n row.lowest || ltb row.highest n) (never? n rows) e) r
  where
    second : (a b : Bool) → a && b ≡ true → b ≡ true
    second true b z = z
    second false b z = let w : ◌≡◌ {A = ℕ} 0 1 = cc in absurd (omega arith)

module _ (f g : List ℕ) where
  panel_numbers : Numbers 1 41 (panel_verdict f g)
  panel_numbers = by_rows _ (panel_rows_lem f g) refl

  numbers_fit : Numbers 1 number_most (panel_verdict f g)
  numbers_fit = numbers_wider 1 41 (omega arith) (omega arith) panel_numbers

  -- a number is that of the verdict
  number_told : (number : ℕ) → 1 ≤ number → panel_gives f g % place_unit ≡ number
      → (place : ℕ) × (panel_verdict f g ≡ refused number place)
  number_told number some e = by (panel_verdict f g) numbers_fit refl e
    where
      by : (v : Outcome (Unit {0})) → Numbers 1 number_most v → panel_verdict f g ≡ v → packed_verdict v % place_unit ≡ number
          → (place : ℕ) × (panel_verdict f g ≡ refused number place)
      by (accepted tt) n is x = absurd (omega arith)
      by (refused m place) n is x =
          let same : m ≡ number = omega (arith, (n.each m place refl).1) in
          (place, is ∙ ap (λ (i : ℕ). refused i place) same)

  -- ---- the number

  pub panel_unpacked : unpacked_verdict (panel_gives f g) ≡ panel_verdict f g
  panel_unpacked = unpacked_packed_verdict (panel_verdict f g) numbers_fit

  -- it fits: a place is at most 2,199, one word more than the longest certificate has
  pub panel_small : panel_gives f g ≤ place_unit * places_most + 41
  panel_small = by (panel_verdict f g) (panel_most f g places_most (omega arith) (omega arith) (omega arith)).places panel_numbers
    where
      by : (v : Outcome (Unit {0})) → ((number place : ℕ) → v ≡ refused number place → place ≤ places_most) → Numbers 1 41 v
          → packed_verdict v ≤ place_unit * places_most + 41
      by (accepted tt) places numbers = omega arith
      by (refused number place) places numbers = omega (arith, places number place refl, (numbers.each number place refl).1)

  -- ---- what is accepted

  -- "the panel accepts exactly those cards that the office accepts and that, with their sheet, keep the panel's limits"
  pub panel_iff : (panel_gives f g ≡ 0) ↔ ((check_gives 0 f g ≡ 0) × Keeps panel (words_of f) (words_of g))
  panel_iff =
      let exactly = panel_exactly f g in (
        λ e.
            let t = exactly.0 (zero_accepted (panel_verdict f g) numbers_fit e) in
            (ap packed_verdict t.0, t.1),
        λ h.
            ap packed_verdict (exactly.1 (zero_accepted (file_verdict office 0 f g) (numbered_most 0 f g) h.0, h.1)),
      )

  -- no sheet and no card that is accepted has more bytes than so many words of the panel's
  pub panel_sizes : panel_gives f g ≡ 0
      → (length f ≤ word_bytes * longest_system panel) × (length g ≤ word_bytes * longest_certificate panel)
  panel_sizes e =
      let t = (panel_exactly f g).0 (zero_accepted (panel_verdict f g) numbers_fit e) in
      let K = t.1 in
      let short = ap length K.system_words in
      let most = systems_words_most panel panel_fits K.systems K.system_within in
      let whole = panel_whole f g (zero_accepted (panel_verdict f g) numbers_fit e) in
      let n = length_words_of f in
      let m = length_words_of g in
      let few = K.short in
      (omega (arith, whole.0), omega (arith, whole.1))

  module _ (small_f : Bytes f) (small_g : Bytes g) where
    by_files : panel_gives f g ≡ 0 → file_verdict panel 0 f g ≡ accepted tt
    by_files e = (panel_kept f g).0 (zero_accepted (panel_verdict f g) numbers_fit e)

    -- "the second demand is meant so there"
    pub panel_certified : (panel_gives f g ≡ 0) ↔ CertifiedFiles panel 0 f g
    panel_certified =
        let certified = files_iff_certified panel panel_fits 0 f g small_f small_g in
        (λ e. certified.0 (by_files e), λ a. ap packed_verdict ((panel_kept f g).1 (certified.1 a)))

    pub panel_says : panel_gives f g ≡ 0
        → (a : CertifiedFiles panel 0 f g) × Says a.written.system a.written.certificate
    panel_says e = files_say panel panel_fits 0 f g small_f small_g (by_files e)

    pub panel_agree : (h : List ℕ) → Bytes h → panel_gives f g ≡ 0 → panel_gives f h ≡ 0
        → (a : CertifiedFiles panel 0 f g) × (b : CertifiedFiles panel 0 f h)
        × Agree a.written.certificate b.written.certificate
    panel_agree h small_h e e' =
        file_verdicts_agree panel panel_fits 0 f g h small_f small_g small_h (by_files e)
        ((panel_kept f h).0 (zero_accepted (panel_verdict f h)
        (numbers_wider 1 41 (omega arith) (omega arith) (by_rows _ (panel_rows_lem f h) refl)) e'))

  -- ---- what is refused

  pub panel_gives_iff : (number place : ℕ) → 1 ≤ number → number ≤ number_most
      → (panel_gives f g ≡ place_unit * place + number) ↔ PanelRefused f g number place
  panel_gives_iff number place l m =
      let iff = panel_refused_iff f g number place in (
        λ e. iff.0 (number_refused (panel_verdict f g) numbers_fit number place l m e),
        λ a. ap packed_verdict (iff.1 a),
      )

  -- "10 is given only for a byte count not a multiple of four"
  pub panel_ten : (panel_gives f g % place_unit ≡ 10) ↔ (broken f || broken g ≡ true)
  unfolding never?
  panel_ten = (
    λ e.
        let told = number_told 10 (omega arith) e in
        by_ten told.0 ((panel_refused_iff f g 10 told.0).0 told.1),
    λ e. ap (λ n. n % place_unit) ((panel_gives_iff 10 0 (omega arith) (omega arith)).1 (ten e refl refl)),
  )
    where
      by_ten : (place : ℕ) → PanelRefused f g 10 place → broken f || broken g ≡ true
      by_ten place (ten e n p) = e
      by_ten place (others e (by_system r)) =
          absurd (never 10 place (system_rows (words_of f)) refl
          ((systems_rows office (words_of f)).in_rows 10 place ((systems_refused_iff office (words_of f) 10 place).1 r)))
      by_ten place (others e (by_certificate s h r)) =
          absurd (never 10 place (certificate_rows (words_of g)) refl
          ((certificate_rows_lem office s.head.shape (words_of g)).in_rows 10 place
          ((certificate_refused_iff office s.head.shape (words_of g) 10 place).1 r)))
      by_ten place (others e (by_values w)) =
          let h = w.system_words.1 in
          absurd (never 10 place (kept_rows w.system.head.shape) refl
          (fault_in_rows office panel office_fits 0 w.system h h.head.sides.0 w.certificate w.certificate_within
          10 place w.holds))

  -- 40 is not given: no right side is asked for
  pub panel_forty : ¬ (panel_gives f g % place_unit ≡ 40)
  unfolding never?
  panel_forty e =
      let told = number_told 40 (omega arith) e in
      never 40 told.0 (panel_rows f g) refl ((panel_rows_lem f g).in_rows 40 told.0 told.1)

  -- 41 only where both are read and one exceeds a limit
  pub panel_large : panel_gives f g % place_unit ≡ 41 → (place : ℕ) × (panel_gives f g ≡ place_unit * place + 41)
      × WrittenPair office (whole office) (λ s c. TooLarge s c place) (words_of f) (words_of g)
  unfolding never?
  panel_large e =
      let told = number_told 41 (omega arith) e in
      (told.0, ap packed_verdict told.1, by_large told.0 ((panel_refused_iff f g 41 told.0).0 told.1))
    where
      by_large : (place : ℕ) → PanelRefused f g 41 place
          → WrittenPair office (whole office) (λ s c. TooLarge s c place) (words_of f) (words_of g)
      by_large place (ten e n p) = absurd (omega arith)
      by_large place (others e (by_system r)) =
          absurd (never 41 place (system_rows (words_of f)) refl
          ((systems_rows office (words_of f)).in_rows 41 place ((systems_refused_iff office (words_of f) 41 place).1 r)))
      by_large place (others e (by_certificate s h r)) =
          absurd (never 41 place (certificate_rows (words_of g)) refl
          ((certificate_rows_lem office s.head.shape (words_of g)).in_rows 41 place
          ((certificate_refused_iff office s.head.shape (words_of g) 41 place).1 r)))
      by_large place (others e (by_values w)) =
          written_map office (whole office) (λ s h c m fault. of_fault s h c m fault) w
        where
          of_fault : (s : Systems) → (words_of f ≡ systems_words s) × SystemsWithin office s → (c : Certificate)
              → CertificateWithin office s.head.shape c → KeptFault panel 0 s c 41 place → TooLarge s c place
          of_fault s h c m (system_exceeds n p large) = inl (p, large)
          of_fault s h c m (certificate_exceeds_lem n p keeps large) = inr (p, keeps, large)
          of_fault s h c m (kept_values keeps keeps' fault) =
              absurd (never 41 place (value_rows (shape (line s 0))) refl (fault_rows (line s 0) c 41 place fault))

  -- 41, "after both have been read": of the sheet, whatever the card that was read says; else of the card
  module _ {s : Systems} {c : Certificate} (whole : broken f || broken g ≡ false)
      (system : read_systems office (words_of f) ≡ accepted s)
      (certificate : read_certificate office s.head.shape (words_of g) ≡ accepted c) where
    both_written : (n p : ℕ) → KeptFault panel 0 s c n p → PanelRefused f g n p
    both_written n p fault =
        let w = systems_written_of_read office office_fits (words_of f) s system in
        let q = certificate_written_of_read office s.head.shape (words_of g) c certificate in
        others whole (by_values (record {
          system = s;
          certificate = c;
          system_words = w;
          certificate_words_lem = q.0;
          certificate_within = q.1;
          holds = fault;
        }))

    pub panel_system_large : ¬ SystemsWithin panel s → panel_gives f g ≡ 41
    panel_system_large large =
        (panel_gives_iff 41 0 (omega arith) (omega arith)).1 (both_written 41 0 (system_exceeds refl refl large))

    pub panel_certificate_large : SystemsWithin panel s → ¬ CertificateWithin panel s.head.shape c → panel_gives f g ≡ 105
    panel_certificate_large keeps large =
        (panel_gives_iff 41 1 (omega arith) (omega arith)).1 (both_written 41 1 (certificate_exceeds_lem refl refl keeps large))

-- ---- the solver's certificates: of a system within the panel's limits they are within them, and the panel accepts them

module _ (s : Systems) (within : SystemsWithin panel s) {entry exit : List ℕ} {r : ℕ}
    (room : word_bytes * longest_certificate office ≤ length entry)
    (solves : SolvesPacked office 0 (bytes_of (systems_words s)) entry exit r) where
  wide : SystemsWithin office s
  wide = systems_wider office panel panel_narrower s within

  has : 0 < s.head.sides
  has = within.head.sides.0

  given : CertificateBytesIn (certificate_words (line_certificate s wide 0 has)) entry exit r
  given = every_system_certificate s wide 0 has room solves

  certificate_within : CertificateWithin panel s.head.shape (line_certificate s wide 0 has)
  certificate_within =
      let h = line_within panel s within 0 has in
      subst₂ (CertificateWithin panel) (line_shape s 0)
      (panel_office_same (line s 0) h (line_within office s wide 0 has))
      (chosen_certificate_within panel (line s 0) h (panel_suffices (line s 0) h))

  words_given : words_of (take (r / place_unit) exit) ≡ certificate_words (line_certificate s wide 0 has)
  words_given =
      let bytes = bytes_of (certificate_words (line_certificate s wide 0 has)) in
      let count : r / place_unit ≡ length bytes = omega (arith, given.0) in
      ap words_of (ap (take (r / place_unit)) given.1 ∙ take_at bytes (drop (length bytes) entry) (r / place_unit) (sym count))
      ∙ words_of_bytes_of (certificate_words (line_certificate s wide 0 has))

  pub panel_solved : panel_gives (bytes_of (systems_words s)) (take (r / place_unit) exit) ≡ 0
  panel_solved =
      let checked = every_system_checked s wide 0 has room solves in
      (panel_iff (bytes_of (systems_words s)) (take (r / place_unit) exit)).1 (
        checked.1,
        record {
          systems = s;
          certificate = line_certificate s wide 0 has;
          system_words = words_of_bytes_of (systems_words s);
          certificate_words_lem = words_given;
          system_within = within;
          certificate_within = certificate_within;
          short = rw words_given (certificate_words_most panel s.head.shape within.head.shape
              (line_certificate s wide 0 has) certificate_within);
        },
      )
