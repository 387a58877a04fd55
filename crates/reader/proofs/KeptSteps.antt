-- Polynomials by their start words, one after another: whether one of them is longer than a limit. What is told of the entries of
-- what was read.
use mathlib.Core.Path.{◌≡◌, refl, sym, ap, ◌∙◌, subst}
use mathlib.Core.Bool.{Bool, true, false, ◌||◌}
use mathlib.Core.List.{List}
use Prim.Native.Nat.{ℕ, suc, ◌+◌, ◌*◌, ◌≤◌, ◌<◌}
use native.Mathlib.Omega.{arith}
use lib.ListN.{length, get_or}
use lib.Dec.{ltb}
use borrow.Author.Tests.{lt-ltb, le-ltb}
use Rattle.words.specs.Limits.{Limits, office}
use Rattle.words.specs.LimitsLaws.{office_fits}
use Rattle.words.specs.Word.{payload}
use Rattle.words.specs.Outcome.{mapped}
use Rattle.words.specs.Outcome.Outcome.{accepted}
use Rattle.words.specs.OutcomeLaws.{mapped_accepted}
use Rattle.words.specs.System.{Shape, ShapeWithin}
use Rattle.words.specs.Systems.{Head, Systems, systems_head, systems_entries, systems_due, read_systems}
use Rattle.words.specs.Certificate.{Certificate, Form, certificate_form, certificate_entries, entry_count, read_certificate}
use Rattle.words.proofs.CertificateLaws.{certificate_written_of_read}
use Rattle.words.specs.Starts.{start_place, first_entries, coefficients_at, HasEntries}
use Rattle.words.specs.Starts.{start_first, start_next, length_coefficients_at, length_first_entries, get_or_first_entries}
use Rattle.words.proofs.FramedLaws.{EntriesRead, systems_entries_read, certificate_entries_read}
use Rattle.words.specs.Kept.{longer?, systems_exceed, certificate_exceeds}
use Rattle.words.proofs.KeptLaws.{longer_at, longer_next, words_follow}

-- ---- the walk from start word to start word: before turn k none of the first k is longer

module _ (ws : List ℕ) (count most : ℕ) where
  pub record Walked (place k : ℕ) : Type 0 where
    pub inside : k ≤ count
    pub reached : place ≡ start_place ws k
    pub none : longer? most (first_entries ws k) ≡ false

  pub walk_start : Walked 1 0
  unfolding longer? first_entries
  walk_start = record { inside = omega arith; reached = sym (start_first ws); none = refl }

  module _ {limit place k : ℕ} (has : HasEntries limit count ws) (W : Walked place k) (more : k < count) where
    size : length (coefficients_at ws (start_place ws k)) ≡ payload (get_or ws place 0)
    size = length_coefficients_at ws (start_place ws k) (has.inside k more) ∙ ap (λ i. payload (get_or ws i 0)) (sym W.reached)

    pub walk_next : {n : ℕ} → n ≡ payload (get_or ws place 0) → n ≤ most → Walked (place + (n + 1)) (k + 1)
    unfolding first_entries
    walk_next {n} is few =
        let next : start_place ws (suc k) ≡ start_place ws k + 1 + payload (get_or ws (start_place ws k) 0) =
        start_next ws k (has.starts k more) in
        let same = ap (λ i. payload (get_or ws i 0)) W.reached in
        let here = W.reached in
        let turn : k + 1 ≡ suc k = omega arith in
        record {
          inside = omega arith;
          reached = rw turn (omega (arith, next, same, here));
          none = ap (λ (i : ℕ). longer? most (first_entries ws i)) turn
              ∙ longer_next most (first_entries ws k) (coefficients_at ws (start_place ws k)) W.none (omega (arith, size));
        }

    pub walk_stops : {n : ℕ} → n ≡ payload (get_or ws place 0) → most < n → true ≡ longer? most (first_entries ws count)
    walk_stops is long =
        sym (longer_at most (first_entries ws count) k (omega (arith, length_first_entries ws count))
        (omega (arith, ap length (get_or_first_entries ws count k more), size)))

-- a wider limit
has_wider : {limit wider count : ℕ} {ws : List ℕ} → limit ≤ wider → HasEntries limit count ws → HasEntries wider count ws
has_wider few h = record { starts = h.starts; sizes = λ k lt. omega (arith, h.sizes k lt); inside = h.inside }

-- ---- a sheet that was read

module _ (kept : Limits) (ws : List ℕ) (h : Head) (told : accepted h ≡ mapped systems_head (read_systems office ws)) where
  abbrev found : (s : Systems) × (read_systems office ws ≡ accepted s) × (systems_head s ≡ h)
  found = mapped_accepted systems_head (read_systems office ws) (sym told)

  abbrev s : Systems
  s = found.0

  abbrev count : ℕ
  count = h.shape.rows * h.shape.columns + h.sides * h.shape.rows

  entries : EntriesRead office.system_coefficients count ws (systems_entries s)
  entries =
      subst (λ (g : Head). EntriesRead office.system_coefficients (systems_due office g).count ws (systems_entries s)) found.2
      (systems_entries_read office office_fits ws s found.1)

  pub system_has : HasEntries office.certificate_coefficients count ws
  system_has = has_wider (omega arith) entries.has

  tells : {b : Bool} → systems_exceed kept s ≡ b → accepted b ≡ mapped (systems_exceed kept) (read_systems office ws)
  tells e = sym (ap (mapped (systems_exceed kept)) found.1 ∙ ap accepted e)

  exceeds_by : {b c d : Bool} → ltb kept.rows h.shape.rows ≡ b → ltb kept.columns h.shape.columns ≡ c
      → ltb kept.sides h.sides ≡ d
      → systems_exceed kept s ≡ b || (c || (d || longer? kept.system_coefficients (systems_entries s)))
  unfolding systems_exceed
  exceeds_by e f g =
      ap (λ (x : Head). ltb kept.rows x.shape.rows || (ltb kept.columns x.shape.columns
      || (ltb kept.sides x.sides || longer? kept.system_coefficients (systems_entries s)))) found.2
      ∙ rw (e, f, g) refl

  pub rows_exceed : kept.rows < h.shape.rows → accepted true ≡ mapped (systems_exceed kept) (read_systems office ws)
  rows_exceed lt = tells (exceeds_by (lt-ltb _ _ lt) refl refl)

  module _ (rows : h.shape.rows ≤ kept.rows) where
    pub columns_exceed : kept.columns < h.shape.columns → accepted true ≡ mapped (systems_exceed kept) (read_systems office ws)
    columns_exceed lt = tells (exceeds_by (le-ltb _ _ rows) (lt-ltb _ _ lt) refl)

    module _ (columns : h.shape.columns ≤ kept.columns) where
      pub sides_exceed : kept.sides < h.sides → accepted true ≡ mapped (systems_exceed kept) (read_systems office ws)
      sides_exceed lt = tells (exceeds_by (le-ltb _ _ rows) (le-ltb _ _ columns) (lt-ltb _ _ lt))

      pub entries_exceed : h.sides ≤ kept.sides → {b : Bool} → b ≡ longer? kept.system_coefficients (first_entries ws count)
          → accepted b ≡ mapped (systems_exceed kept) (read_systems office ws)
      entries_exceed sides is =
          tells (exceeds_by (le-ltb _ _ rows) (le-ltb _ _ columns) (le-ltb _ _ sides)
          ∙ ap (longer? kept.system_coefficients) (sym entries.same) ∙ sym is)

-- ---- a certificate that was read

module _ (kept : Limits) (ws : List ℕ) (g : Shape) (form : Form)
    (told : accepted form ≡ mapped certificate_form (read_certificate office g ws)) (valid : ShapeWithin office g) where
  abbrev found_certificate : (c : Certificate) × (read_certificate office g ws ≡ accepted c) × (certificate_form c ≡ form)
  found_certificate = mapped_accepted certificate_form (read_certificate office g ws) (sym told)

  abbrev c : Certificate
  c = found_certificate.0

  certificate_entries_lem : EntriesRead office.certificate_coefficients (entry_count g form) ws (certificate_entries c)
  certificate_entries_lem =
      subst (λ (f : Form). EntriesRead office.certificate_coefficients (entry_count g f) ws (certificate_entries c))
      found_certificate.2 (certificate_entries_read office office_fits ws g valid c found_certificate.1)

  pub certificate_has : HasEntries office.certificate_coefficients (entry_count g form) ws
  certificate_has = certificate_entries_lem.has

  pub certificate_told : ShapeWithin kept g → {b : Bool}
      → b ≡ longer? kept.certificate_coefficients (first_entries ws (entry_count g form))
      → accepted b ≡ mapped (certificate_exceeds kept) (read_certificate office g ws)
  certificate_told keeps is =
      let within = (certificate_written_of_read office g ws c found_certificate.1).1 in
      sym (ap (mapped (certificate_exceeds kept)) found_certificate.1
      ∙ ap accepted (words_follow kept g keeps office c within
      ∙ ap (longer? kept.certificate_coefficients) (sym certificate_entries_lem.same) ∙ sym is))
