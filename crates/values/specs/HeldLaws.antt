-- Every system and every certificate within the limits lies in arrays as the writers take them: laid into arrays of their lengths,
-- the values are what the arrays stand for.
use Rattle.std.specs.Prelude.{◌≡◌, List, [], ℕ, ◌*◌, ◌≤◌, length, get_or, replicate}
use Rattle.std.proofs.Common.{sym, ap, ap₂, ◌∙◌, subst, le_refl, le_trans, le_of_eq, mul-le-mul_left, arith}
use Rattle.std.proofs.lemmas.List.{length-replicate}
use Rattle.modular.specs.Bits.{bound16, most16}
use Rattle.words.specs.Limits.{Limits, system_count, solution_count}
use Rattle.words.specs.LimitsLaws.{LimitsFit, system_count_most}
use Rattle.words.specs.Word.{AllBelow}
use Rattle.words.specs.Polynomial.{VectorWithin}
use Rattle.words.specs.VectorLaws.{all_at}
use Rattle.words.specs.System.{Shape, ShapeWithin}
use Rattle.words.specs.Systems.{Head, Systems, SystemsWithin, systems_entries}
use Rattle.words.proofs.SystemsLaws.{systems_format, systems_laws}
use Rattle.words.specs.Certificate.{Certificate, Form, CertificateWithin, certificate_form, certificate_entries, entry_count}
use Rattle.words.proofs.CertificateLaws.{certificate_format, certificate_laws, entry_count_most}
use Rattle.words.proofs.FormatLaws.{Format, FormatLaws}
use Rattle.write_frame.specs.Values.{polynomials_in}
use Rattle.writer.specs.Values.{system_in_arrays, certificate_in, certificate_stride}
use Rattle.writer.specs.ValuesLaws.{system_in_head, system_in_entries, certificate_in_entries, certificate_in_form, canonical_below}
use Rattle.writer.specs.WrittenLaws.{system_within, certificate_within}
use Rattle.values.specs.Laid.{sizes_over, laid_over}
use Rattle.values.specs.LaidLaws.{Few, length_sizes, length_laid, below_replicate, below_sizes, below_laid, entries_laid}

-- values with the same parts are the same
same_parts : {H A : Type 0} (F : Format H A) → FormatLaws F → {v u : A} → F.Within v → F.Within u → F.apart v ≡ F.apart u
    → v ≡ u
same_parts F laws {v} {u} hv hu e = sym (laws.together_apart v hv) ∙ ap F.together e ∙ laws.together_apart u hu

-- so many polynomials within a limit in arrays that have room for them
entries_held : {p limit count stride : ℕ} (fs : List (List ℕ)) → VectorWithin p limit count fs → limit ≤ stride
    → (sizes values : List ℕ)
    → stride * count ≤ length values → polynomials_in stride (sizes_over fs sizes) (laid_over stride fs values) 0 count ≡ fs
entries_held {p} {limit} {count} {stride} fs within apart sizes values room =
    let n = within.count in
    let few : Few stride fs = λ k. le_trans (all_at p limit fs within.entries k).size apart in
    subst (λ (c : ℕ). stride * c ≤ length values → polynomials_in stride (sizes_over fs sizes) (laid_over stride fs values) 0 c ≡ fs) n
    (entries_laid stride fs sizes values few) room

-- ---- systems

module _ (limits : Limits) (fit : LimitsFit limits) (s : Systems) (within : SystemsWithin limits s) where
  entries : VectorWithin s.head.shape.modulus limits.system_coefficients
      (system_count s.head.shape.rows s.head.shape.columns s.head.sides) (systems_entries s)
  entries = ((systems_laws limits fit).apart s within).entries

  pub system_laid : (sizes values : List ℕ)
      → limits.system_coefficients * system_count limits.rows limits.columns limits.sides ≤ length values
      → system_in_arrays limits s.head (sizes_over (systems_entries s) sizes)
      (laid_over limits.system_coefficients (systems_entries s) values) ≡ s
  system_laid sizes values room =
      let stride = limits.system_coefficients in
      let fs = systems_entries s in
      let few = system_count_most within.head.shape.rows.1 within.head.shape.columns.1 within.head.sides.1 in
      let same : systems_entries (system_in_arrays limits s.head (sizes_over fs sizes) (laid_over stride fs values)) ≡ fs =
      system_in_entries limits s.head (sizes_over fs sizes) (laid_over stride fs values)
      ∙ entries_held fs entries (le_refl stride) sizes values (le_trans (mul-le-mul_left stride few) room) in
      same_parts (systems_format limits) (systems_laws limits fit)
      (system_within limits s.head (sizes_over fs sizes) (laid_over stride fs values) within.head
      (rw same entries.entries))
      within
      (ap₂ (λ (h : Head) (gs : List (List ℕ)). record { head = h; entries = gs })
      (system_in_head limits s.head (sizes_over fs sizes) (laid_over stride fs values)) same)

-- ---- certificates for a system of the shape h

module _ (limits : Limits) (fit : LimitsFit limits) (fits : limits.certificate_coefficients ≤ certificate_stride) (h : Shape)
    (shape : ShapeWithin limits h) (c : Certificate) (within : CertificateWithin limits h c) where
  entries_of : VectorWithin h.modulus limits.certificate_coefficients (entry_count h (certificate_form c)) (certificate_entries c)
  entries_of = ((certificate_laws limits h).apart c within).entries

  pub certificate_laid : (sizes values : List ℕ)
      → certificate_stride * solution_count limits.rows limits.columns ≤ length values
      → certificate_in h (certificate_form c) (sizes_over (certificate_entries c) sizes)
      (laid_over certificate_stride (certificate_entries c) values) ≡ c
  certificate_laid sizes values room =
      let fs = certificate_entries c in
      let form = certificate_form c in
      let few = entry_count_most limits h shape form in
      let same : certificate_entries (certificate_in h form (sizes_over fs sizes) (laid_over certificate_stride fs values)) ≡ fs =
      certificate_in_entries h (sizes_over fs sizes) (laid_over certificate_stride fs values) form
      ∙ entries_held fs entries_of fits sizes values (le_trans (mul-le-mul_left certificate_stride few) room) in
      same_parts (certificate_format limits h) (certificate_laws limits h)
      (certificate_within limits 0 h (sizes_over fs sizes) (laid_over certificate_stride fs values) form
      (rw same entries_of.entries))
      within
      (ap₂ (λ (g : Form) (gs : List (List ℕ)). record { head = g; entries = gs })
      (certificate_in_form h (sizes_over fs sizes) (laid_over certificate_stride fs values) form) same)

-- ---- arrays of zeros as long as those that the writers take

-- values stand in arrays of so many numbers, each of 16 bits
pub record InArrays (sizes_count values_count : ℕ) (Stand : List ℕ → List ℕ → Type 0) : Type 0 where
  pub sizes : List ℕ
  pub values : List ℕ
  pub sizes_count_lem : length sizes ≡ sizes_count
  pub values_count_lem : length values ≡ values_count
  pub sizes_below : AllBelow bound16 sizes
  pub values_below : AllBelow bound16 values
  pub stand : Stand sizes values

held_by : {p limit count most stride : ℕ} (fs : List (List ℕ)) → VectorWithin p limit count fs → limit ≤ stride → count ≤ most
    → p ≤ bound16 → limit ≤ most16 → {Stand : List ℕ → List ℕ → Type 0}
    → Stand (sizes_over fs (replicate most 0)) (laid_over stride fs (replicate (stride * most) 0))
    → InArrays most (stride * most) Stand
held_by {p} {limit} {count} {most} {stride} fs within apart few small narrow stand =
    let each = all_at p limit fs within.entries in
    let zeros : (n : ℕ) → AllBelow bound16 (replicate n 0) = λ n. below_replicate bound16 n (omega arith) in
    let short : (k : ℕ) → length (get_or fs k []) ≤ most16 = λ k. le_trans (each k).size narrow in
    let room : stride * length fs ≤ stride * most = mul-le-mul_left stride (le_trans (le_of_eq within.count) few) in
    record {
      sizes = sizes_over fs (replicate most 0);
      values = laid_over stride fs (replicate (stride * most) 0);
      sizes_count_lem = length_sizes fs (replicate most 0)
          (omega (arith, within.count, length-replicate {A = ℕ} most 0)) ∙ length-replicate most 0;
      values_count_lem = length_laid stride fs (replicate (stride * most) 0) (λ k. le_trans (each k).size apart)
          (omega (arith, room, length-replicate {A = ℕ} (stride * most) 0)) ∙ length-replicate (stride * most) 0;
      sizes_below = below_sizes bound16 fs (replicate most 0) (λ k. omega (arith, short k)) (zeros most);
      values_below = below_laid bound16 stride fs (replicate (stride * most) 0)
          (λ k. canonical_below p bound16 small (omega arith) (get_or fs k []) (each k).canonical) (zeros (stride * most));
      stand = stand;
    }

-- every matrix with right sides within the limits
pub system_held : (limits : Limits) → LimitsFit limits → (s : Systems) → SystemsWithin limits s → InArrays
    (system_count limits.rows limits.columns limits.sides)
    (limits.system_coefficients * system_count limits.rows limits.columns limits.sides)
    (λ sizes values. system_in_arrays limits s.head sizes values ≡ s)
system_held limits fit s within =
    let few = system_count_most within.head.shape.rows.1 within.head.shape.columns.1 within.head.sides.1 in
    let small = within.head.shape.modulus in
    held_by (systems_entries s) (entries limits fit s within) (le_refl _) few (omega arith) fit.system_coefficients
    (system_laid limits fit s within _ _ (le_of_eq (sym (length-replicate _ 0))))

-- every certificate within the limits, for a system of the shape h
pub certificate_held : (limits : Limits) → LimitsFit limits → limits.certificate_coefficients ≤ certificate_stride → (h : Shape)
    → ShapeWithin limits h → (c : Certificate) → CertificateWithin limits h c → InArrays
    (solution_count limits.rows limits.columns)
    (certificate_stride * solution_count limits.rows limits.columns)
    (λ sizes values. certificate_in h (certificate_form c) sizes values ≡ c)
certificate_held limits fit fits h shape c within =
    let few = entry_count_most limits h shape (certificate_form c) in
    let small = shape.modulus in
    held_by (certificate_entries c) (entries_of limits fit fits h shape c within) fits few (omega arith)
    fit.certificate_coefficients
    (certificate_laid limits fit fits h shape c within _ _ (le_of_eq (sym (length-replicate _ 0))))
