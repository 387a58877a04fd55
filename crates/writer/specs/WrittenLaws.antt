-- What the writers write: the written forms of values within the limits, and of all these where there is room. So a reader gives
-- the values back.
use Rattle.std.specs.Prelude.{◌≡◌, List, [], ◌∷◌, ◌++◌, ℕ, ◌≤◌, length, take, drop, ltb, Ok}
use Rattle.std.proofs.Common.{sym, ap, ◌∙◌, arith, take_at, ltb-false, le-ltb}
use Rattle.words.specs.Limits.{Limits, longest_system, longest_certificate}
use Rattle.words.specs.Outcome.{Outcome}
use Rattle.words.specs.Outcome.Outcome.{accepted, refused}
use Rattle.words.specs.Polynomial.{AllWithin}
use Rattle.words.specs.System.{Shape, ShapeWithin}
use Rattle.words.specs.Systems.{Head, Systems, HeadWithin, SystemsWithin, systems_words, systems_entries, read_systems}
use Rattle.words.specs.Certificate.{Certificate, Form, SolutionWithin, CertificateWithin, certificate_words, certificate_entries}
use Rattle.words.specs.Certificate.{read_certificate}
use Rattle.words.specs.Certificate.Form.{solving, absent}
use Rattle.words.specs.LimitsLaws.{LimitsFit}
use Rattle.words.proofs.SystemsLaws.{systems_laws, systems_read_of_written}
use Rattle.words.proofs.CertificateLaws.{certificate_laws, certificate_read_of_written}
use Rattle.words.specs.OutcomeLaws.{refuse_passed}
use Rattle.write_frame.specs.ValuesLaws.{length_polynomials_in}
use Rattle.write_frame.specs.Trial.{refuse_polynomials}
use Rattle.write_frame.specs.TrialLaws.{polynomials_passed, polynomials_within}
use Rattle.writer.specs.Writing.{refuse_shape, refuse_room, write_systems, write_certificate, lent_after, Writes}
use Rattle.writer.specs.WritingLaws.{sides_passed, sides_within, shape_passed, shape_within}
use Rattle.writer.specs.Values.{system_in_arrays, certificate_in, certificate_stride}

-- ---- both writers

module _ (limits : Limits) (h : Shape) (limit by longest lent : ℕ) (fs : List (List ℕ)) (words : List ℕ) where
  -- all that is tried, in order
  abbrev write : Outcome (List ℕ)
  write = refuse_shape limits h (refuse_polynomials h.modulus limit by 1 fs (refuse_room longest lent (accepted words)))

  record WriteAccepted (ws : List ℕ) : Type 0 where
    shape : ShapeWithin limits h
    entries : AllWithin h.modulus limit fs
    room : longest ≤ lent
    form : words ≡ ws

  write_accepted : (ws : List ℕ) → write ≡ accepted ws → WriteAccepted ws
  write_accepted ws e =
      let s = shape_passed limits h _ e in
      let f = polynomials_passed h.modulus limit by _ 1 fs s.1 in
      let r = refuse_passed (ltb lent longest) 11 0 (accepted words) f.1 in
      record { shape = s.0; entries = f.0; room = ltb-false lent longest r.0; form = cc }

  write_within : ShapeWithin limits h → AllWithin h.modulus limit fs → longest ≤ lent → write ≡ accepted words
  write_within shape entries room =
      let last = refuse_room longest lent (accepted words) in
      shape_within limits h (refuse_polynomials h.modulus limit by 1 fs last) shape
      ∙ polynomials_within h.modulus limit by last 1 fs entries
      ∙ simp (le-ltb lent longest room)

all_split : (p limit : ℕ) (fs gs : List (List ℕ)) → AllWithin p limit (fs ++ gs) → AllWithin p limit fs × AllWithin p limit gs
unfolding AllWithin
all_split p limit [] gs h = (tt, h)
all_split p limit (f ∷ fs) gs h = let t = all_split p limit fs gs h.1 in ((h.0, t.0), t.1)

-- ---- systems

-- arrays that stand for polynomials within the limit stand for a matrix with right sides within the limits
pub system_within : (limits : Limits) (h : Head) (sizes coefficients : List ℕ) → HeadWithin limits h
    → AllWithin h.shape.modulus limits.system_coefficients (systems_entries (system_in_arrays limits h sizes coefficients))
    → SystemsWithin limits (system_in_arrays limits h sizes coefficients)
unfolding system_in_arrays
system_within limits h sizes coefficients head entries =
    let limit = limits.system_coefficients in
    let s = system_in_arrays limits h sizes coefficients in
    let each = all_split h.shape.modulus limit s.matrix s.side_entries entries in
    record {
      head = head;
      matrix = record { entries = each.0; count = length_polynomials_in limit sizes coefficients _ _ };
      side_entries = record { entries = each.1; count = length_polynomials_in limit sizes coefficients _ _ };
    }

module _ (limits : Limits) (lent : ℕ) where
  pub system_writes : LimitsFit limits → (s : Systems) → SystemsWithin limits s → longest_system limits ≤ lent
      → write_systems limits lent s ≡ accepted (systems_words s)
  unfolding write_systems
  system_writes fit s h room =
      sides_within limits s.head.sides _ h.head.sides
      ∙ write_within limits s.head.shape limits.system_coefficients 0 (longest_system limits) lent (systems_entries s)
      (systems_words s) h.head.shape
      ((systems_laws limits fit).apart s h).entries.entries room

  module _ (h : Head) (sizes coefficients : List ℕ) where
    abbrev system : Systems
    system = system_in_arrays limits h sizes coefficients

    pub system_accepted : (ws : List ℕ) → write_systems limits lent system ≡ accepted ws
        → SystemsWithin limits system × (systems_words system ≡ ws)
    unfolding write_systems system_in_arrays
    system_accepted ws e =
        let t = sides_passed limits h.sides _ e in
        let w = write_accepted limits h.shape limits.system_coefficients 0 (longest_system limits) lent (systems_entries system)
        (systems_words system) ws t.1 in
        (system_within limits h sizes coefficients (record { shape = w.shape; sides = t.0 }) w.entries, w.form)

    pub system_written_is_read : LimitsFit limits → (ws : List ℕ) → write_systems limits lent system ≡ accepted ws
        → read_systems limits ws ≡ accepted system
    system_written_is_read fit ws e =
        let w = system_accepted ws e in
        ap (read_systems limits) (sym w.1) ∙ systems_read_of_written limits fit system w.0

-- ---- certificates

module _ (limits : Limits) (lent : ℕ) (h : Shape) where
  pub certificate_writes : ShapeWithin limits h → (c : Certificate) → CertificateWithin limits h c
      → longest_certificate limits ≤ lent
      → write_certificate limits lent h c ≡ accepted (certificate_words c)
  unfolding write_certificate
  certificate_writes shape c k room =
      write_within limits h limits.certificate_coefficients 20 (longest_certificate limits) lent (certificate_entries c)
      (certificate_words c) shape
      ((certificate_laws limits h).apart c k).entries.entries room

  solution_within : (d : List ℕ) (N : List (List ℕ)) (w : List ℕ) (Z : List (List ℕ)) → length N ≡ h.columns → length Z ≡ h.rows
      → AllWithin h.modulus limits.certificate_coefficients (d ∷ N ++ w ∷ Z) → SolutionWithin limits h d N w Z
  unfolding AllWithin
  solution_within d N w Z e_N e_Z k =
      let each = all_split h.modulus limits.certificate_coefficients N (w ∷ Z) k.1 in
      record {
        denominator = k.0;
        numerators = record { entries = each.0; count = e_N };
        certifying_denominator = each.1.0;
        certifying_numerators = record { entries = each.1.1; count = e_Z };
      }

  module _ (sizes coefficients : List ℕ) where
    abbrev certificate : Form → Certificate
    certificate form = certificate_in h form sizes coefficients

    pub certificate_within : (form : Form)
        → AllWithin h.modulus limits.certificate_coefficients (certificate_entries (certificate form))
        → CertificateWithin limits h (certificate form)
    unfolding certificate_in certificate_entries CertificateWithin
    certificate_within solving k =
        let count = length_polynomials_in certificate_stride sizes coefficients in
        solution_within _ _ _ _ (count _ _) (count _ _) k
    certificate_within absent k = record { entries = k; count = length_polynomials_in certificate_stride sizes coefficients _ _ }

    pub record CertificateWritten (form : Form) (ws : List ℕ) : Type 0 where
      pub shape : ShapeWithin limits h
      pub within : CertificateWithin limits h (certificate form)
      pub words : certificate_words (certificate form) ≡ ws

    pub certificate_accepted : (form : Form) (ws : List ℕ) → write_certificate limits lent h (certificate form) ≡ accepted ws
        → CertificateWritten form ws
    unfolding write_certificate
    certificate_accepted form ws e =
        let c = certificate form in
        let w = write_accepted limits h limits.certificate_coefficients 20 (longest_certificate limits) lent
        (certificate_entries c) (certificate_words c) ws e in
        record { shape = w.shape; within = certificate_within form w.entries; words = w.form }

    pub certificate_written_is_read : LimitsFit limits → (form : Form) (ws : List ℕ)
        → write_certificate limits lent h (certificate form) ≡ accepted ws
        → read_certificate limits h ws ≡ accepted (certificate form)
    certificate_written_is_read fit form ws e =
        let w = certificate_accepted form ws e in
        ap (read_certificate limits h) (sym w.words)
        ∙ certificate_read_of_written limits h fit w.shape (certificate form) w.within

-- ---- a call that answers with a count: the first so many of the lent words are the written form, and read as the values

pub count_words : (outcome : Outcome (List ℕ)) {entry exit : List ℕ} {n : ℕ} → Writes outcome entry (Ok n) exit
    → outcome ≡ accepted (take n exit)
unfolding lent_after
count_words (accepted ws) {entry} {exit} {n} w =
    let t = w.told in
    let e : n ≡ length ws = cc in
    ap accepted (sym (ap (take n) w.lent ∙ take_at ws (drop (length ws) entry) n (sym e)))
count_words (refused number place) w = absurd (let t = w.told in let z : ◌≡◌ {A = ℕ} 0 1 = cc in omega arith)

module _ (limits : Limits) (fit : LimitsFit limits) (sizes coefficients : List ℕ) {entry exit : List ℕ} {n : ℕ} where
  pub system_call_is_read : (h : Head)
      → Writes (write_systems limits (length entry) (system_in_arrays limits h sizes coefficients)) entry (Ok n) exit
      → read_systems limits (take n exit) ≡ accepted (system_in_arrays limits h sizes coefficients)
  system_call_is_read h w = system_written_is_read limits (length entry) h sizes coefficients fit (take n exit) (count_words _ w)

  pub certificate_call_is_read : (h : Shape) (form : Form)
      → Writes (write_certificate limits (length entry) h (certificate_in h form sizes coefficients)) entry (Ok n) exit
      → read_certificate limits h (take n exit) ≡ accepted (certificate_in h form sizes coefficients)
  certificate_call_is_read h form w =
      certificate_written_is_read limits (length entry) h sizes coefficients fit form (take n exit) (count_words _ w)
