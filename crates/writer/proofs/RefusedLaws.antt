-- The writers refuse just what is at fault, by its number and at its place; a refusal leaves all lent words.
use Rattle.std.specs.Prelude.{◌≡◌, refl, Bool, true, false, not, ◌&&◌, ◌||◌, ◌⊎◌, ◌↔◌, List, ℕ, ◌+◌, ◌≤◌, ◌<◌, length, ltb, Err}
use Rattle.std.proofs.Common.{sym, ◌∙◌, inl, inr, arith, ltb-true, ltb-false, lt-ltb, le-ltb}
use Rattle.std.proofs.Math.Path.{ap}
use Rattle.std.proofs.Math.Logic.{⊎_elim}
use Rattle.std.proofs.lemmas.Bool.{not-false}
use Rattle.modular.specs.LargestPrime.{largest_modulus}
use Rattle.modular.specs.Prime.{prime?}
use Rattle.modular.specs.Primality.{prime_of_true, true_of_prime}
use Rattle.words.specs.Limits.{Limits, words_for, longest_system, longest_certificate}
use Rattle.words.specs.Outcome.{Outcome, refuse}
use Rattle.words.specs.Outcome.Outcome.{accepted, refused}
use Rattle.words.specs.OutcomeLaws.{refused_accepted, refuse_refused_iff, mapped_refused}
use Rattle.words.specs.System.{Shape, ShapeWithin, one_to}
use Rattle.words.specs.Systems.{Systems, systems_entries, systems_words}
use Rattle.words.specs.Certificate.{Certificate, certificate_entries, certificate_words}
use Rattle.words.proofs.BytesLaws.{or_left, or_right}
use Rattle.words.specs.ReadingLaws.{and_passed}
use Rattle.words.proofs.HeadLaws.{one_to_true, one_to_from}
use Rattle.answers.specs.declared.answer.Refusal.{Refusal}
use Rattle.answers.specs.Answer.{reason_number, refused_by}
use Rattle.write_frame.specs.Trial.{refuse_polynomials}
use Rattle.write_frame.specs.Fault.{PolynomialFault}
use Rattle.write_frame.specs.Fault.CoefficientFault.{large, last_zero}
use Rattle.write_frame.specs.Fault.PolynomialFault.{many, coefficient}
use Rattle.write_frame.specs.FaultLaws.{polynomials_refused_iff, value_place}
use Rattle.writer.specs.Writing.{refuse_shape, refuse_room, write_systems, write_certificate, lent_after, Writes}
use Rattle.writer.specs.WritingLaws.{sides_within, shape_within}
use Rattle.writer.specs.Refused.{MayBeSides, MayBeModulus, MayBeSizes, WriterFault, SystemFault, CertificateFault}
use Rattle.writer.specs.Refused.WriterFault.{modulus, sizes, value, room}
use Rattle.writer.specs.Refused.SystemFault.{sides, others}

-- ---- the tests of the number of right sides, of p, n and m

-- a test that is passed just by what is good is failed just by what is not
pub failed_iff : {Good : Type 0} (b : Bool) → (b ≡ false) ↔ Good → (b ≡ true) ↔ ¬ Good
failed_iff true good = (λ e g. let z = good.1 g in let z' : ◌≡◌ {A = ℕ} 0 1 = cc in omega arith, λ no. refl)
failed_iff false good = (λ e g. let z' : ◌≡◌ {A = ℕ} 0 1 = cc in omega arith, λ no. absurd (no (good.0 refl)))

pub sides_iff : (limits : Limits) (count : ℕ) → (not (one_to limits.sides count) ≡ false) ↔ MayBeSides limits count
sides_iff limits count = (λ e. one_to_from _ _ (not-false _ e), λ good. simp (one_to_true _ _ good.0 good.1))

pub modulus_iff : (p : ℕ) → (not (prime? p) || ltb largest_modulus p ≡ false) ↔ MayBeModulus p
modulus_iff p = (
  λ e. (
    prime_of_true p (not-false _ (or_left (not (prime? p)) (ltb largest_modulus p) e)),
    ltb-false largest_modulus p (or_right (not (prime? p)) (ltb largest_modulus p) e),
  ),
  λ good. simp (true_of_prime p good.0, le-ltb largest_modulus p good.1),
)

pub sizes_iff : (limits : Limits) (h : Shape)
    → (not (one_to limits.rows h.rows && one_to limits.columns h.columns) ≡ false) ↔ MayBeSizes limits h
sizes_iff limits h = (
  λ e. let t = and_passed (one_to limits.rows h.rows) (one_to limits.columns h.columns) e in
      (one_to_from _ _ t.0, one_to_from _ _ t.1),
  λ good. simp (one_to_true _ _ good.0.0 good.0.1, one_to_true _ _ good.1.0 good.1.1),
)

pub shape_of : {limits : Limits} {h : Shape} → MayBeModulus h.modulus → MayBeSizes limits h → ShapeWithin limits h
shape_of m n = record { prime = m.0; modulus = m.1; rows = n.0; columns = n.1 }

-- ---- both writers

module _ (limits : Limits) (h : Shape) (limit by longest lent : ℕ) (fs : List (List ℕ)) (words : List ℕ) (n k : ℕ) where
  abbrev last_tried : Outcome (List ℕ)
  last_tried = refuse_room longest lent (accepted words)

  abbrev tried : Outcome (List ℕ)
  tried = refuse_polynomials h.modulus limit by 1 fs last_tried

  abbrev Faulty : Type 0
  Faulty = WriterFault limits h limit by longest lent fs n k

  abbrev no_modulus : Bool
  no_modulus = not (prime? h.modulus) || ltb largest_modulus h.modulus

  abbrev no_sizes : Bool
  no_sizes = not (one_to limits.rows h.rows && one_to limits.columns h.columns)

  fault_of : refuse_shape limits h tried ≡ refused n k → Faulty
  fault_of e =
      ⊎_elim
      (λ t. modulus ((failed_iff no_modulus (modulus_iff h.modulus)).0 t.0) t.1 t.2)
      (λ t.
      let good = (modulus_iff h.modulus).0 t.0 in
      ⊎_elim
      (λ u. sizes good ((failed_iff no_sizes (sizes_iff limits h)).0 u.0) u.1 u.2)
      (λ u.
      let within = shape_of {limits = limits} {h = h} good ((sizes_iff limits h).0 u.0) in
      ⊎_elim
      (λ v. value within v)
      (λ v. ⊎_elim
      (λ w. room within v.0 (ltb-true lent longest w.0) w.1 w.2)
      (λ w. absurd (refused_accepted (sym w.1)))
      ((refuse_refused_iff (ltb lent longest) 11 0 (accepted words) n k).0 v.1))
      ((polynomials_refused_iff h.modulus limit by last_tried n k fs).0 u.1))
      ((refuse_refused_iff no_sizes 3 0 tried n k).0 t.1))
      ((refuse_refused_iff no_modulus 2 0 (refuse no_sizes 3 0 tried) n k).0 e)

  of_fault : Faulty → refuse_shape limits h tried ≡ refused n k
  of_fault (modulus bad number place) =
      (refuse_refused_iff no_modulus 2 0 (refuse no_sizes 3 0 tried) n k).1
      (inl ((failed_iff no_modulus (modulus_iff h.modulus)).1 bad, number, place))
  of_fault (sizes good bad number place) =
      (refuse_refused_iff no_modulus 2 0 (refuse no_sizes 3 0 tried) n k).1
      (inr (
        (modulus_iff h.modulus).1 good,
        (refuse_refused_iff no_sizes 3 0 tried n k).1 (inl ((failed_iff no_sizes (sizes_iff limits h)).1 bad, number, place)),
      ))
  of_fault (value within fault) =
      shape_within limits h tried within ∙ (polynomials_refused_iff h.modulus limit by last_tried n k fs).1 (inl fault)
  of_fault (room within all short number place) =
      shape_within limits h tried within
      ∙ (polynomials_refused_iff h.modulus limit by last_tried n k fs).1
      (inr
      (all, (refuse_refused_iff (ltb lent longest) 11 0 (accepted words) n k).1 (inl (lt-ltb lent longest short, number, place))))

-- ---- systems, and certificates

module _ (limits : Limits) (lent : ℕ) (s : Systems) (n k : ℕ) where
  abbrev h : Shape
  h = s.head.shape

  abbrev limit : ℕ
  limit = limits.system_coefficients

  abbrev longest : ℕ
  longest = longest_system limits

  -- what is tried behind the number of right sides
  abbrev shape_tried : Outcome (List ℕ)
  shape_tried = refuse_shape limits h (tried limits h limit 0 longest lent (systems_entries s) (systems_words s) n k)

  abbrev no_sides : Bool
  no_sides = not (one_to limits.sides s.head.sides)

  system_fault_of : write_systems limits lent s ≡ refused n k → SystemFault limits lent s n k
  unfolding write_systems
  system_fault_of e =
      ⊎_elim
      (λ t. sides ((failed_iff no_sides (sides_iff limits s.head.sides)).0 t.0) t.1 t.2)
      (λ t.
      others ((sides_iff limits s.head.sides).0 t.0)
      (fault_of limits h limit 0 longest lent (systems_entries s) (systems_words s) n k t.1))
      ((refuse_refused_iff no_sides 1 0 shape_tried n k).0 e)

  system_of_fault : SystemFault limits lent s n k → write_systems limits lent s ≡ refused n k
  unfolding write_systems
  system_of_fault (sides bad number place) =
      (refuse_refused_iff no_sides 1 0 shape_tried n k).1
      (inl ((failed_iff no_sides (sides_iff limits s.head.sides)).1 bad, number, place))
  system_of_fault (others good fault) =
      sides_within limits s.head.sides shape_tried good
      ∙ of_fault limits h limit 0 longest lent (systems_entries s) (systems_words s) n k fault

  pub system_refused_iff_fault : (write_systems limits lent s ≡ refused n k) ↔ SystemFault limits lent s n k
  system_refused_iff_fault = (system_fault_of, system_of_fault)

pub certificate_refused_iff_fault : (limits : Limits) (lent : ℕ) (h : Shape) (c : Certificate) (n k : ℕ)
    → (write_certificate limits lent h c ≡ refused n k) ↔ CertificateFault limits lent h c n k
unfolding write_certificate
certificate_refused_iff_fault limits lent h c n k = (
  fault_of limits h limits.certificate_coefficients 20 (longest_certificate limits) lent (certificate_entries c)
      (certificate_words c) n k,
  of_fault limits h limits.certificate_coefficients 20 (longest_certificate limits) lent (certificate_entries c)
      (certificate_words c) n k,
)

-- ---- the numbers alone: 2, 3, 6 to 8 or 26 to 28, 11; of a matrix with right sides 1 too

abbrev pub WriterNumber : ℕ → ℕ → Type 0
WriterNumber by n = (n ≡ 2) ⊎ ((n ≡ 3) ⊎ (((6 + by ≤ n) × (n ≤ 8 + by)) ⊎ (n ≡ 11)))

polynomial_number : {p limit by at : ℕ} {f : List ℕ} {n k : ℕ} → PolynomialFault p limit by at f n k → (6 + by ≤ n) × (n ≤ 8 + by)
polynomial_number (many over number place) = (omega arith, omega arith)
polynomial_number (coefficient few (large j some before over number place)) = (omega arith, omega arith)
polynomial_number (coefficient few (last_zero j all each none number place)) = (omega arith, omega arith)

fault_number : {limits : Limits} {h : Shape} {limit by longest lent : ℕ} {fs : List (List ℕ)} {n k : ℕ}
    → WriterFault limits h limit by longest lent fs n k → WriterNumber by n
fault_number (modulus bad number place) = inl number
fault_number (sizes good bad number place) = inr (inl number)
fault_number (value within fault) = inr (inr (inl (polynomial_number fault.fault)))
fault_number (room within all short number place) = inr (inr (inr number))

pub system_writer_numbers : (limits : Limits) (lent : ℕ) (s : Systems) {n k : ℕ} → write_systems limits lent s ≡ refused n k
    → (n ≡ 1) ⊎ WriterNumber 0 n
system_writer_numbers limits lent s {n} {k} e = by ((system_refused_iff_fault limits lent s n k).0 e)
  where
    by : SystemFault limits lent s n k → (n ≡ 1) ⊎ WriterNumber 0 n
    by (sides bad number place) = inl number
    by (others good fault) = inr (fault_number fault)

pub certificate_writer_numbers : (limits : Limits) (lent : ℕ) (h : Shape) (c : Certificate) {n k : ℕ}
    → write_certificate limits lent h c ≡ refused n k → WriterNumber 20 n
certificate_writer_numbers limits lent h c {n} {k} e = fault_number ((certificate_refused_iff_fault limits lent h c n k).0 e)

-- no place lies behind the form that was to be written
pub fault_place : {limits : Limits} {h : Shape} {limit by longest lent : ℕ} {fs : List (List ℕ)} {n k : ℕ}
    → WriterFault limits h limit by longest lent fs n k → k < words_for (length fs) limit
fault_place (modulus bad number place) = omega arith
fault_place (sizes good bad number place) = omega arith
fault_place (value within fault) = value_place fault
fault_place (room within all short number place) = omega arith

pub system_fault_place : {limits : Limits} {lent : ℕ} {s : Systems} {n k : ℕ} → SystemFault limits lent s n k
    → k < words_for (length (systems_entries s)) limits.system_coefficients
system_fault_place (sides bad number place) = omega arith
system_fault_place (others good fault) = fault_place fault

-- ---- calls

module _ {outcome : Outcome (List ℕ)} {entry exit : List ℕ} {r : Refusal} (w : Writes outcome entry (Err r) exit) where
  -- a call that answers with a refusal was to give it
  pub call_refused : outcome ≡ refused_by r
  call_refused = mapped_refused length outcome (sym w.told)

  -- and no lent word changes
  pub refused_lent : exit ≡ entry
  unfolding lent_after
  refused_lent = w.lent ∙ ap (λ (o : Outcome (List ℕ)). lent_after o entry) call_refused

-- of the two calls: what is at fault, and all lent words as they were
pub system_call_fault : (limits : Limits) (s : Systems) {entry exit : List ℕ} {r : Refusal}
    → Writes (write_systems limits (length entry) s) entry (Err r) exit
    → SystemFault limits (length entry) s (reason_number r.reason) r.place × (exit ≡ entry)
system_call_fault limits s {entry} {r = r} w =
    ((system_refused_iff_fault limits (length entry) s (reason_number r.reason) r.place).0 (call_refused w), refused_lent w)

pub certificate_call_fault : (limits : Limits) (h : Shape) (c : Certificate) {entry exit : List ℕ} {r : Refusal}
    → Writes (write_certificate limits (length entry) h c) entry (Err r) exit
    → CertificateFault limits (length entry) h c (reason_number r.reason) r.place × (exit ≡ entry)
certificate_call_fault limits h c {entry} {r = r} w =
    ((certificate_refused_iff_fault limits (length entry) h c (reason_number r.reason) r.place).0 (call_refused w), refused_lent w)
