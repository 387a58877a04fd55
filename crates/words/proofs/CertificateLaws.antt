-- Certificates as words: the reader accepts just the written forms of certificates within the limits and gives their values back.
use Rattle.std.specs.Prelude.{◌≡◌, Bool, true, false, not, ◌&&◌, ◌||◌, ◌↔◌, ℕ, suc, ◌+◌, ◌≤◌, length, eqb}
use Rattle.std.proofs.Math.Path.{refl, sym, ap}
use Rattle.std.proofs.Common.{ap₂, ◌∙◌, add-one, drop_at, drop-drop, eqb-true}
use mathlib.Core.List.{List, [], ◌∷◌, ◌++◌}
use Rattle.std.proofs.Math.Nat.{le_trans}
use native.Mathlib.Omega.{arith}
use Rattle.std.proofs.Math.ListN.{get_or, take, drop}
use Rattle.std.proofs.Math.Seq.{take_at, get_or_at, split_at}
use Rattle.words.specs.Limits.{Limits, solution_count, longest_certificate}
use Rattle.words.specs.Word.{kind, payload}
use Rattle.words.specs.Outcome.Outcome.{accepted}
use Rattle.words.specs.Reading.{outcome}
use Rattle.words.specs.Reading.Reading.{read}
use Rattle.words.specs.Polynomial.{VectorWithin}
use Rattle.words.specs.System.{Shape, ShapeWithin}
use Rattle.words.specs.Certificate.{Certificate, Form, CertificateWithin, certificate_form}
use Rattle.words.specs.Certificate.{certificate_entries, form_word, certificate_words, form_when, certificate_head_from, entry_count}
use Rattle.words.specs.Certificate.{certificate_due, certificate_as, certificate_of, certificate_from, read_certificate}
use Rattle.words.specs.Certificate.Certificate.{solution, absence}
use Rattle.words.specs.Certificate.Form.{solving, absent}
use Rattle.words.specs.ReadingLaws.{fault_read, turn_back_read, and_passed}
use Rattle.words.specs.LimitsLaws.{LimitsFit, words_for_most, words_for_small}
use Rattle.words.specs.VectorLaws.{all_at, vector_count, vector_cons, vector_append, vector_take, vector_drop}
use Rattle.words.proofs.FrameLaws.{HeadLaws, Expressible}
use Rattle.words.proofs.FormatLaws as format
use Rattle.words.proofs.FormatLaws.{Format, Parts, FormatLaws}

-- ---- the head

form_written : (form : Form) (rest : List ℕ) → certificate_head_from (form_word form ∷ rest) ≡ read form rest
unfolding certificate_head_from form_word form_when
form_written solving rest = refl
form_written absent rest = refl

-- of a payload that passed the test
form_word_lem : (w : ℕ) → kind w ≡ 5 → (b : Bool) → eqb (payload w) 1 ≡ b → b || eqb (payload w) 2 ≡ true → w ≡ form_word (form_when b)
unfolding form_word form_when
form_word_lem w k true e t = let n = eqb-true (payload w) 1 e in omega arith
form_word_lem w k false e t = let n = eqb-true (payload w) 2 t in omega arith

pub form_read : (ws : List ℕ) (form : Form) (rest : List ℕ) → certificate_head_from ws ≡ read form rest → ws ≡ form_word form ∷ rest
unfolding certificate_head_from
form_read [] form rest e = absurd (fault_read e)
form_read (w ∷ ws) form rest e =
    let a = turn_back_read (not (eqb (kind w) 5 && (eqb (payload w) 1 || eqb (payload w) 2))) _ _ _ e in
    let k = and_passed (eqb (kind w) 5) (eqb (payload w) 1 || eqb (payload w) 2) a.0 in
    let ef : form_when (eqb (payload w) 1) ≡ form = cc in
    let er : ws ≡ rest = cc in
    let ew : w ≡ form_word (form_when (eqb (payload w) 1)) =
    form_word_lem w (eqb-true (kind w) 5 k.0) (eqb (payload w) 1) refl k.1 in
    ap₂ (λ (v : ℕ) (vs : List ℕ). v ∷ vs) (ew ∙ ap form_word ef) er

pub certificate_head_laws : HeadLaws certificate_head_from form_word (λ form. Unit {0})
certificate_head_laws =
    record { written = λ form _ rest. form_written form rest; read = λ ws form rest e. (form_read ws form rest e, tt) }

-- ---- the whole, for a system of the shape h

pub certificate_from_shown : (limits : Limits) (h : Shape) (ws : List ℕ)
    → read_certificate limits h ws ≡ outcome (length ws) (certificate_from limits h ws)
unfolding read_certificate
certificate_from_shown limits h ws = refl

module _ (limits : Limits) (h : Shape) where
  abbrev p : ℕ
  p = h.modulus

  abbrev limit : ℕ
  limit = limits.certificate_coefficients

  abbrev pub certificate_format : Format Form Certificate
  certificate_format = record {
    by = 20;
    head_from = certificate_head_from;
    head_word = form_word;
    Valid = λ form. Unit {0};
    due = certificate_due limits h;
    apart = λ c. record { head = certificate_form c; entries = certificate_entries c };
    together = certificate_of h;
    Within = CertificateWithin limits h;
  }

  certificate_parts : (c : Certificate) → CertificateWithin limits h c → Parts certificate_format (certificate_format.apart c)
  unfolding CertificateWithin certificate_form certificate_entries entry_count
  certificate_parts (solution d N w Z) k =
      let z = vector_cons p limit k.certifying_denominator k.certifying_numerators in
      let all = vector_cons p limit k.denominator (vector_append p limit k.numerators z) in
      record { valid = tt; entries = vector_count p limit (omega arith) all }
  certificate_parts (absence q) k = record { valid = tt; entries = k }

  together_by : (form : Form) (fs : List (List ℕ)) → VectorWithin p limit (entry_count h form) fs
      → CertificateWithin limits h (certificate_as h form fs)
  unfolding CertificateWithin certificate_as entry_count
  together_by solving fs k =
      let n = h.rows in
      let m = h.columns in
      record {
        denominator = all_at p limit fs k.entries 0;
        numerators = vector_take p limit m (1 + n) (drop 1 fs)
            (vector_drop p limit 1 (m + (1 + n)) fs (vector_count p limit (omega arith) k));
        certifying_denominator = all_at p limit fs k.entries (suc m);
        certifying_numerators = vector_drop p limit (suc (suc m)) n fs (vector_count p limit (omega arith) k);
      }
  together_by absent fs k = k

  together_apart : (c : Certificate) → CertificateWithin limits h c
      → certificate_as h (certificate_form c) (certificate_entries c) ≡ c
  unfolding CertificateWithin certificate_form certificate_entries certificate_as
  together_apart (solution d N w Z) k =
      let m = h.columns in
      let n = k.numerators.count in
      let e_N : take m (N ++ w ∷ Z) ≡ N = take_at N (w ∷ Z) m n in
      let ew : get_or (N ++ w ∷ Z) m [] ≡ w = get_or_at N w Z [] m n in
      let e_Z : drop (suc m) (N ++ w ∷ Z) ≡ Z =
      ap (λ (i : ℕ). drop i (N ++ w ∷ Z)) (sym (add-one m)) ∙ sym (drop-drop 1 m (N ++ w ∷ Z))
      ∙ ap (drop 1) (drop_at N (w ∷ Z) m n) in
      simp (e_N, ew, e_Z)
  together_apart (absence q) k = refl

  apart_together : (form : Form) (fs : List (List ℕ)) → VectorWithin p limit (entry_count h form) fs
      → certificate_format.apart (certificate_as h form fs) ≡ record { head = form; entries = fs }
  unfolding certificate_form certificate_entries certificate_as entry_count
  apart_together solving [] k = absurd (omega (arith, k.count))
  apart_together solving (f ∷ fs) k =
      let m = h.columns in
      let e : fs ≡ take m fs ++ get_or fs m [] ∷ drop (suc m) fs = split_at fs m [] (omega (arith, k.count)) in
      ap (λ (gs : List (List ℕ)). record { head = solving; entries = f ∷ gs }) (sym e)
  apart_together absent fs k = refl

  pub certificate_laws : FormatLaws certificate_format
  certificate_laws = record {
    head = certificate_head_laws;
    apart = certificate_parts;
    together = λ f k. together_by f.head f.entries k.entries;
    together_apart = together_apart;
    apart_together = λ f k. apart_together f.head f.entries k.entries;
  }

  -- ---- the theorems

  pub certificate_written_of_read : (ws : List ℕ) (c : Certificate) → read_certificate limits h ws ≡ accepted c
      → (ws ≡ certificate_words c) × CertificateWithin limits h c
  unfolding certificate_words read_certificate
  certificate_written_of_read ws c e = format.written_of_read certificate_format certificate_laws ws c e

  module _ (shape : ShapeWithin limits h) where
    pub entry_count_most : (form : Form) → entry_count h form ≤ solution_count limits.rows limits.columns
    unfolding entry_count
    entry_count_most solving = let r = shape.rows in let c = shape.columns in omega arith
    entry_count_most absent = let r = shape.rows in omega arith

    pub certificate_words_most : (c : Certificate) → CertificateWithin limits h c
        → length (certificate_words c) ≤ longest_certificate limits
    unfolding certificate_words
    certificate_words_most c k =
        le_trans (format.written_most certificate_format certificate_laws c k)
        (words_for_most limits.certificate_coefficients (entry_count_most (certificate_form c)))

  module _ (fit : LimitsFit limits) (shape : ShapeWithin limits h) where
    pub certificate_expressible : (form : Form) → Unit {0} → Expressible (certificate_due limits h form)
    certificate_expressible form _ =
        let m = shape.modulus in
        let n = entry_count_most shape form in
        record { modulus = omega arith; limit = omega arith; words = words_for_small (omega arith) fit.certificate_coefficients }

    pub certificate_read_of_written : (c : Certificate) → CertificateWithin limits h c
        → read_certificate limits h (certificate_words c) ≡ accepted c
    unfolding certificate_words read_certificate
    certificate_read_of_written c k = format.read_of_written certificate_format certificate_laws certificate_expressible c k

    pub certificate_accepted_iff : (ws : List ℕ) (c : Certificate)
        → (read_certificate limits h ws ≡ accepted c) ↔ ((ws ≡ certificate_words c) × CertificateWithin limits h c)
    unfolding certificate_words read_certificate
    certificate_accepted_iff ws c = format.accepted_iff certificate_format certificate_laws certificate_expressible ws c

    pub certificate_words_injective : (c e : Certificate) → CertificateWithin limits h c → CertificateWithin limits h e
        → certificate_words c ≡ certificate_words e → c ≡ e
    unfolding certificate_words
    certificate_words_injective c e k l q =
        format.written_injective certificate_format certificate_laws certificate_expressible c e k l q
