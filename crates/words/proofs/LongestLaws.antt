-- The longest written forms are reached: by polynomials of as many coefficients as the limits allow, all of them 1, modulo 2.
use Rattle.std.specs.Prelude.{◌≡◌, refl, List, [], ◌∷◌, ◌++◌, length, replicate}
use Prim.Native.Nat.{ℕ, zero, suc, ◌+◌, ◌*◌, ◌≤◌, ◌<◌}
use Rattle.std.proofs.Math.Nat.{le_refl}
use Rattle.std.proofs.Common.{le_of_eq, length-append}
use native.Mathlib.Omega.{arith}
use Rattle.std.proofs.lemmas.List.{length-replicate}
use Rattle.modular.specs.Canonical.{LastNonzero, Canonical}
use Rattle.modular.specs.Primality.{prime_of_true}
use Rattle.modular.specs.Prime.{prime?}
use Rattle.words.specs.Limits.{Limits, longest_system, longest_certificate}
use Rattle.words.specs.Polynomial.{Within, AllWithin, VectorWithin, polynomial_words, polynomials_words}
use Rattle.words.specs.Systems.{Systems, SystemsWithin, head_word, systems_entries, systems_words}
use Rattle.words.specs.Certificate.{Certificate, CertificateWithin, certificate_form, certificate_entries}
use Rattle.words.specs.Certificate.{form_word, certificate_words}
use Rattle.words.specs.Certificate.Certificate.{solution}
use Rattle.words.proofs.PolynomialLaws.{length_polynomial_words}
use Rattle.words.proofs.FrameLaws.{length_framed_words}

-- ---- polynomials of as many coefficients as may be

abbrev ones : ℕ → List ℕ
ones size = replicate size 1

abbrev full : ℕ → ℕ → List (List ℕ)
full size count = replicate count (ones size)

module _ (p : ℕ) (large : 1 < p) (size : ℕ) where
  ones_canonical : (n : ℕ) → Canonical p (ones n)
  unfolding Canonical LastNonzero
  ones_canonical zero = tt
  ones_canonical (suc zero) = (large, omega arith, tt)
  ones_canonical (suc (suc n)) = (large, tt, ones_canonical (suc n))

  ones_within : Within p size (ones size)
  ones_within = record { canonical = ones_canonical size; size = le_of_eq (length-replicate size 1) }

  all_full : (count : ℕ) → AllWithin p size (full size count)
  unfolding AllWithin
  all_full zero = tt
  all_full (suc count) = (ones_within, all_full count)

  full_within : (count : ℕ) → VectorWithin p size count (full size count)
  full_within count = record { entries = all_full count; count = length-replicate count (ones size) }

length_cons_words : (f : List ℕ) (fs : List (List ℕ))
    → length (polynomials_words (f ∷ fs)) ≡ length (polynomial_words f) + length (polynomials_words fs)
unfolding polynomials_words
length_cons_words f fs = length-append (polynomial_words f) (polynomials_words fs)

length_append_words : (fs gs : List (List ℕ))
    → length (polynomials_words (fs ++ gs)) ≡ length (polynomials_words fs) + length (polynomials_words gs)
unfolding polynomials_words
length_append_words [] gs = omega arith
length_append_words (f ∷ fs) gs =
    omega (arith, length_cons_words f (fs ++ gs), length_cons_words f fs, length_append_words fs gs)

length_ones : (size : ℕ) → length (polynomial_words (ones size)) ≡ 1 + size
length_ones size = omega (arith, length_polynomial_words (ones size), length-replicate {A = ℕ} size 1)

length_full : (size count : ℕ) → length (polynomials_words (full size count)) ≡ count * (1 + size)
unfolding polynomials_words
length_full size zero = omega arith
length_full size (suc count) =
    omega (arith, length_cons_words (ones size) (full size count), length_ones size, length_full size count)

-- ---- lengths of written forms

length_systems_words : (s : Systems) → length (systems_words s) ≡ 2 + length (polynomials_words (systems_entries s))
unfolding systems_words
length_systems_words s = length_framed_words (head_word s.head) (systems_entries s)

length_certificate_words : (c : Certificate) → length (certificate_words c) ≡ 2 + length (polynomials_words (certificate_entries c))
unfolding certificate_words
length_certificate_words c = length_framed_words (form_word (certificate_form c)) (certificate_entries c)

-- ---- the longest system, and the longest certificate for it

module _ (limits : Limits) where
  pub long_systems : Systems
  long_systems = record {
    head = record { shape = record { modulus = 2; rows = limits.rows; columns = limits.columns }; sides = limits.sides };
    matrix = full limits.system_coefficients (limits.rows * limits.columns);
    side_entries = full limits.system_coefficients (limits.sides * limits.rows);
  }

  pub long_certificate : Certificate
  long_certificate =
      let c = limits.certificate_coefficients in
      solution (ones c) (full c limits.columns) (ones c) (full c limits.rows)

  pub systems_words_reached : length (systems_words long_systems) ≡ longest_system limits
  unfolding long_systems
  systems_words_reached =
      let c = limits.system_coefficients in
      let A = full c (limits.rows * limits.columns) in
      let b = full c (limits.sides * limits.rows) in
      omega (
        arith,
        length_systems_words long_systems,
        length_append_words A b,
        length_full c (limits.rows * limits.columns),
        length_full c (limits.sides * limits.rows),
      )

  pub certificate_words_reached : length (certificate_words long_certificate) ≡ longest_certificate limits
  unfolding long_certificate certificate_entries
  certificate_words_reached =
      let c = limits.certificate_coefficients in
      let N = full c limits.columns in
      let Z = full c limits.rows in
      omega (
        arith,
        length_certificate_words long_certificate,
        length_cons_words (ones c) (N ++ ones c ∷ Z),
        length_append_words N (ones c ∷ Z),
        length_cons_words (ones c) Z,
        length_ones c,
        length_full c limits.columns,
        length_full c limits.rows,
      )

  module _ (some_rows : 1 ≤ limits.rows) (some_columns : 1 ≤ limits.columns) (some_sides : 1 ≤ limits.sides) where
    pub long_systems_within : SystemsWithin limits long_systems
    unfolding long_systems prime?
    long_systems_within = record {
      head = record {
        shape = record {
          prime = prime_of_true 2 refl;
          modulus = omega arith;
          rows = (some_rows, le_refl limits.rows);
          columns = (some_columns, le_refl limits.columns);
        };
        sides = (some_sides, le_refl limits.sides);
      };
      matrix = full_within 2 (omega arith) limits.system_coefficients (limits.rows * limits.columns);
      side_entries = full_within 2 (omega arith) limits.system_coefficients (limits.sides * limits.rows);
    }

  pub long_certificate_within : CertificateWithin limits long_systems.head.shape long_certificate
  unfolding long_systems long_certificate CertificateWithin
  long_certificate_within =
      let c = limits.certificate_coefficients in
      record {
        denominator = ones_within 2 (omega arith) c;
        numerators = full_within 2 (omega arith) c limits.columns;
        certifying_denominator = ones_within 2 (omega arith) c;
        certifying_numerators = full_within 2 (omega arith) c limits.rows;
      }
