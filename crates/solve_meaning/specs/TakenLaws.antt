-- The polynomials of a certificate in memory: they keep the limits whatever the words are, and they are the lists of the
-- polynomials that the area holds.
use Prim.Native.Nat.{ℕ, zero, suc, ◌+◌, ◌*◌, ◌%◌, ◌<◌, ◌≤◌}
use Rattle.std.specs.Prelude.{◌≡◌, refl, List, [], length, get_or, take, drop}
use Rattle.std.proofs.Math.Path.{sym, ap}
use Rattle.std.proofs.Common.{◌∙◌, arith, add-zero}
use Rattle.std.proofs.Math.Nat.{zero-mod}
use Rattle.std.proofs.Math.Decide.{dec_lt}
use Rattle.algebra.specs.Coefficients.{coefficient}
use Rattle.algebra.specs.Field.{Field}
use Rattle.algebra.specs.Polynomial.{Polynomial}
use Rattle.algebra.specs.Size.{size}
use Rattle.modular.specs.Prime.{Prime}
use Rattle.modular.specs.Primality.{prime_positive}
use Rattle.modular.specs.Modulo.{modulo}
use Rattle.modular.specs.Residue.{Residue, reduce, residues}
use Rattle.modular.specs.Coefficientwise.{coefficient_beyond, length_bound}
use Rattle.vector.specs.Reduced.{word_inside, word_behind, residue_same, reduced_is, canonical_reduced, coefficient_reduced}
use Rattle.solve_lattice.specs.Word.{words_inside}
use Rattle.words.specs.Limits.{office}
use Rattle.words.specs.Polynomial.{Within, AllWithin, VectorWithin}
use Rattle.words.specs.System.{Shape}
use Rattle.words.specs.Certificate.{CertificateWithin, Form}
use Rattle.words.specs.Certificate.Form.{solving, absent}
use Rattle.solve_lattice.specs.Output.{HoldsAt}
use Rattle.solve_lattice.specs.Room.{block_words, most_coefficients}
use Rattle.solve_meaning.specs.Lists.{list_of, list_canonical, list_length, list_coefficient}
use Rattle.solve_meaning.specs.Taken.{taken_polynomial, taken_polynomials, taken_certificate}

-- polynomial j of several
pub taken_at : (p : ℕ) (output : List ℕ) (k count j : ℕ) → j < count
    → get_or (taken_polynomials p output k count) j [] ≡ taken_polynomial p output (k + j)
unfolding taken_polynomials
taken_at p output k zero j h = absurd (omega arith)
taken_at p output k (suc count) zero h = ap (taken_polynomial p output) (sym (add-zero k))
taken_at p output k (suc count) (suc j) h =
    let place : k + 1 + j ≡ k + suc j = omega arith in
    taken_at p output (k + 1) count j (omega arith) ∙ ap (taken_polynomial p output) place

pub taken_count : (p : ℕ) (output : List ℕ) (k count : ℕ) → length (taken_polynomials p output k count) ≡ count
unfolding taken_polynomials
taken_count p output k zero = refl
taken_count p output k (suc count) = ap suc (taken_count p output (k + 1) count)

module _ (p : ℕ) (positive : 0 < p) (output : List ℕ) where
  pub polynomial_within : (k : ℕ) → Within p most_coefficients (taken_polynomial p output k)
  polynomial_within k = record {
    canonical = canonical_reduced p positive _;
    size = length_bound p _ most_coefficients (canonical_reduced p positive _) (λ i h.
        coefficient_reduced p positive _ i ∙ residue_same p (word_behind output (block_words * k) most_coefficients i h)
        ∙ zero-mod p);
  }

  all_taken : (k count : ℕ) → AllWithin p most_coefficients (taken_polynomials p output k count)
  unfolding taken_polynomials AllWithin
  all_taken k zero = tt
  all_taken k (suc count) = (polynomial_within k, all_taken (k + 1) count)

  vector_taken : (k count : ℕ) → VectorWithin p most_coefficients count (taken_polynomials p output k count)
  vector_taken k count = record { entries = all_taken k count; count = taken_count p output k count }

-- degrees are at most 120, since no more words are looked at
pub certificate_taken : (h : Shape) (form : Form) (output : List ℕ) → 0 < h.modulus
    → CertificateWithin office h (taken_certificate h form output)
unfolding taken_certificate CertificateWithin
certificate_taken h solving output positive = record {
  denominator = polynomial_within h.modulus positive output 0;
  numerators = vector_taken h.modulus positive output 1 h.columns;
  certifying_denominator = polynomial_within h.modulus positive output (1 + h.columns);
  certifying_numerators = vector_taken h.modulus positive output (2 + h.columns) h.rows;
}
certificate_taken h absent output positive = vector_taken h.modulus positive output 0 h.rows

module _ (p : ℕ) (prime : Prime p) (output : List ℕ) where
  abbrev F : Field (Residue p)
  F = residues p prime

  -- a polynomial that the area holds is the one taken from there
  module _ (k : ℕ) (x : Polynomial (residues p prime)) (holds : HoldsAt p prime output k x) (small : size F x ≤ most_coefficients)
    where
      word_at : (n : ℕ) → Dec (n < most_coefficients)
          → get_or (take most_coefficients (drop (block_words * k) output)) n 0 % p ≡ coefficient (modulo p) (list_of p prime x) n
      unfolding reduce
      word_at n (yes h) =
          residue_same p (word_inside output (block_words * k) most_coefficients n h)
          ∙ sym (list_coefficient p prime x n
          ∙ ap (λ r. r.value) (holds.at n ∙ words_inside p prime output (block_words * k) block_words n (omega arith)))
      word_at n (no h) =
          residue_same p (word_behind output (block_words * k) most_coefficients n (omega arith))
          ∙ zero-mod p
          ∙ sym (coefficient_beyond p (list_of p prime x) n (omega (arith, list_length p prime x)))

      pub taken_list : taken_polynomial p output k ≡ list_of p prime x
      taken_list =
          reduced_is p (prime_positive p prime) _ (list_of p prime x) (list_canonical p prime x)
          (λ n. word_at n (dec_lt n most_coefficients))

  -- several of them, polynomial k and those behind it
  pub taken_lists : (k count : ℕ) (x : ℕ → Polynomial F)
      → ((j : ℕ) → j < count → HoldsAt p prime output (k + j) (x j)) → ((j : ℕ) → j < count → size F (x j) ≤ most_coefficients)
      → (j : ℕ) → j < count → get_or (taken_polynomials p output k count) j [] ≡ list_of p prime (x j)
  taken_lists k count x holds small j h = taken_at p output k count j h ∙ taken_list (k + j) (x j) (holds j h) (small j h)
