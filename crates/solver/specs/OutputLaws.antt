-- The certificate in the output area, as the writer finds it there, is the one that `taken_certificate` takes.
use Prim.Native.Nat.{ℕ, zero, suc, ◌+◌, ◌-◌, ◌*◌, ◌%◌, ◌≤◌, ◌<◌}
use Rattle.std.proofs.Common.{mod-eq_of_lt, ◌∙◌, ⊎_elim}
use native.Mathlib.Omega.{arith}
use Rattle.std.specs.Prelude.{◌≡◌, length, get_or, take, drop}
use Rattle.std.proofs.Math.Path.{refl, sym, ap, ap₂, subst}
use mathlib.Core.List.{List, ◌∷◌, ◌++◌}
use Rattle.solve_lattice.specs.Room.{block_words, most_coefficients}
use Rattle.modular.specs.Canonical.{Canonical, LastNonzero}
use Rattle.modular.specs.Coefficientwise.{coefficient_get_or}
use Rattle.vector.specs.Reduced.{reduced_is, word_inside, word_behind}
use Rattle.vector.specs.Stored.{below_or_not}
use Rattle.words.specs.Word.{AllBelow}
use Rattle.words.specs.System.{Shape}
use Rattle.words.specs.Frame.{framed_words}
use Rattle.words.specs.Certificate.{Form, form_word, entry_count, certificate_form, certificate_entries, certificate_words}
use Rattle.words.specs.Certificate.Form.{solving, absent}
use Rattle.write_frame.specs.Values.{numbers_from}
use Rattle.write_frame.specs.ValuesLaws.{numbers_from_part, numbers_from_below, get_or_numbers_from, get_or_numbers_from_behind}
use Rattle.write_frame.specs.Framing.{Wrote}
use Rattle.writer.specs.Output.{size_in, polynomial_of, polynomials_of}
use Rattle.writer.specs.OutputLaws.{size_most, size_behind, size_last}
use Rattle.solve_lattice.specs.Output.{ValidOutput}
use Rattle.solve_meaning.specs.Taken.{taken_polynomial, taken_polynomials, taken_certificate}

-- numbers below p, the last not 0
numbers_canonical : (p : ℕ) (xs : List ℕ) (a n : ℕ) → AllBelow p xs → (0 < n → 0 < get_or xs (a + (n - 1)) 0)
    → Canonical p (numbers_from xs a n)
unfolding numbers_from Canonical LastNonzero
numbers_canonical p xs a zero below last = tt
numbers_canonical p xs a (suc zero) below last =
    let e : a + (1 - 1) ≡ a = omega arith in
    (below a, subst (λ (i : ℕ). 0 < get_or xs i 0) e (last (omega arith)), tt)
numbers_canonical p xs a (suc (suc n)) below last =
    let e : a + (suc (suc n) - 1) ≡ a + 1 + (suc n - 1) = omega arith in (
      below a,
      tt,
      numbers_canonical p xs (a + 1) (suc n) below (λ more. subst (λ (i : ℕ). 0 < get_or xs i 0) e (last (omega arith))),
    )

-- ---- the polynomials

module _ (p : ℕ) (output : List ℕ) (below : AllBelow p output) where
  positive : 0 < p
  positive = let b = below 0 in omega arith

  module _ (k : ℕ) where
    word_same : (i : ℕ) → get_or (take most_coefficients (drop (block_words * k) output)) i 0 ≡ get_or (polynomial_of output k) i 0
    word_same i =
        let most = size_most output (block_words * k) most_coefficients in
        ⊎_elim
        (λ lt. word_inside output (block_words * k) most_coefficients i (omega arith)
        ∙ sym (get_or_numbers_from output (block_words * k) (size_in output k) i lt))
        (λ ge.
        ⊎_elim
        (λ lt. word_inside output (block_words * k) most_coefficients i lt
        ∙ size_behind output (block_words * k) most_coefficients i ge lt)
        (λ past. word_behind output (block_words * k) most_coefficients i past)
        (below_or_not i most_coefficients)
        ∙ sym (get_or_numbers_from_behind output (block_words * k) (size_in output k) i ge))
        (below_or_not i (size_in output k))

    pub taken_is : taken_polynomial p output k ≡ polynomial_of output k
    taken_is =
        reduced_is p positive _ (polynomial_of output k)
        (numbers_canonical p output (block_words * k) (size_in output k) below (size_last output (block_words * k) most_coefficients))
        (λ i.
        ap (λ (x : ℕ). x % p) (word_same i)
        ∙ mod-eq_of_lt (numbers_from_below p output (block_words * k) (size_in output k) below i)
        ∙ sym (coefficient_get_or p (polynomial_of output k) i))

    -- so code may lend the polynomial as a part of the words
    pub taken_part : block_words * k + size_in output k ≤ length output
        → taken_polynomial p output k ≡ take (size_in output k) (drop (block_words * k) output)
    taken_part inside = taken_is ∙ numbers_from_part output (block_words * k) (size_in output k) inside

  polynomials_are : (k count : ℕ) → polynomials_of output k count ≡ taken_polynomials p output k count
  unfolding polynomials_of taken_polynomials
  polynomials_are k zero = refl
  polynomials_are k (suc count) =
      ap₂ (λ (f : List ℕ) (fs : List (List ℕ)). f ∷ fs) (sym (taken_is k)) (polynomials_are (k + 1) count)

-- ---- the certificate

taken_append : (p : ℕ) (output : List ℕ) (k i count : ℕ)
    → taken_polynomials p output k i ++ taken_polynomials p output (k + i) count ≡ taken_polynomials p output k (i + count)
unfolding taken_polynomials
taken_append p output k zero count =
    let e : k + 0 ≡ k = omega arith in
    let z : count ≡ 0 + count = omega arith in
    ap₂ (taken_polynomials p output) e z
taken_append p output k (suc i) count =
    let e : suc (i + count) ≡ suc i + count = omega arith in
    let j : k + suc i ≡ k + 1 + i = omega arith in
    ap (λ (fs : List (List ℕ)). taken_polynomial p output k ∷ fs)
    (ap (λ (l : ℕ). taken_polynomials p output (k + 1) i ++ taken_polynomials p output l count) j
    ∙ taken_append p output (k + 1) i count)
    ∙ ap (taken_polynomials p output k) e

module _ (h : Shape) (output : List ℕ) where
  taken_form : (form : Form) → certificate_form (taken_certificate h form output) ≡ form
  unfolding taken_certificate certificate_form
  taken_form solving = refl
  taken_form absent = refl

  taken_entries : (form : Form)
      → certificate_entries (taken_certificate h form output) ≡ taken_polynomials h.modulus output 0 (entry_count h form)
  unfolding taken_certificate certificate_entries entry_count taken_polynomials
  taken_entries solving =
      let p = h.modulus in
      let m = h.columns in
      let e : suc (m + suc h.rows) ≡ 1 + m + 1 + h.rows = omega arith in
      let z : 2 + m ≡ 1 + m + 1 = omega arith in
      ap (λ (fs : List (List ℕ)). taken_polynomial p output 0 ∷ fs)
      (ap (λ (k : ℕ). taken_polynomials p output 1 m ++ taken_polynomial p output (1 + m) ∷ taken_polynomials p output k h.rows) z
      ∙ taken_append p output 1 m (suc h.rows))
      ∙ ap (taken_polynomials p output 0) e
  taken_entries absent = refl

  -- what the writer writes
  pub taken_wrote : ValidOutput h.modulus output → (form : Form) {entry exit : List ℕ} {n : ℕ}
      → Wrote (framed_words (form_word form) (polynomials_of output 0 (entry_count h form))) entry exit n
      → Wrote (certificate_words (taken_certificate h form output)) entry exit n
  unfolding certificate_words
  taken_wrote valid form {entry} {exit} {n} =
      subst
      (λ (ws : List ℕ). Wrote ws entry exit n)
      (ap₂
      (λ (f : Form) (fs : List (List ℕ)). framed_words (form_word f) fs)
      (sym (taken_form form))
      (polynomials_are h.modulus output valid.below 0 (entry_count h form) ∙ sym (taken_entries form)))
