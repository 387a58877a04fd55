-- Polynomials in words that have no sizes beside them: how code finds the sizes and what they say, and that the polynomials can be
-- written.
use Prim.Native.Nat.{ℕ, zero, suc, ◌+◌, ◌-◌, ◌*◌, ◌≤◌, ◌<◌}
use Rattle.std.proofs.Common.{eq-or-lt_of_le, sym, ap₂, ◌∙◌, ⊎_elim, get_or-set_same, get_or-set_other}
use native.Mathlib.Omega.{arith}
use Rattle.std.specs.Prelude.{◌≡◌, List, ◌∷◌, length, get_or, set}
use Rattle.std.proofs.Math.Path.{refl, ap, subst}
use Rattle.limits.specs.Counts.{certificate_polynomials}
use Rattle.words.specs.Word.{AllBelow, payload_bound}
use Rattle.words.specs.Limits.{office, words_for, longest_certificate}
use Rattle.words.specs.System.{Shape}
use Rattle.words.specs.Frame.{framed_words}
use Rattle.words.specs.Certificate.{Form, form_word, entry_count}
use Rattle.words.specs.Certificate.Form.{solving, absent}
use Rattle.write_frame.specs.declared.format.Format.{Format}
use Rattle.write_frame.specs.Values.{numbers_from, polynomial_in, polynomials_in}
use Rattle.write_frame.specs.ValuesLaws.{numbers_from_below}
use Rattle.write_frame.specs.Framing.{Covers, Writable, Wrote, entries_in}
use Rattle.writer.specs.Values.{certificate_stride}
use Rattle.writer.specs.Formats.{certificate_frame}
use Rattle.writer.specs.Output.{up_to, size_from, size_in, SizesTaken, polynomials_of}

-- ---- sizes

up_to_positive : (last n before : ℕ) → 0 < last → up_to last n before ≡ n
up_to_positive zero n before h = absurd (omega arith)
up_to_positive (suc last) n before h = refl

up_to_most : (last n before : ℕ) → before ≤ n → up_to last n before ≤ n
up_to_most zero n before h = h
up_to_most (suc last) n before h = omega arith

module _ (words : List ℕ) (at : ℕ) where
  abbrev word_at : ℕ → ℕ
  word_at i = get_or words (at + i) 0

  -- code goes down over zeros
  pub size_down : (n : ℕ) → 0 < n → word_at (n - 1) ≡ 0 → size_from words at n ≡ size_from words at (n - 1)
  unfolding size_from
  size_down zero more e = absurd (omega arith)
  size_down (suc n) more e =
      let m : n ≡ suc n - 1 = omega arith in
      ap (λ (a : ℕ). up_to a (suc n) (size_from words at n)) (ap word_at m ∙ e) ∙ ap (size_from words at) m

  pub size_found : (n : ℕ) → 0 < n → 0 < word_at (n - 1) → size_from words at n ≡ n
  unfolding size_from
  size_found zero more h = absurd (omega arith)
  size_found (suc n) more h =
      let m : suc n - 1 ≡ n = omega arith in up_to_positive (word_at n) (suc n) _ (subst (λ (i : ℕ). 0 < word_at i) m h)

  pub size_most : (n : ℕ) → size_from words at n ≤ n
  unfolding size_from
  size_most zero = omega arith
  size_most (suc n) = up_to_most (word_at n) (suc n) _ (let h = size_most n in omega arith)

  -- the words behind are 0, and the last is not
  behind_by : (n j last : ℕ) → word_at n ≡ last → (size_from words at n ≤ j → j < n → word_at j ≡ 0)
      → up_to last (suc n) (size_from words at n) ≤ j → j < suc n → word_at j ≡ 0
  behind_by n j zero e before h lt =
      ⊎_elim (λ same. ap word_at same ∙ e) (λ less. before h less) (eq-or-lt_of_le (let l : j ≤ n = omega arith in l))
  behind_by n j (suc last) e before h lt = absurd (omega arith)

  pub size_behind : (n j : ℕ) → size_from words at n ≤ j → j < n → word_at j ≡ 0
  unfolding size_from
  size_behind zero j h lt = absurd (omega arith)
  size_behind (suc n) j h lt = behind_by n j (word_at n) refl (size_behind n j) h lt

  last_by : (n last : ℕ) → word_at n ≡ last → (0 < size_from words at n → 0 < word_at (size_from words at n - 1))
      → 0 < up_to last (suc n) (size_from words at n) → 0 < word_at (up_to last (suc n) (size_from words at n) - 1)
  last_by n zero e before h = before h
  last_by n (suc last) e before h =
      let m : n ≡ suc n - 1 = omega arith in subst (λ (i : ℕ). 0 < word_at i) m (omega arith)

  pub size_last : (n : ℕ) → 0 < size_from words at n → 0 < word_at (size_from words at n - 1)
  unfolding size_from
  size_last zero h = absurd (omega arith)
  size_last (suc n) h = last_by n (word_at n) refl (size_last n) h

-- ---- sizes in an array

pub sized_next : (words sizes : List ℕ) (k size : ℕ) → SizesTaken words sizes k → k < length sizes → size ≡ size_in words k
    → SizesTaken words (set sizes k size) (k + 1)
sized_next words sizes k size before room e i lt =
    ⊎_elim
    (λ same.
    subst (λ (j : ℕ). get_or (set sizes k size) j 0 ≡ size_in words j) (sym same) (get_or-set_same sizes k size 0 room ∙ e))
    (λ less. get_or-set_other sizes k i size 0 (λ e. omega arith) ∙ before i less)
    (eq-or-lt_of_le (let l : i ≤ k = omega arith in l))

polynomials_sized : (words sizes : List ℕ) (count : ℕ) → SizesTaken words sizes count → (k n : ℕ) → k + n ≤ count
    → polynomials_in certificate_stride sizes words k n ≡ polynomials_of words k n
unfolding polynomial_in polynomials_in polynomials_of
polynomials_sized words sizes count sized k zero h = refl
polynomials_sized words sizes count sized k (suc n) h =
    ap₂
    (λ (f : List ℕ) (fs : List (List ℕ)). f ∷ fs)
    (ap (numbers_from words (certificate_stride * k)) (sized k (omega arith)))
    (polynomials_sized words sizes count sized (k + 1) n (omega arith))

-- ---- the format that code computed

module _ (h : Shape) (rows : h.rows ≤ office.rows) (columns : h.columns ≤ office.columns) (form : Form) {format : Format}
    (is : format ≡ certificate_frame office h form) where
  entries_few : (form : Form) → entry_count h form ≤ certificate_polynomials
  unfolding entry_count
  entries_few solving = omega arith
  entries_few absent = omega arith

  pub format_few : format.count ≤ certificate_polynomials
  format_few = subst (λ (f : Format). f.count ≤ certificate_polynomials) (sym is) (entries_few form)

  module _ (words sizes : List ℕ) (sized : SizesTaken words sizes format.count) where
    abbrev Ready : ℕ → Format → Type 0
    Ready lent f = Covers f sizes words × Writable f sizes words × (words_for f.count f.limit ≤ lent)

    pub output_ready : length sizes ≡ certificate_polynomials → length words ≡ certificate_stride * certificate_polynomials
        → AllBelow payload_bound words → {lent : ℕ} → longest_certificate office ≤ lent → Ready lent format
    unfolding polynomial_in
    output_ready s w below {lent} room =
        subst (λ (f : Format). SizesTaken words sizes f.count → Ready lent f) (sym is)
        (λ sized.
        let few = entries_few form in (
          record { sized = omega arith; roomy = omega arith; apart = omega arith; short = omega arith },
          record {
            few = λ k lt. let e = sized k lt in
                omega (arith, size_most words (certificate_stride * k) office.certificate_coefficients);
            payloads = λ k lt. numbers_from_below payload_bound words (certificate_stride * k) (get_or sizes k 0) below;
          },
          omega arith,
        ))
        sized

    pub output_wrote : {entry exit : List ℕ} {n : ℕ}
        → Wrote (framed_words format.head (entries_in format sizes words)) entry exit n
        → Wrote (framed_words (form_word form) (polynomials_of words 0 (entry_count h form))) entry exit n
    output_wrote {entry} {exit} {n} =
        subst
        (λ (f : Format).
        SizesTaken words sizes f.count
        → Wrote (framed_words f.head (entries_in f sizes words)) entry exit n
        → Wrote (framed_words (form_word form) (polynomials_of words 0 (entry_count h form))) entry exit n)
        (sym is)
        (λ sized.
        subst
        (λ (fs : List (List ℕ)). Wrote (framed_words (form_word form) fs) entry exit n)
        (polynomials_sized words sizes (entry_count h form) sized 0 (entry_count h form) (omega arith)))
        sized
