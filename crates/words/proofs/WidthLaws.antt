-- Written forms are made of 32-bit words.
use mathlib.Core.List.{List, [], ◌∷◌, ◌++◌, map}
use Rattle.std.specs.Prelude.{ℕ, zero, suc, ◌+◌, ◌≤◌, ◌<◌, length}
use Rattle.std.proofs.Common.{arith}
use Rattle.modular.specs.Canonical.{Canonical}
use Rattle.modular.specs.Bits.{bound32}
use Rattle.words.specs.Limits.{Limits}
use Rattle.words.specs.Word.{word, AllBelow, Words, payload_bound}
use Rattle.words.specs.Polynomial.{Within, AllWithin, polynomial_words, polynomials_words}
use Rattle.words.specs.Frame.{Due, end_word, framed_words}
use Rattle.words.specs.System.{Shape, ShapeWithin}
use Rattle.words.specs.Systems.{Head, Systems, HeadWithin, SystemsWithin, head_word, systems_entries, systems_words}
use Rattle.words.specs.Certificate.{Certificate, Form, CertificateWithin, certificate_form, certificate_entries, form_word}
use Rattle.words.specs.Certificate.{certificate_words}
use Rattle.words.specs.Certificate.Form.{solving, absent}
use Rattle.words.specs.LimitsLaws.{LimitsFit}
use Rattle.words.proofs.FrameLaws.{Expressible, Entries, framed_words_most, length_framed_words}
use Rattle.words.proofs.SystemsLaws.{systems_format, systems_laws, systems_expressible}
use Rattle.words.proofs.CertificateLaws.{certificate_format, certificate_laws, certificate_expressible}

-- ---- lists below a bound

pub below_nil : (bound : ℕ) → 0 < bound → AllBelow bound []
below_nil bound h i = h

pub below_cons : (bound a : ℕ) (xs : List ℕ) → a < bound → AllBelow bound xs → AllBelow bound (a ∷ xs)
below_cons bound a xs h k zero = h
below_cons bound a xs h k (suc i) = k i

pub below_append : (bound : ℕ) (xs ys : List ℕ) → AllBelow bound xs → AllBelow bound ys → AllBelow bound (xs ++ ys)
below_append bound [] ys h k i = k i
below_append bound (a ∷ xs) ys h k zero = h zero
below_append bound (a ∷ xs) ys h k (suc i) = below_append bound xs ys (λ j. h (suc j)) k i

-- ---- written forms

module _ (p : ℕ) (small : p ≤ payload_bound) (limit : ℕ) (few : limit < payload_bound) where
  coefficient_words : (f : List ℕ) → Canonical p f → Words (map (word 3) f)
  unfolding Canonical
  coefficient_words [] h = below_nil _ (omega arith)
  coefficient_words (a ∷ f) h =
      let l = h.0 in below_cons _ (word 3 a) (map (word 3) f) (omega arith) (coefficient_words f h.2)

  polynomial_words_lem : (f : List ℕ) → Within p limit f → Words (polynomial_words f)
  unfolding polynomial_words
  polynomial_words_lem f h =
      let l = h.size in below_cons _ (word 2 (length f)) (map (word 3) f) (omega arith) (coefficient_words f h.canonical)

  polynomials_words_lem : (fs : List (List ℕ)) → AllWithin p limit fs → Words (polynomials_words fs)
  unfolding polynomials_words AllWithin
  polynomials_words_lem [] h = below_nil _ (omega arith)
  polynomials_words_lem (f ∷ fs) h =
      below_append _ (polynomial_words f) (polynomials_words fs) (polynomial_words_lem f h.0) (polynomials_words_lem fs h.1)

framed_words_lem : (head : ℕ) (due : Due) (fs : List (List ℕ)) → head < bound32 → Expressible due → Entries due fs
    → Words (framed_words head fs)
unfolding framed_words
framed_words_lem head due fs h x k =
    let most = framed_words_most head due fs k in
    let few = x.words in
    let ws = polynomials_words fs in
    below_cons _ head (ws ++ end_word (1 + length ws) ∷ []) h
    (below_append _ ws (end_word (1 + length ws) ∷ [])
    (polynomials_words_lem due.modulus x.modulus due.limit x.limit fs k.entries)
    (below_cons _ (end_word (1 + length ws)) [] (omega (arith, length_framed_words head fs)) (below_nil _ (omega arith))))

head_word_word : (limits : Limits) → LimitsFit limits → (h : Head) → HeadWithin limits h → head_word h < bound32
unfolding head_word
head_word_word limits fit h w =
    let p = w.shape.modulus in
    let r = w.shape.rows in
    let c = w.shape.columns in
    let b = w.sides in
    omega (arith, fit.rows, fit.columns, fit.sides)

form_word_word : (form : Form) → form_word form < bound32
unfolding form_word
form_word_word solving = omega arith
form_word_word absent = omega arith

pub systems_words_words : (limits : Limits) → LimitsFit limits → (s : Systems) → SystemsWithin limits s → Words (systems_words s)
unfolding systems_words
systems_words_words limits fit s h =
    framed_words_lem (head_word s.head) ((systems_format limits).due s.head) (systems_entries s)
    (head_word_word limits fit s.head h.head)
    (systems_expressible limits fit s.head h.head) ((systems_laws limits fit).apart s h).entries

pub certificate_words_words : (limits : Limits) → LimitsFit limits → (h : Shape) → ShapeWithin limits h → (c : Certificate)
    → CertificateWithin limits h c
    → Words (certificate_words c)
unfolding certificate_words
certificate_words_words limits fit h w c k =
    let form = certificate_form c in
    framed_words_lem (form_word form) ((certificate_format limits h).due form) (certificate_entries c) (form_word_word form)
    (certificate_expressible limits h fit w form tt) ((certificate_laws limits h).apart c k).entries
