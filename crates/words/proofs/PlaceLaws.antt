-- Where the polynomials of an accepted system or certificate stand: the words from a start word on, and the coefficients by the
-- words that hold them. For code that loads or shows a polynomial.
use Rattle.std.specs.Prelude.{◌≡◌, refl, List, [], ◌∷◌, ◌++◌, map, ℕ, zero, suc, ◌+◌, ◌≤◌, ◌<◌, length, get_or, take, drop}
use Rattle.std.proofs.Common.{sym, ap, ap₂, ◌∙◌, append_assoc, arith, length-append, drop_at, drop-drop}
use Rattle.modular.specs.Canonical.{Canonical}
use Rattle.words.specs.Word.{payload, word, payload_bound}
use Rattle.words.specs.WordLaws.{payload_word}
use Rattle.words.specs.Polynomial.{polynomial_words, polynomials_words}
use Rattle.words.specs.Frame.{end_word, framed_words, entry_place}
use Rattle.words.proofs.PolynomialLaws.{length_polynomial_words}

-- ---- places

-- behind the first k polynomials
words_from : (k : ℕ) (fs : List (List ℕ)) (rest : List ℕ)
    → drop (length (polynomials_words (take k fs))) (polynomials_words fs ++ rest) ≡ polynomials_words (drop k fs) ++ rest
unfolding polynomials_words
words_from zero fs rest = refl
words_from (suc k) [] rest = refl
words_from (suc k) (f ∷ fs) rest =
    let a = length (polynomial_words f) in
    let b = length (polynomials_words (take k fs)) in
    ap (λ (n : ℕ). drop n (polynomials_words (f ∷ fs) ++ rest)) (length-append (polynomial_words f) (polynomials_words (take k fs)))
    ∙ sym (drop-drop b a (polynomials_words (f ∷ fs) ++ rest))
    ∙ ap (λ (v : List ℕ). drop b (drop a v)) (append_assoc (polynomial_words f) (polynomials_words fs) rest)
    ∙ ap (drop b) (drop_at (polynomial_words f) (polynomials_words fs ++ rest) a refl)
    ∙ words_from k fs rest

-- the words from the start word of polynomial k on: those polynomials that are left, and the end
pub entry_words : (head : ℕ) (fs : List (List ℕ)) (k : ℕ)
    → drop (entry_place fs k) (framed_words head fs) ≡ polynomials_words (drop k fs) ++ end_word (1 + length (polynomials_words fs)) ∷ []
unfolding entry_place framed_words
entry_words head fs k =
    sym (drop-drop (length (polynomials_words (take k fs))) 1 (framed_words head fs))
    ∙ words_from k fs (end_word (1 + length (polynomials_words fs)) ∷ [])

pub entry_place_zero : (fs : List (List ℕ)) → entry_place fs 0 ≡ 1
unfolding entry_place polynomials_words
entry_place_zero fs = refl

length_take_next : (k : ℕ) (fs : List (List ℕ)) → k < length fs
    → length (polynomials_words (take (suc k) fs)) ≡ length (polynomials_words (take k fs)) + length (polynomial_words (get_or fs k []))
unfolding polynomials_words
length_take_next k [] h = absurd (omega arith)
length_take_next zero (f ∷ fs) h = omega (arith, length-append (polynomial_words f) [])
length_take_next (suc k) (f ∷ fs) h =
    omega (
      arith,
      length-append (polynomial_words f) (polynomials_words (take (suc k) fs)),
      length-append (polynomial_words f) (polynomials_words (take k fs)),
      length_take_next k fs (omega arith),
    )

pub entry_place_next : (fs : List (List ℕ)) (k : ℕ) → k < length fs
    → entry_place fs (suc k) ≡ entry_place fs k + (1 + length (get_or fs k []))
unfolding entry_place
entry_place_next fs k h = omega (arith, length_take_next k fs h, length_polynomial_words (get_or fs k []))

-- ---- values

-- coefficient i in the word i + 1 behind a start word
coefficient_in : (p : ℕ) → p ≤ payload_bound → (f rest : List ℕ) → Canonical p f → (i : ℕ) → i < length f
    → payload (get_or (map (word 3) f ++ rest) i 0) ≡ get_or f i 0
unfolding Canonical
coefficient_in p small [] rest h i l = absurd (omega arith)
coefficient_in p small (a ∷ f) rest h zero l = let b = h.0 in omega arith
coefficient_in p small (a ∷ f) rest h (suc i) l = coefficient_in p small f rest h.2 i (omega arith)

pub coefficient_at : (p : ℕ) → p ≤ payload_bound → (f rest : List ℕ) → Canonical p f → (i : ℕ) → i < length f
    → payload (get_or (polynomial_words f ++ rest) (suc i) 0) ≡ get_or f i 0
unfolding polynomial_words
coefficient_at p small f rest h i l = coefficient_in p small f rest h i l

-- all coefficients
pub payloads_of : (p : ℕ) → p ≤ payload_bound → (f : List ℕ) → Canonical p f → map payload (map (word 3) f) ≡ f
unfolding Canonical
payloads_of p small [] h = refl
payloads_of p small (a ∷ f) h =
    let below = h.0 in
    ap₂ (λ (b : ℕ) (g : List ℕ). b ∷ g) (payload_word 3 a (omega arith)) (payloads_of p small f h.2)
