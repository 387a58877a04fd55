-- Reading the words of polynomials gives them back, and what is read was written so.
use Rattle.std.specs.Prelude.{◌≡◌, false, not, ◌&&◌, ℕ, zero, suc, ◌+◌, ◌*◌, ◌≤◌, ◌<◌, length, eqb, leb, ltb}
use Rattle.std.proofs.Math.Path.{refl}
use Rattle.std.proofs.Common.{sym, ap, ap₂, ◌∙◌, subst₂, arith, length-append}
use mathlib.Core.List.{List, [], ◌∷◌, ◌++◌, map, append_assoc}
use Rattle.std.proofs.lemmas.List.{length-map}
use borrow.Author.Tests.{eqb-false, eq-eqb, ne_eqb, lt-leb, le-ltb, leb-false, ltb-false}
use Rattle.modular.specs.Canonical.{LastNonzero, Canonical}
use Rattle.words.specs.Word.{kind, payload, word, payload_bound}
use Rattle.words.specs.Reading.{Reading}
use Rattle.words.specs.Reading.Reading.{read}
use Rattle.words.specs.Polynomial.{Within, AllWithin, VectorWithin, polynomial_words, polynomials_words, coefficients_from}
use Rattle.words.specs.Polynomial.{polynomial_from, polynomials_from}
use Rattle.words.specs.WordLaws.{kind_word, payload_word, word_of}
use Rattle.words.specs.ReadingLaws.{fault_read, turn_back_read, and_then_read}

-- ---- reading what was written; p and the number of coefficients are small enough to be payloads

-- row 8 is passed where the coefficient may stand
ends_passed : (a : ℕ) (f : List ℕ) → LastNonzero a f → eqb (length f) 0 && eqb a 0 ≡ false
unfolding LastNonzero
ends_passed a [] h = ne_eqb a 0 (λ e. omega arith)
ends_passed a (b ∷ f) h = simp (ne_eqb (suc (length f)) 0 (λ e. omega arith))

module _ (p : ℕ) (small : p ≤ payload_bound) where
  coefficients_written : (f : List ℕ) → Canonical p f → (rest : List ℕ)
      → coefficients_from p (length f) (map (word 3) f ++ rest) ≡ read f rest
  unfolding Canonical coefficients_from
  coefficients_written [] h rest = refl
  coefficients_written (a ∷ f) h rest =
      let k = kind_word 3 a (omega arith) in
      let x = payload_word 3 a (omega arith) in
      simp (eq-eqb _ _ k, x, lt-leb p a h.0, ends_passed a f h.1, coefficients_written f h.2 rest)

  pub polynomial_written : (limit : ℕ) → limit < payload_bound → (f : List ℕ) → Within p limit f → (rest : List ℕ)
      → polynomial_from p limit (polynomial_words f ++ rest) ≡ read f rest
  unfolding polynomial_from polynomial_words
  polynomial_written limit few f h rest =
      let s = h.size in
      let k = kind_word 2 (length f) (omega arith) in
      let x = payload_word 2 (length f) (omega arith) in
      simp (eq-eqb _ _ k, x, le-ltb limit (length f) s, coefficients_written f h.canonical rest)

  pub polynomials_written : (limit : ℕ) → limit < payload_bound → (fs : List (List ℕ)) → AllWithin p limit fs → (rest : List ℕ)
      → polynomials_from p limit (length fs) (polynomials_words fs ++ rest) ≡ read fs rest
  unfolding polynomials_from polynomials_words AllWithin
  polynomials_written limit few [] h rest = refl
  polynomials_written limit few (f ∷ fs) h rest =
      simp (
        append_assoc,
        polynomial_written limit few f h.0 (polynomials_words fs ++ rest),
        polynomials_written limit few fs
            h.1 rest,
      )

-- ---- what was read

record CoefficientsRead (p due : ℕ) (ws f rest : List ℕ) : Type 0 where
  words : ws ≡ map (word 3) f ++ rest
  count : length f ≡ due
  canonical : Canonical p f

ends_from : (a due : ℕ) (f : List ℕ) → length f ≡ due → eqb due 0 && eqb a 0 ≡ false → LastNonzero a f
unfolding LastNonzero
ends_from a zero [] e t = let n = eqb-false a 0 t in omega arith
ends_from a (suc due) [] e t = absurd (omega arith)
ends_from a due (b ∷ f) e t = tt

none_read : {p : ℕ} {ws f rest : List ℕ} → ◌≡◌ {A = Reading (List ℕ)} (read [] ws) (read f rest) → CoefficientsRead p 0 ws f rest
unfolding Canonical
none_read {p} {ws} {f} {rest} e =
    let ef : [] ≡ f = cc in
    rw (← ef) (record { words = cc; count = refl; canonical = tt })

coefficients_read : (p due : ℕ) (ws f rest : List ℕ) → coefficients_from p due ws ≡ read f rest → CoefficientsRead p due ws f rest
unfolding coefficients_from Canonical
coefficients_read p zero ws f rest e = none_read e
coefficients_read p (suc due) [] f rest e = absurd (fault_read e)
coefficients_read p (suc due) (w ∷ ws) f rest e =
    let k = turn_back_read (not (eqb (kind w) 3)) _ _ _ e in
    let x = turn_back_read (leb p (payload w)) _ _ _ k.1 in
    let l = turn_back_read (eqb due 0 && eqb (payload w) 0) _ _ _ x.1 in
    let t = and_then_read (coefficients_from p due ws) l.1 in
    let ih = coefficients_read p due ws t.0 t.1 t.2 in
    let ef : payload w ∷ t.0 ≡ f = cc in
    let er : t.1 ≡ rest = cc in
    let ew : w ≡ word 3 (payload w) = word_of 3 w k.0 in
    subst₂ (CoefficientsRead p (suc due) (w ∷ ws)) ef er
    (record {
      words = ap₂ (λ (v : ℕ) (vs : List ℕ). v ∷ vs) ew ih.words;
      count = ap suc ih.count;
      canonical = (leb-false p (payload w) x.0, ends_from (payload w) due t.0 ih.count l.0, ih.canonical);
    })

pub record PolynomialRead (p limit : ℕ) (ws f rest : List ℕ) : Type 0 where
  pub words : ws ≡ polynomial_words f ++ rest
  pub within : Within p limit f

pub polynomial_read : (p limit : ℕ) (ws f rest : List ℕ) → polynomial_from p limit ws ≡ read f rest
    → PolynomialRead p limit ws f rest
unfolding polynomial_from polynomial_words
polynomial_read p limit [] f rest e = absurd (fault_read e)
polynomial_read p limit (w ∷ ws) f rest e =
    let k = turn_back_read (not (eqb (kind w) 2)) _ _ _ e in
    let x = turn_back_read (ltb limit (payload w)) _ _ _ k.1 in
    let c = coefficients_read p (payload w) ws f rest x.1 in
    let ew : w ≡ word 2 (payload w) = word_of 2 w k.0 in
    record {
      words = ap₂ (λ (v : ℕ) (vs : List ℕ). v ∷ vs) (ew ∙ ap (word 2) (sym c.count)) c.words;
      within = record { canonical = c.canonical; size = omega (arith, ltb-false limit (payload w) x.0, c.count) };
    }

pub record PolynomialsRead (p limit count : ℕ) (ws : List ℕ) (fs : List (List ℕ)) (rest : List ℕ) : Type 0 where
  pub words : ws ≡ polynomials_words fs ++ rest
  pub within : VectorWithin p limit count fs

pub polynomials_read : (p limit count : ℕ) (ws : List ℕ) (fs : List (List ℕ)) (rest : List ℕ)
    → polynomials_from p limit count ws ≡ read fs rest
    → PolynomialsRead p limit count ws fs rest
unfolding polynomials_from polynomials_words AllWithin
polynomials_read p limit zero ws fs rest e =
    let ef : [] ≡ fs = cc in
    rw (← ef) (record { words = cc; within = record { entries = tt; count = refl } })
polynomials_read p limit (suc count) ws fs rest e =
    let t = and_then_read (polynomial_from p limit ws) e in
    let u = and_then_read (polynomials_from p limit count t.1) t.3 in
    let f = polynomial_read p limit ws t.0 t.1 t.2 in
    let ih = polynomials_read p limit count t.1 u.0 u.1 u.2 in
    let ef : t.0 ∷ u.0 ≡ fs = cc in
    let er : u.1 ≡ rest = cc in
    subst₂ (PolynomialsRead p limit (suc count) ws) ef er
    (record {
      words = f.words ∙ ap (λ (vs : List ℕ). polynomial_words t.0 ++ vs) ih.words
          ∙ sym (append_assoc (polynomial_words t.0) (polynomials_words u.0) u.1);
      within = record { entries = (f.within, ih.within.entries); count = ap suc ih.within.count };
    })

-- ---- lengths

pub length_polynomial_words : (f : List ℕ) → length (polynomial_words f) ≡ suc (length f)
unfolding polynomial_words
length_polynomial_words f = ap suc (length-map f (word 3))

pub length_polynomials_words : (p limit : ℕ) (fs : List (List ℕ)) → AllWithin p limit fs
    → length (polynomials_words fs) ≤ length fs * (1 + limit)
unfolding polynomials_words AllWithin
length_polynomials_words p limit [] h = omega arith
length_polynomials_words p limit (f ∷ fs) h =
    let s = h.0.size in
    omega (
      arith,
      length-append (polynomial_words f)
          (polynomials_words fs),
      length_polynomial_words f,
      length_polynomials_words p limit fs h.1,
    )
