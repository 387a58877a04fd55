-- Words that follow a sheet or a certificate are a fault at the first of them. So what is told of a list of words is told of its
-- first words alone, where these are more than any sheet, or any certificate, has: reading ends among them.
use Rattle.std.specs.Prelude.{◌≡◌, Bool, true, false, not, ◌&&◌, ◌||◌, take, drop, ltb}
use Rattle.std.proofs.Math.Path.{refl, sym, ap}
use Rattle.std.proofs.Common.{◌∙◌, arith, take-append-drop, length-take-le}
use mathlib.Core.List.{List, [], ◌∷◌, ◌++◌}
use Prim.Native.Nat.{ℕ, zero, suc, ◌+◌, ◌-◌, ◌*◌, ◌≤◌, ◌<◌}
use Rattle.modular.specs.Prime.{prime?}
use Rattle.std.proofs.Math.ListN.{length, length-append}
use Rattle.std.proofs.Math.Dec.{eqb, leb}
use borrow.Author.Tests.{ltb-false}
use Rattle.words.specs.Limits.{Limits, words_for, longest_system, longest_certificate}
use Rattle.words.specs.LimitsLaws.{LimitsFit, system_count_most, words_for_most}
use Rattle.words.specs.Word.{kind, payload}
use Rattle.words.specs.Outcome.Outcome.{refused}
use Rattle.words.specs.Reading.{Reading, turn_back, and_then, renumber, outcome}
use Rattle.words.specs.Reading.Reading.{read, fault}
use Rattle.words.specs.Polynomial.{polynomial_words, polynomials_words, coefficients_from, polynomial_from, polynomials_from}
use Rattle.words.proofs.PolynomialLaws.{polynomial_read, polynomials_read, length_polynomial_words, length_polynomials_words}
use Rattle.words.specs.Frame.{Due, end_from, body_from, framed_from}
use Rattle.words.specs.System.{Shape, ShapeWithin, counts_within}
use Rattle.words.specs.Systems.{Head, head_in, systems_head_from, systems_due, systems_from, read_systems}
use Rattle.words.proofs.HeadLaws.{head_read}
use Rattle.words.proofs.SystemsLaws.{systems_from_shown}
use Rattle.words.specs.Certificate.{Form, entry_count, certificate_head_from, certificate_due, certificate_from, read_certificate}
use Rattle.words.proofs.CertificateLaws.{form_read, entry_count_most, certificate_from_shown}

module _ (more : List ℕ) where
  -- the same reading, with more words behind those that are left
  abbrev with_more : {A : Type 0} → Reading A → Reading A
  with_more (read a rest) = read a (rest ++ more)
  with_more (fault number ws) = fault number (ws ++ more)

  row_more : {A : Type 0} (b : Bool) (number : ℕ) (ws : List ℕ) (next : Reading A) {longer : Reading A}
      → (b ≡ false → longer ≡ with_more next)
      → turn_back b number (ws ++ more) longer ≡ with_more (turn_back b number ws next)
  row_more true number ws next h = refl
  row_more false number ws next h = h refl

  then_more : {A B : Type 0} (r : Reading A) {longer : Reading A} (next on_longer : A → List ℕ → Reading B)
      → longer ≡ with_more r
      → ((a : A) (rest : List ℕ) → r ≡ read a rest → on_longer a (rest ++ more) ≡ with_more (next a rest))
      → and_then longer on_longer ≡ with_more (and_then r next)
  then_more (read a rest) next on_longer e h = ap (λ s. and_then s on_longer) e ∙ h a rest refl
  then_more (fault number ws) next on_longer e h = ap (λ s. and_then s on_longer) e

  renumber_more : {A : Type 0} (by : ℕ) (r : Reading A) {longer : Reading A} → longer ≡ with_more r
      → renumber by longer ≡ with_more (renumber by r)
  renumber_more by (read a rest) e = ap (renumber by) e
  renumber_more by (fault number ws) e = ap (renumber by) e

  outcome_more : {A : Type 0} (ws : List ℕ) (r : Reading A) → outcome (length (ws ++ more)) (with_more r) ≡ outcome (length ws) r
  outcome_more ws (read a rest) = refl
  outcome_more ws (fault number vs) =
      let e : length (ws ++ more) - length (vs ++ more) ≡ length ws - length vs =
      omega (arith, length-append ws more, length-append vs more) in
      ap (refused number) e

  -- ---- the parts of a body, where no word is missing

  coefficients_more : (p due : ℕ) (ws : List ℕ) → due ≤ length ws
      → coefficients_from p due (ws ++ more) ≡ with_more (coefficients_from p due ws)
  unfolding coefficients_from
  coefficients_more p zero ws h = refl
  coefficients_more p (suc due) [] h = absurd (omega arith)
  coefficients_more p (suc due) (w ∷ ws) h =
      row_more (not (eqb (kind w) 3)) 5 (w ∷ ws) _ (λ _.
      row_more (leb p (payload w)) 7 (w ∷ ws) _ (λ _.
      row_more (eqb due 0 && eqb (payload w) 0) 8 (w ∷ ws) _ (λ _.
      then_more (coefficients_from p due ws) _ _ (coefficients_more p due ws (omega arith)) (λ f rest e. refl))))

  polynomial_more : (p limit : ℕ) (ws : List ℕ) → 1 + limit ≤ length ws
      → polynomial_from p limit (ws ++ more) ≡ with_more (polynomial_from p limit ws)
  unfolding polynomial_from
  polynomial_more p limit [] h = absurd (omega arith)
  polynomial_more p limit (w ∷ ws) h =
      row_more (not (eqb (kind w) 2)) 5 (w ∷ ws) _ (λ _.
      row_more (ltb limit (payload w)) 6 (w ∷ ws) _ (λ few.
      coefficients_more p (payload w) ws (omega (arith, ltb-false limit (payload w) few))))

  polynomials_more : (p limit count : ℕ) (ws : List ℕ) → count * (1 + limit) ≤ length ws
      → polynomials_from p limit count (ws ++ more) ≡ with_more (polynomials_from p limit count ws)
  unfolding polynomials_from
  polynomials_more p limit zero ws h = refl
  polynomials_more p limit (suc count) ws h =
      then_more (polynomial_from p limit ws) _ _ (polynomial_more p limit ws (omega arith)) (λ f rest e.
      let r = polynomial_read p limit ws f rest e in
      let n : length ws ≡ 1 + length f + length rest =
      ap length r.words ∙ omega (arith, length-append (polynomial_words f) rest, length_polynomial_words f) in
      then_more (polynomials_from p limit count rest) _ _
      (polynomials_more p limit count rest (omega (arith, r.within.size))) (λ fs rest' e'. refl))

  -- the end, where a word follows already
  end_more : (total : ℕ) (ws : List ℕ) → 2 ≤ length ws → end_from (total + length more) (ws ++ more) ≡ with_more (end_from total ws)
  unfolding end_from
  end_more total [] h = absurd (omega arith)
  end_more total (w ∷ []) h = absurd (omega arith)
  end_more total (w ∷ v ∷ ws) h =
      let e : total + length more - length (v ∷ ws ++ more) ≡ total - length (v ∷ ws) = omega (arith, length-append ws more) in
      row_more (not (eqb (kind w) 4)) 5 (w ∷ v ∷ ws) _ (λ _.
      ap (λ (n : ℕ). turn_back (not (eqb (payload w) n)) 9 (w ∷ v ∷ ws ++ more) (fault 9 (v ∷ ws ++ more))) e
      ∙ row_more (not (eqb (payload w) (total - length (v ∷ ws)))) 9 (w ∷ v ∷ ws) (fault 9 (v ∷ ws)) (λ _. refl))

  body_more : (due : Due) (total : ℕ) (ws : List ℕ) → words_for due.count due.limit ≤ length ws
      → body_from due (total + length more) (ws ++ more) ≡ with_more (body_from due total ws)
  unfolding body_from
  body_more due total ws h =
      let p = due.modulus in
      let count = due.count in
      then_more (polynomials_from p due.limit count ws) _ _ (polynomials_more p due.limit count ws (omega arith)) (λ fs rest e.
      let r = polynomials_read p due.limit count ws fs rest e in
      let most = length_polynomials_words p due.limit fs r.within.entries in
      let n : length ws ≡ length (polynomials_words fs) + length rest =
      ap length r.words ∙ length-append (polynomials_words fs) rest in
      let all = ap (λ (k : ℕ). k * (1 + due.limit)) r.within.count in
      then_more (end_from total rest) _ _ (end_more total rest (omega arith)) (λ _ rest' e'. refl))

  -- ---- the whole

  module _ {H : Type 0} (by : ℕ) (head_from : List ℕ → Reading H) (due_of : H → Due) (ws : List ℕ)
      (head : head_from (ws ++ more) ≡ with_more (head_from ws))
      (room : (h : H) (rest : List ℕ) → head_from ws ≡ read h rest → words_for (due_of h).count (due_of h).limit ≤ length rest) where
    framed_more : framed_from by head_from due_of (ws ++ more) ≡ with_more (framed_from by head_from due_of ws)
    unfolding framed_from
    framed_more =
        then_more (head_from ws) _ _ head (λ h rest e.
        let due = due_of h in
        let longer : renumber by (body_from due (length (ws ++ more)) (rest ++ more))
        ≡ with_more (renumber by (body_from due (length ws) rest)) =
        renumber_more by (body_from due (length ws) rest)
        (ap (λ (k : ℕ). body_from due k (rest ++ more)) (length-append ws more) ∙ body_more due (length ws) rest (room h rest e)) in
        then_more (renumber by (body_from due (length ws) rest)) _ _ longer (λ fs rest' e'. refl))

  systems_head_more : (limits : Limits) (ws : List ℕ) → 1 ≤ length ws
      → systems_head_from limits (ws ++ more) ≡ with_more (systems_head_from limits ws)
  unfolding systems_head_from
  systems_head_more limits [] h = absurd (omega arith)
  systems_head_more limits (w ∷ ws) h =
      row_more (not (eqb (kind w) 1 && leb (head_in w).sides limits.sides)) 1 (w ∷ ws) _ (λ _.
      row_more (not (prime? (head_in w).shape.modulus)) 2 (w ∷ ws) _ (λ _.
      row_more (not (counts_within limits (head_in w).shape)) 3 (w ∷ ws) _ (λ _. refl)))

  certificate_head_more : (ws : List ℕ) → 1 ≤ length ws → certificate_head_from (ws ++ more) ≡ with_more (certificate_head_from ws)
  unfolding certificate_head_from
  certificate_head_more [] h = absurd (omega arith)
  certificate_head_more (w ∷ ws) h =
      row_more (not (eqb (kind w) 5 && (eqb (payload w) 1 || eqb (payload w) 2))) 21 (w ∷ ws) _ (λ _. refl)

  module _ (limits : Limits) (ws : List ℕ) (long : longest_system limits < length ws) where
    systems_room : (h : Head) (rest : List ℕ) → systems_head_from limits ws ≡ read h rest
        → words_for (systems_due limits h).count limits.system_coefficients ≤ length rest
    systems_room h rest e =
        let r = head_read limits ws h rest e in
        let n = ap length r.words in
        let v = r.within in
        omega (
          arith,
          words_for_most limits.system_coefficients
              (system_count_most v.shape.rows.1 v.shape.columns.1 v.sides.1),
        )

    systems_more : read_systems limits (ws ++ more) ≡ read_systems limits ws
    unfolding systems_from
    systems_more =
        let framed = framed_more 0 (systems_head_from limits) (systems_due limits) ws
        (systems_head_more limits ws (omega arith)) systems_room in
        let longer : systems_from limits (ws ++ more) ≡ with_more (systems_from limits ws) =
        then_more (framed_from 0 (systems_head_from limits) (systems_due limits) ws) _ _ framed (λ v rest e. refl) in
        systems_from_shown limits (ws ++ more)
        ∙ ap (outcome (length (ws ++ more))) longer
        ∙ outcome_more ws (systems_from limits ws)
        ∙ sym (systems_from_shown limits ws)

  module _ (limits : Limits) (fit : LimitsFit limits) (h : Shape) (shape : ShapeWithin limits h) (ws : List ℕ)
      (long : longest_certificate limits < length ws) where
    certificate_room : (form : Form) (rest : List ℕ) → certificate_head_from ws ≡ read form rest
        → words_for (entry_count h form) limits.certificate_coefficients ≤ length rest
    certificate_room form rest e =
        let n = ap length (form_read ws form rest e) in
        omega (arith, words_for_most limits.certificate_coefficients (entry_count_most limits h shape form))

    certificate_more : read_certificate limits h (ws ++ more) ≡ read_certificate limits h ws
    unfolding certificate_from
    certificate_more =
        let framed = framed_more 20 certificate_head_from (certificate_due limits h) ws
        (certificate_head_more ws (omega arith)) certificate_room in
        let longer : certificate_from limits h (ws ++ more) ≡ with_more (certificate_from limits h ws) =
        then_more (framed_from 20 certificate_head_from (certificate_due limits h) ws) _ _ framed (λ v rest e. refl) in
        certificate_from_shown limits h (ws ++ more)
        ∙ ap (outcome (length (ws ++ more))) longer
        ∙ outcome_more ws (certificate_from limits h ws)
        ∙ sym (certificate_from_shown limits h ws)

-- the first words, so many that no sheet has as many, decide
pub systems_prefix : (limits : Limits) (count : ℕ) → longest_system limits < count → (ws : List ℕ) → count ≤ length ws
    → read_systems limits (take count ws) ≡ read_systems limits ws
systems_prefix limits count long ws more =
    sym (systems_more (drop count ws) limits (take count ws) (omega (arith, length-take-le count ws more)))
    ∙ ap (read_systems limits) (take-append-drop count ws)

-- so many that no certificate has as many
pub certificate_prefix : (limits : Limits) → LimitsFit limits → (h : Shape) → ShapeWithin limits h → (count : ℕ)
    → longest_certificate limits < count → (ws : List ℕ) → count ≤ length ws
    → read_certificate limits h (take count ws) ≡ read_certificate limits h ws
certificate_prefix limits fit h shape count long ws more =
    sym (certificate_more (drop count ws) limits fit h shape (take count ws) (omega (arith, length-take-le count ws more)))
    ∙ ap (read_certificate limits h) (take-append-drop count ws)
