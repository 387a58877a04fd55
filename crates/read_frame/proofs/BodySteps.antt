-- The words behind a head, from what is told of the polynomials and of the end.
use mathlib.Core.Path.{◌≡◌, refl, sym, ap, ap₂, ◌∙◌, subst}
use mathlib.Core.List.{List}
use Prim.Native.Nat.{ℕ, ◌+◌, ◌-◌, ◌≤◌}
use native.Mathlib.Omega.{arith}
use lib.ListN.{length, take, drop, length-drop, length-append}
use lib.Seq.{drop_at, drop-drop}
use Rattle.words.specs.Outcome.{Outcome}
use Rattle.words.specs.Outcome.Outcome.{accepted, refused}
use Rattle.words.specs.Reading.{Reading, and_then, words_used}
use Rattle.words.specs.Reading.Reading.{read, fault}
use Rattle.words.specs.Polynomial.{polynomials_words, polynomials_from}
use Rattle.words.specs.Frame.{end_from, body_from}
use Rattle.words.specs.ReadingLaws.{words_used_map}
use Rattle.words.proofs.PolynomialLaws.{polynomials_read}
use Rattle.words.proofs.ForwardLaws.{Forward, polynomials_forward}
use Rattle.read_frame.specs.Due.{due_of}
use Rattle.read_frame.proofs.PolynomialTurns.{rest_part}
use Rattle.read_frame.proofs.EndWord.{OfEnd}

-- what a call on the part behind the head told
abbrev pub ToldOf : Outcome ℕ → ℕ → ℕ → ℕ → List ℕ → Type 0
ToldOf o p limit count part = o ≡ words_used (length part) (polynomials_from p limit count part)

module _ (ws : List ℕ) (p limit count : ℕ) (some : 1 ≤ length ws) where
  abbrev pub OfBody : Outcome ℕ
  OfBody = words_used (length ws) (body_from (due_of p limit count) (length ws) (drop 1 ws))

  then_end : Reading (List (List ℕ)) → Reading (List (List ℕ))
  then_end r = and_then r (λ fs rest. and_then (end_from (length ws) rest) (λ _ rest'. read fs rest'))

  used_by : (used : ℕ) (r : Reading (List (List ℕ))) → polynomials_from p limit count (drop 1 ws) ≡ r
      → accepted used ≡ words_used (length (drop 1 ws)) r
      → (used + 1 ≤ length ws) × (words_used (length ws) (then_end r) ≡ OfEnd ws (used + 1))
  unfolding then_end
  used_by used (read fs rest) e t =
      let w = (polynomials_read p limit count (drop 1 ws) fs rest e).words in
      let l : length (drop 1 ws) ≡ length (polynomials_words fs) + length rest =
      ap length w ∙ length-append (polynomials_words fs) rest in
      let q : used ≡ length (drop 1 ws) - length rest = cc in
      let n : 1 + used ≡ used + 1 = omega arith in
      let er : drop (used + 1) ws ≡ rest =
      ap (λ (k : ℕ). drop k ws) (sym n) ∙ sym (drop-drop used 1 ws) ∙ ap (drop used) w
      ∙ drop_at (polynomials_words fs) rest used (omega arith) in (
        omega (arith, length-drop 1 ws),
        words_used_map (length ws) (end_from (length ws) rest) (λ _. fs)
            ∙ ap (λ (v : List ℕ). words_used (length ws) (end_from (length ws) v)) (sym er),
      )
  used_by used (fault n rest) e t = absurd (let z : ◌≡◌ {A = ℕ} 0 1 = cc in omega arith)

  refused_by : (number place : ℕ) (r : Reading (List (List ℕ))) → Forward (length (drop 1 ws)) r
      → refused number place ≡ words_used (length (drop 1 ws)) r
      → (1 + place ≤ length ws) × (words_used (length ws) (then_end r) ≡ refused number (1 + place))
  unfolding then_end
  refused_by number place (read fs rest) h t = absurd (let z : ◌≡◌ {A = ℕ} 0 1 = cc in omega arith)
  refused_by number place (fault n rest) h t =
      let q : place ≡ length (drop 1 ws) - length rest = cc in
      let en : n ≡ number = cc in
      let l = h.left in
      (omega (arith, length-drop 1 ws), ap₂ refused en (omega (arith, length-drop 1 ws)))

  pub body_used : (used : ℕ) → ToldOf (accepted used) p limit count (take (length ws - 1) (drop 1 ws))
      → (used + 1 ≤ length ws) × (OfBody ≡ OfEnd ws (used + 1))
  unfolding body_from then_end
  body_used used t =
      used_by used (polynomials_from p limit count (drop 1 ws)) refl
      (subst (ToldOf (accepted used) p limit count) (rest_part ws 1) t)

  pub body_refused : (number place : ℕ) → ToldOf (refused number place) p limit count (take (length ws - 1) (drop 1 ws))
      → (1 + place ≤ length ws) × (OfBody ≡ refused number (1 + place))
  unfolding body_from then_end
  body_refused number place t =
      refused_by number place (polynomials_from p limit count (drop 1 ws)) (polynomials_forward p limit count (drop 1 ws))
      (subst (ToldOf (refused number place) p limit count) (rest_part ws 1) t)
