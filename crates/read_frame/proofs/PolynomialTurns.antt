-- A turn of the loop over polynomials in a row: what is told of those that are still due, from the word at which the loop stands.
use mathlib.Core.Path.{◌≡◌, refl, sym, ap, ap₂, ◌∙◌, subst}
use mathlib.Core.List.{List, ◌∷◌}
use Prim.Native.Nat.{ℕ, suc, ◌+◌, ◌-◌, ◌≤◌, ◌<◌}
use native.Mathlib.Nat.{le_of_eq}
use native.Mathlib.Omega.{arith}
use lib.ListN.{length, take, drop, length-drop, length-append}
use lib.Seq.{drop_at, drop-drop, take_all}
use Rattle.words.specs.Outcome.{Outcome}
use Rattle.words.specs.Outcome.Outcome.{accepted, refused}
use Rattle.words.specs.Reading.{Reading, and_then, words_used}
use Rattle.words.specs.Reading.Reading.{read, fault}
use Rattle.words.specs.Polynomial.{polynomial_words, polynomial_from, polynomials_from}
use Rattle.words.specs.ReadingLaws.{words_used_map}
use Rattle.words.proofs.PolynomialLaws.{polynomial_read}
use Rattle.words.proofs.ForwardLaws.{Forward, polynomial_forward}

-- the part `&words[at..]` is the words from `at` on
pub rest_part : (ws : List ℕ) (at : ℕ) → take (length ws - at) (drop at ws) ≡ drop at ws
rest_part ws at = take_all (length ws - at) (drop at ws) (le_of_eq (length-drop at ws))

-- what is told of so many polynomials from word `at` on
abbrev pub OfAll : List ℕ → ℕ → ℕ → ℕ → ℕ → Outcome ℕ
OfAll ws p limit count at = words_used (length ws) (polynomials_from p limit count (drop at ws))

-- the loop's invariant: what is told of all is what is told of those that are due
pub record Passed (ws : List ℕ) (p limit count at done : ℕ) : Type 0 where
  pub within : at ≤ length ws
  pub same : OfAll ws p limit count 0 ≡ OfAll ws p limit (count - done) at

pub passed_start : (ws : List ℕ) (p limit count : ℕ) → Passed ws p limit count 0 0
passed_start ws p limit count =
    let n : count ≡ count - 0 = omega arith in
    record { within = omega arith; same = ap (λ (k : ℕ). OfAll ws p limit k 0) n }

pub passed_end : (ws : List ℕ) (p limit count at done : ℕ) → Passed ws p limit count at done → count ≤ done
    → OfAll ws p limit count 0 ≡ accepted at
unfolding polynomials_from
passed_end ws p limit count at done h all =
    let z : count - done ≡ 0 = omega arith in
    h.same ∙ rw z (ap accepted (omega (arith, length-drop at ws, h.within)))

-- what a call on the part tells, and what follows for those that are due
module _ (ws : List ℕ) (p limit at due : ℕ) (within : at ≤ length ws) where
  more : Reading (List ℕ) → Reading (List (List ℕ))
  more r = and_then r (λ f rest. and_then (polynomials_from p limit due rest) (λ fs rest'. read (f ∷ fs) rest'))

  used_by : (used : ℕ) (r : Reading (List ℕ)) → polynomial_from p limit (drop at ws) ≡ r
      → accepted used ≡ words_used (length (drop at ws)) r
      → (at + used ≤ length ws) × (words_used (length ws) (more r) ≡ OfAll ws p limit due (at + used))
  unfolding more
  used_by used (read f rest) e t =
      let w = (polynomial_read p limit (drop at ws) f rest e).words in
      let l : length (drop at ws) ≡ length (polynomial_words f) + length rest =
      ap length w ∙ length-append (polynomial_words f) rest in
      let q : used ≡ length (drop at ws) - length rest = cc in
      let er : drop (at + used) ws ≡ rest =
      sym (drop-drop used at ws) ∙ ap (drop used) w ∙ drop_at (polynomial_words f) rest used (omega arith) in (
        omega (arith, length-drop at ws),
        words_used_map (length ws) (polynomials_from p limit due rest) (λ fs. f ∷ fs)
            ∙ ap (λ (v : List ℕ). words_used (length ws) (polynomials_from p limit due v)) (sym er),
      )
  used_by used (fault n rest) e t = absurd (let z : ◌≡◌ {A = ℕ} 0 1 = cc in omega arith)

  refused_by : (number place : ℕ) (r : Reading (List ℕ)) → Forward (length (drop at ws)) r
      → refused number place ≡ words_used (length (drop at ws)) r
      → (at + place ≤ length ws) × (words_used (length ws) (more r) ≡ refused number (at + place))
  unfolding more
  refused_by number place (read f rest) h t = absurd (let z : ◌≡◌ {A = ℕ} 0 1 = cc in omega arith)
  refused_by number place (fault n rest) h t =
      let q : place ≡ length (drop at ws) - length rest = cc in
      let en : n ≡ number = cc in
      let l = h.left in
      (omega (arith, length-drop at ws), ap₂ refused en (omega (arith, length-drop at ws)))

-- what a call on the part told
abbrev pub ToldOf : Outcome ℕ → ℕ → ℕ → List ℕ → Type 0
ToldOf o p limit part = o ≡ words_used (length part) (polynomial_from p limit part)

module _ (ws : List ℕ) (p limit count at done : ℕ) (h : Passed ws p limit count at done) (some : done < count) where
  left : ℕ
  left = count - (done + 1)

  turn : {T : Outcome ℕ}
      → words_used (length ws) (more ws p limit at left h.within (polynomial_from p limit (drop at ws))) ≡ T
      → OfAll ws p limit count 0 ≡ T
  unfolding polynomials_from more left
  turn e =
      let s : count - done ≡ suc (count - (done + 1)) = omega arith in
      h.same ∙ ap (λ (k : ℕ). words_used (length ws) (polynomials_from p limit k (drop at ws))) s ∙ e

  pub passed_next : (used : ℕ) → ToldOf (accepted used) p limit (take (length ws - at) (drop at ws))
      → Passed ws p limit count (at + used) (done + 1)
  unfolding left
  passed_next used t =
      let u =
      used_by ws p limit at left h.within used (polynomial_from p limit (drop at ws)) refl
      (subst (ToldOf (accepted used) p limit) (rest_part ws at) t) in
      record { within = u.0; same = turn u.1 }

  pub passed_refused : (number place : ℕ) → ToldOf (refused number place) p limit (take (length ws - at) (drop at ws))
      → (at + place ≤ length ws) × (OfAll ws p limit count 0 ≡ refused number (at + place))
  passed_refused number place t =
      let u =
      refused_by ws p limit at left h.within number place (polynomial_from p limit (drop at ws))
      (polynomial_forward p limit (drop at ws))
      (subst (ToldOf (refused number place) p limit) (rest_part ws at) t) in
      (u.0, turn u.1)
