-- Framed words read and written, once for systems and certificates: over the head, what is due behind it, the refusals' numbers.
use Rattle.std.specs.Prelude.{◌≡◌, not, ℕ, ◌+◌, ◌-◌, ◌*◌, ◌≤◌, ◌<◌, eqb}
use Rattle.std.proofs.Math.Path.{ap, subst₂}
use Rattle.std.proofs.Common.{◌∙◌, subst, arith, eq-eqb, eqb-true}
use mathlib.Core.List.{List, [], ◌∷◌, ◌++◌}
use Rattle.std.proofs.Math.ListN.{length, length-append}
use Rattle.std.proofs.lemmas.Bool.{not-false}
use Rattle.words.specs.Limits.{words_for}
use Rattle.words.specs.Word.{kind, payload, word, payload_bound}
use Rattle.words.specs.Reading.{Reading, renumber}
use Rattle.words.specs.Reading.Reading.{read}
use Rattle.words.specs.Polynomial.{VectorWithin, polynomials_words, polynomials_from}
use Rattle.words.specs.Frame.{Due, Framed, end_word, framed_words, end_from, body_from, framed_from}
use Rattle.words.specs.WordLaws.{kind_word, word_of}
use Rattle.words.specs.ReadingLaws.{fault_read, turn_back_read, and_then_read, renumber_read}
use Rattle.words.proofs.PolynomialLaws.{polynomials_written, polynomials_read, length_polynomials_words}

-- ---- the end

end_written : (total : ℕ) → total < payload_bound → end_from total (word 4 total ∷ []) ≡ read tt []
unfolding end_from
end_written total h =
    let x : payload (word 4 total) ≡ total - 0 = omega arith in
    simp (eq-eqb _ _ (kind_word 4 total h), eq-eqb _ _ x)

end_read : (total : ℕ) (ws : List ℕ) (u : Unit {0}) (rest : List ℕ) → end_from total ws ≡ read u rest
    → (ws ≡ word 4 total ∷ []) × (rest ≡ [])
unfolding end_from
end_read total [] u rest e = absurd (fault_read e)
end_read total (w ∷ []) u rest e =
    let k = turn_back_read (not (eqb (kind w) 4)) _ _ _ e in
    let x = turn_back_read (not (eqb (payload w) (total - 0))) _ _ _ k.1 in
    let c = eqb-true (payload w) (total - 0) (not-false _ x.0) in
    let ew : w ≡ word 4 total = word_of 4 w k.0 ∙ omega arith in
    (ap (λ (v : ℕ). v ∷ []) ew, cc)
end_read total (w ∷ v ∷ ws) u rest e =
    let k = turn_back_read (not (eqb (kind w) 4)) _ _ _ e in
    let x = turn_back_read (not (eqb (payload w) (total - length (v ∷ ws)))) _ _ _ k.1 in
    absurd (fault_read x.1)

-- ---- the body

-- what is due can be written: numbers fit into payloads, the count of all words into the end word
pub record Expressible (due : Due) : Type 0 where
  pub modulus : due.modulus ≤ payload_bound
  pub limit : due.limit < payload_bound
  pub words : words_for due.count due.limit < payload_bound

-- polynomials that are what is due
abbrev pub Entries : Due → List (List ℕ) → Type 0
Entries due fs = VectorWithin due.modulus due.limit due.count fs

body_written : (due : Due) (total : ℕ) → Expressible due → total < payload_bound → (fs : List (List ℕ)) → Entries due fs
    → body_from due total (polynomials_words fs ++ word 4 total ∷ []) ≡ read fs []
unfolding body_from
body_written due total x small fs h =
    let e = polynomials_written due.modulus x.modulus due.limit x.limit fs h.entries (word 4 total ∷ []) in
    let e' =
    subst (λ (n : ℕ). polynomials_from due.modulus due.limit n (polynomials_words fs ++ word 4 total ∷ []) ≡ read fs
    (word 4 total ∷ [])) h.count e in
    simp (e', end_written total small)

pub record BodyRead (due : Due) (total : ℕ) (ws : List ℕ) (fs : List (List ℕ)) (rest : List ℕ) : Type 0 where
  pub words : ws ≡ polynomials_words fs ++ word 4 total ∷ []
  pub within : Entries due fs
  pub end : rest ≡ []

pub body_read : (due : Due) (total : ℕ) (ws : List ℕ) (fs : List (List ℕ)) (rest : List ℕ) → body_from due total ws ≡ read fs rest
    → BodyRead due total ws fs rest
unfolding body_from
body_read due total ws fs rest e =
    let t = and_then_read (polynomials_from due.modulus due.limit due.count ws) e in
    let u = and_then_read (end_from total t.1) t.3 in
    let f = polynomials_read due.modulus due.limit due.count ws t.0 t.1 t.2 in
    let g = end_read total t.1 u.0 u.1 u.2 in
    let ef : t.0 ≡ fs = cc in
    let er : u.1 ≡ rest = cc in
    subst₂ (BodyRead due total ws) ef er
    (record { words = f.words ∙ ap (λ (v : List ℕ). polynomials_words t.0 ++ v) g.0; within = f.within; end = g.1 })

-- ---- the whole

pub length_framed_words : (head : ℕ) (fs : List (List ℕ)) → length (framed_words head fs) ≡ 2 + length (polynomials_words fs)
unfolding framed_words
length_framed_words head fs = omega (arith, length-append (polynomials_words fs) (end_word (1 + length (polynomials_words fs)) ∷ []))

-- no written form is longer than its limits say
pub framed_words_most : (head : ℕ) (due : Due) (fs : List (List ℕ)) → Entries due fs
    → length (framed_words head fs) ≤ words_for due.count due.limit
framed_words_most head due fs h =
    let most =
    subst (λ (n : ℕ). length (polynomials_words fs) ≤ n * (1 + due.limit)) h.count
    (length_polynomials_words due.modulus due.limit fs h.entries) in
    omega (arith, length_framed_words head fs)

-- the end word has the number of all words
framed_words_end : (head : ℕ) (fs : List (List ℕ))
    → framed_words head fs ≡ head ∷ polynomials_words fs ++ word 4 (length (framed_words head fs)) ∷ []
unfolding framed_words
framed_words_end head fs =
    let e : 1 + length (polynomials_words fs) + 1 ≡ length (framed_words head fs) = omega (arith, length_framed_words head fs) in
    ap (λ (n : ℕ). head ∷ polynomials_words fs ++ word 4 n ∷ []) e

module _ {H : Type 0} (head_from : List ℕ → Reading H) (head_word : H → ℕ) (Valid : H → Type 0) where
  -- what the laws ask of a head
  pub record HeadLaws : Type 0 where
    pub written : (h : H) → Valid h → (rest : List ℕ) → head_from (head_word h ∷ rest) ≡ read h rest
    pub read : (ws : List ℕ) (h : H) (rest : List ℕ) → head_from ws ≡ read h rest → (ws ≡ head_word h ∷ rest) × Valid h

  module _ (laws : HeadLaws) (by : ℕ) (due : H → Due) where
    pub framed_written : (h : H) → Valid h → Expressible (due h) → (fs : List (List ℕ)) → Entries (due h) fs
        → framed_from by head_from due (framed_words (head_word h) fs) ≡ read (record { head = h; entries = fs }) []
    unfolding framed_from
    framed_written h valid x fs within =
        let total = length (framed_words (head_word h) fs) in
        let most = framed_words_most (head_word h) (due h) fs within in
        let few = x.words in
        let ws = polynomials_words fs ++ word 4 total ∷ [] in
        let eh : head_from (framed_words (head_word h) fs) ≡ read h ws =
        ap head_from (framed_words_end (head_word h) fs) ∙ laws.written h valid ws in
        let eb : body_from (due h) total ws ≡ read fs [] = body_written (due h) total x (omega arith) fs within in
        simp (eh, eb)

    pub record FramedRead (ws : List ℕ) (v : Framed H) (rest : List ℕ) : Type 0 where
      pub words : ws ≡ framed_words (head_word v.head) v.entries
      pub valid : Valid v.head
      pub within : Entries (due v.head) v.entries
      pub end : rest ≡ []

    pub framed_read : (ws : List ℕ) (v : Framed H) (rest : List ℕ) → framed_from by head_from due ws ≡ read v rest
        → FramedRead ws v rest
    unfolding framed_from framed_words
    framed_read ws v rest e =
        let t = and_then_read (head_from ws) e in
        let h = t.0 in
        let u = and_then_read (renumber by (body_from (due h) (length ws) t.1)) t.3 in
        let fs = u.0 in
        let a = laws.read ws h t.1 t.2 in
        let b = body_read (due h) (length ws) t.1 fs u.1 (renumber_read by (body_from (due h) (length ws) t.1) u.2) in
        let ev : record { head = h; entries = fs } ≡ v = cc in
        let er : u.1 ≡ rest = cc in
        let ew : ws ≡ head_word h ∷ polynomials_words fs ++ word 4 (length ws) ∷ [] =
        a.0 ∙ ap (λ (r : List ℕ). head_word h ∷ r) b.words in
        let el : length ws ≡ 1 + length (polynomials_words fs) + 1 =
        omega (arith, ap length ew, length-append (polynomials_words fs) (word 4 (length ws) ∷ [])) in
        subst₂ (FramedRead ws) ev er
        (record {
          words = ew ∙ ap (λ (n : ℕ). head_word h ∷ polynomials_words fs ++ word 4 n ∷ []) el;
          valid = a.1;
          within = b.within;
          end = b.end;
        })
