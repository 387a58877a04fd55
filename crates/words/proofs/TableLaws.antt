-- A walk by the table, word by word, refuses what the readers refuse, with the same number and at the same word, and reads what
-- they read: once for systems and certificates.
use Rattle.std.specs.Prelude.{◌≡◌, Bool, true, false, not, ◌&&◌, leb, ltb}
use Rattle.std.proofs.Math.Path.{refl, ap}
use Rattle.std.proofs.Common.{◌∙◌}
use Rattle.std.proofs.Math.Option.{Option, none, some}
use mathlib.Core.List.{List, [], ◌∷◌}
use Prim.Native.Nat.{ℕ, zero, suc, ◌+◌, ◌-◌}
use Rattle.std.proofs.Math.ListN.{length}
use Rattle.std.proofs.Math.Dec.{eqb}
use Rattle.words.specs.Word.{kind, payload}
use Rattle.words.specs.Reading.{Reading, turn_back, and_then, renumber}
use Rattle.words.specs.Reading.Reading.{read, fault}
use Rattle.words.specs.Polynomial.{coefficients_from, polynomial_from, polynomials_from}
use Rattle.words.specs.Frame.{Due, Framed, nothing_from, end_from, body_from, framed_from}
use Rattle.words.specs.Table.{Expected, HeadTable, table_row, polynomials_due, coefficients_due, number_at, missing_at, after}
use Rattle.words.specs.Table.Expected.{head, start, end, nothing}

-- ---- the walk

-- a number of the table, at the words given; else what comes next
abbrev pub turned : {A : Type 0} → Option ℕ → List ℕ → Reading A → Reading A
turned (some number) ws next = fault number ws
turned none ws next = next

-- of so many words in all, those from one on
unfoldable pub walk : HeadTable → (by total : ℕ) → Expected → List ℕ → Reading (Unit {0})
walk T by total e [] = turned (missing_at by e) [] (read tt [])
walk T by total e (w ∷ ws) = turned (number_at T by e (total - length ws) w) (w ∷ ws) (walk T by total (after T e w) ws)

-- ---- steps

pub then_same : {A B : Type 0} (r : Reading A) {next other : A → List ℕ → Reading B}
    → ((a : A) (rest : List ℕ) → next a rest ≡ other a rest) → and_then r next ≡ and_then r other
then_same (read a rest) h = h a rest
then_same (fault number ws) h = refl

-- one step after another, renumbered
then_then : {A B C : Type 0} (by : ℕ) (r : Reading A) (next : A → List ℕ → Reading B) (last : B → List ℕ → Reading C)
    → and_then (renumber by (and_then r next)) last ≡ and_then (renumber by r) (λ a rest. and_then (renumber by (next a rest)) last)
then_then by (read a rest) next last = refl
then_then by (fault number ws) next last = refl

-- what was read, forgotten: it does not matter how it was put together
abbrev pub forgotten : {A : Type 0} → Reading A → Reading (Unit {0})
forgotten r = and_then r (λ _ rest. read tt rest)

pub forgotten_map : {A B : Type 0} (r : Reading A) (g : A → B) → forgotten (and_then r (λ a rest. read (g a) rest)) ≡ forgotten r
forgotten_map (read a rest) g = refl
forgotten_map (fault number ws) g = refl

-- a row of a reader and a row of the table
row_walk : {A B : Type 0} (by : ℕ) (b : Bool) (number : ℕ) (ws : List ℕ) (next : Reading A) (last : A → List ℕ → Reading B)
    (below : Option ℕ) (other : Reading B) → and_then (renumber by next) last ≡ turned below ws other
    → and_then (renumber by (turn_back b number ws next)) last ≡ turned (table_row b (number + by) below) ws other
row_walk by true number ws next last below other h = refl
row_walk by false number ws next last below other h = h

-- ---- the body

module _ (T : HeadTable) (by total : ℕ) where
  abbrev on : Expected → List ℕ → Reading (Unit {0})
  on e ws = walk T by total e ws

  coefficients_walk : (p limit left more : ℕ) (ws : List ℕ)
      → and_then (renumber by (coefficients_from p more ws)) (λ f rest. on (polynomials_due p limit left) rest)
      ≡ on (coefficients_due p limit more left) ws
  unfolding coefficients_from coefficients_due walk number_at missing_at after
  coefficients_walk p limit left zero ws = refl
  coefficients_walk p limit left (suc more) [] = refl
  coefficients_walk p limit left (suc more) (w ∷ ws) =
      row_walk by (not (eqb (kind w) 3)) 5 (w ∷ ws) _ _ _ _
      (row_walk by (leb p (payload w)) 7 (w ∷ ws) _ _ _ _
      (row_walk by (eqb more 0 && eqb (payload w) 0) 8 (w ∷ ws) _ _ _ _
      (then_then by (coefficients_from p more ws) _ _ ∙ coefficients_walk p limit left more ws)))

  polynomial_walk : (p limit left : ℕ) (ws : List ℕ)
      → and_then (renumber by (polynomial_from p limit ws)) (λ f rest. on (polynomials_due p limit left) rest)
      ≡ on (start p limit left) ws
  unfolding polynomial_from walk number_at missing_at after
  polynomial_walk p limit left [] = refl
  polynomial_walk p limit left (w ∷ ws) =
      row_walk by (not (eqb (kind w) 2)) 5 (w ∷ ws) _ _ _ _
      (row_walk by (ltb limit (payload w)) 6 (w ∷ ws) _ _ _ _
      (coefficients_walk p limit left (payload w) ws))

  polynomials_walk : (p limit count : ℕ) (ws : List ℕ)
      → and_then (renumber by (polynomials_from p limit count ws)) (λ fs rest. on end rest) ≡ on (polynomials_due p limit count) ws
  unfolding polynomials_from polynomials_due
  polynomials_walk p limit zero ws = refl
  polynomials_walk p limit (suc count) ws =
      then_then by (polynomial_from p limit ws) _ _
      ∙ then_same (renumber by (polynomial_from p limit ws)) (λ f rest.
      then_then by (polynomials_from p limit count rest) _ _ ∙ polynomials_walk p limit count rest)
      ∙ polynomial_walk p limit count ws

  nothing_walk : (ws : List ℕ) → and_then (renumber by (nothing_from ws)) (λ _ rest. read tt rest) ≡ on nothing ws
  unfolding walk number_at missing_at
  nothing_walk [] = refl
  nothing_walk (w ∷ ws) = refl

  end_walk : (ws : List ℕ) → and_then (renumber by (end_from total ws)) (λ _ rest. read tt rest) ≡ on end ws
  unfolding end_from walk number_at missing_at after
  end_walk [] = refl
  end_walk (w ∷ ws) =
      row_walk by (not (eqb (kind w) 4)) 5 (w ∷ ws) _ _ _ _
      (row_walk by (not (eqb (payload w) (total - length ws))) 9 (w ∷ ws) _ _ _ _
      (nothing_walk ws))

  body_walk : (due : Due) (ws : List ℕ) → and_then (renumber by (body_from due total ws)) (λ _ rest. read tt rest)
      ≡ on (polynomials_due due.modulus due.limit due.count) ws
  unfolding body_from
  body_walk due ws =
      then_then by (polynomials_from due.modulus due.limit due.count ws) _ _
      ∙ then_same (renumber by (polynomials_from due.modulus due.limit due.count ws)) (λ fs rest.
      then_then by (end_from total rest) _ _ ∙ end_walk rest)
      ∙ polynomials_walk due.modulus due.limit due.count ws

-- ---- the whole

module _ {H : Type 0} (head_from : List ℕ → Reading H) (due : H → Due) (T : HeadTable) (by : ℕ) where
  -- what is asked of a head: it is refused by its table, and says what the table says
  pub record HeadWalk : Type 0 where
    pub value : ℕ → H
    pub missing : head_from [] ≡ fault (4 + by) []
    pub word : (w : ℕ) (ws : List ℕ) → head_from (w ∷ ws) ≡ turned (T.number w) (w ∷ ws) (read (value w) ws)
    pub says : (w : ℕ) → due (value w) ≡ T.due w

  module _ (h : HeadWalk) where
    abbrev framed : H → List (List ℕ) → Framed H
    framed g fs = record { head = g; entries = fs }

    abbrev rest_from : ℕ → H → List ℕ → Reading (Framed H)
    rest_from total g rest =
        and_then (renumber by (body_from (due g) total rest)) (λ fs rest'. read (framed g fs) rest')

    rest_walk : (total : ℕ) (g : H) (ws : List ℕ) → forgotten (rest_from total g ws)
        ≡ walk T by total (polynomials_due (due g).modulus (due g).limit (due g).count) ws
    rest_walk total g ws =
        forgotten_map (renumber by (body_from (due g) total ws)) (λ (fs : List (List ℕ)). framed g fs)
        ∙ body_walk T by total (due g) ws

    by_number : (o : Option ℕ) (total w : ℕ) (ws : List ℕ)
        → forgotten (and_then (turned o (w ∷ ws) (read (h.value w) ws)) (rest_from total))
        ≡ turned o (w ∷ ws) (walk T by total (after T head w) ws)
    unfolding after
    by_number (some number) total w ws = refl
    by_number none total w ws =
        rest_walk total (h.value w) ws
        ∙ ap (λ (d : Due). walk T by total (polynomials_due d.modulus d.limit d.count) ws) (h.says w)

    pub framed_walk : (ws : List ℕ) → forgotten (framed_from by head_from due ws) ≡ walk T by (length ws) head ws
    unfolding framed_from walk number_at missing_at
    framed_walk [] = ap (λ (r : Reading H). forgotten (and_then r (rest_from 0))) h.missing
    framed_walk (w ∷ ws) =
        ap (λ (r : Reading H). forgotten (and_then r (rest_from (length (w ∷ ws))))) (h.word w ws)
        ∙ by_number (T.number w) (length (w ∷ ws)) w ws
