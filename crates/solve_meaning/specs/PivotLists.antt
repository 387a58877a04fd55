-- Relations and pivots, of which `Chosen` speaks: those of lists are those of polynomials over the residues.
use Rattle.std.specs.Prelude.{ℕ, ◌<◌, ◌≡◌, refl, List, [], ◌∷◌, length, get_or}
use Rattle.std.proofs.Math.Path.{sym, ap₂}
use Rattle.std.proofs.Common.{◌∙◌, ap, arith}
use Rattle.ring.specs.Ring.{Ring}
use Rattle.ring.specs.Sum.{sum}
use Rattle.ring.specs.Identity.{quotes, identity}
use Rattle.ring.specs.Combination.{given, combination}
use Rattle.algebra.specs.Field.{Field}
use Rattle.algebra.specs.Coefficients
use Rattle.algebra.specs.Polynomial.{Polynomial, polynomials}
use Rattle.algebra.specs.Size.{size, sized}
use Rattle.algebra.specs.Sized.{size_positive}
use Rattle.modular.specs.Prime.{Prime}
use Rattle.modular.specs.Modulo.{modulo}
use Rattle.modular.specs.Residue.{Residue, residues}
use Rattle.reduction.specs.System.{LinearSystem}
use Rattle.reduction.specs.Pivot.{Pivot}
use Rattle.reduction.specs.Slots.{unweighted}
use Rattle.reduction.specs.Numerators.{Relation}
use Rattle.reduction.specs.Killing.{PivotOf}
use Rattle.words.specs.Limits.{Limits}
use Rattle.words.specs.System.{System, SystemWithin}
use Rattle.truth.specs.Listed.{length_listed}
use Rattle.truth.specs.Chosen.{ColumnRelation, PivotAt, ColumnPivot, combination_of}
use Rattle.solve_meaning.specs.Lists
use Rattle.solve_meaning.specs.Lists.{list_of}
use Rattle.solve_meaning.specs.Vectors
use Rattle.solve_meaning.specs.Vectors.{lists, polynomial_modulo, vector_modulo}
use Rattle.solve_meaning.specs.Equations.{equated, side_list}
use Rattle.solve_meaning.specs.RightLists.{row_is}

module _ (limits : Limits) (s : System) (h : SystemWithin limits s) where
  abbrev p : ℕ
  p = s.modulus

  abbrev prime : Prime s.modulus
  prime = h.shape.prime

  abbrev F : Field (Residue s.modulus)
  F = residues s.modulus h.shape.prime

  abbrev Q : Type 0
  Q = Polynomial (residues s.modulus h.shape.prime)

  abbrev R : Ring (Polynomial (residues s.modulus h.shape.prime))
  R = polynomials (residues s.modulus h.shape.prime)

  abbrev T : LinearSystem (sized (residues s.modulus h.shape.prime))
  T = equated limits s h

  abbrev list : Q → List ℕ
  list = list_of s.modulus h.shape.prime

  -- the list is as long as the polynomial
  pub long : {f : List ℕ} (x : Q) → f ≡ list x → length f ≡ size F x
  long x e = ap length e ∙ Lists.list_length p prime x

  -- zero as a list, zero as a polynomial
  pub none : {f : List ℕ} {x : Q} → f ≡ list x → f ≡ [] → x ≡ R.zero
  none {f} {x} e z = Lists.list_none p prime x (sym e ∙ z)

  pub empty : {f : List ℕ} {x : Q} → f ≡ list x → x ≡ R.zero → f ≡ []
  empty {f} {x} e z = e ∙ ap list z ∙ Lists.list_zero p prime

  -- ---- relations

  pub relation_in : {v : List (List ℕ)} {j : ℕ} (X : ColumnRelation s v j)
      → Relation (sized F) s.rows s.columns T.matrix j (vector_modulo p prime v X.canonical)
  relation_in {v} {j} X = record {
    kills = λ i k. none (row_is limits s h x v (λ j l. Vectors.vector_list p prime v X.canonical j) i) (X.rows i k);
    last = λ k g l. none (Vectors.vector_list p prime v X.canonical k) (X.last k g l);
  }
    where
      x : ℕ → Q
      x = vector_modulo p prime v X.canonical

  pub relation_out : {x : ℕ → Q} {j : ℕ} → j < s.columns → ¬ (x j ≡ R.zero)
      → Relation (sized F) s.rows s.columns T.matrix j x → ColumnRelation s (lists p prime s.columns x) j
  relation_out {x} {j} inside ne X = record {
    canonical = Vectors.lists_canonical p prime s.columns x;
    count = length_listed s.columns (λ k. list (x k));
    rows = λ i k. empty (row_is limits s h x (lists p prime s.columns x) at i) (X.kills i k);
    nonzero = λ z. ne (none (at j inside) z);
    last = λ k g l. empty (at k l) (X.last k g l);
  }
    where
      at : (k : ℕ) → k < s.columns → get_or (lists p prime s.columns x) k [] ≡ list (x k)
      at = Vectors.lists_at p prime s.columns x

  -- ---- pivots

  -- A·u + c·b
  abbrev vector : (ℕ → Q) → Q → ℕ → Q
  vector u c k = R.add (sum R s.columns (λ j. R.mul (T.matrix k j) (u j))) (R.mul c (T.side k))

  combined_is : (u : ℕ → Q) (c : Q) (us : List (List ℕ)) (f : List ℕ) → ((j : ℕ) → j < s.columns → get_or us j [] ≡ list (u j))
      → f ≡ list c → (k : ℕ) → combination_of s us f k ≡ list (vector u c k)
  unfolding combination_of
  combined_is u c us f eu ec k =
      ap₂ (Coefficients.add (modulo p)) (row_is limits s h u us eu k)
      (ap₂ (Coefficients.mul (modulo p)) ec (sym (side_list limits s h k)) ∙ sym (Lists.list_mul p prime c (T.side k)))
      ∙ sym (Lists.list_add p prime (sum R s.columns (λ j. R.mul (T.matrix k j) (u j))) (R.mul c (T.side k)))

  pub pivot_in : {us : List (List ℕ)} {f : List ℕ} {i : ℕ} (P : PivotAt s us f i)
      → Pivot (sized F) s.rows unweighted (vector (vector_modulo p prime us P.parts) (polynomial_modulo p prime f P.part))
      i (length (combination_of s us f i))
  pivot_in {us} {f} {i} P = record {
    inside = P.inside;
    positive = size_positive (sized F) (v i) (λ z. P.nonzero (empty (is i) z));
    reached = omega (arith, same i);
    before = λ k l. omega (arith, same k, P.before k l);
    all = λ k l. omega (arith, same k, P.longest k l);
  }
    where
      v : ℕ → Q
      v = vector (vector_modulo p prime us P.parts) (polynomial_modulo p prime f P.part)

      is : (k : ℕ) → combination_of s us f k ≡ list (v k)
      is = combined_is (vector_modulo p prime us P.parts) (polynomial_modulo p prime f P.part) us f
          (λ j l. Vectors.vector_list p prime us P.parts j) (Vectors.polynomial_list p prime f P.part)

      same : (k : ℕ) → length (combination_of s us f k) ≡ size F (v k)
      same k = long (v k) (is k)

  module _ (u : ℕ → Q) (c : Q) {x : ℕ → Q} (e : (k : ℕ) → k < s.rows → x k ≡ vector u c k) {i l : ℕ}
      (P : Pivot (sized F) s.rows unweighted x i l) (f : List ℕ) (ec : f ≡ list c) where
    abbrev us : List (List ℕ)
    us = lists p prime s.columns u

    is : (k : ℕ) → k < s.rows → combination_of s us f k ≡ list (x k)
    is k g = combined_is u c us f (Vectors.lists_at p prime s.columns u) ec k ∙ ap list (sym (e k g))

    pub pivot_length : length (combination_of s (lists p prime s.columns u) f i) ≡ l
    pivot_length = omega (arith, long (x i) (is i P.inside), P.reached)

    pub pivot_out : PivotAt s (lists p prime s.columns u) f i
    pivot_out = record {
      parts = Vectors.lists_canonical p prime s.columns u;
      count = length_listed s.columns (λ k. list (u k));
      part = rw ec (Lists.list_canonical p prime c);
      inside = P.inside;
      nonzero = λ z. absurd (omega (arith, long (x i) (is i P.inside), ap length z, P.positive));
      before = λ k g. omega (
        arith,
        pivot_length,
        long (x k) (is k (omega (arith, P.inside))),
        P.before k g,
        P.positive,
        P.reached,
      );
      longest = λ k g. omega (arith, pivot_length, long (x k) (is k g), P.all k g);
    }

  -- of the columns alone: the part of b is zero
  without : (u : ℕ → Q) (c : Q) → c ≡ R.zero → (k : ℕ) → sum R s.columns (λ j. R.mul (T.matrix k j) (u j)) ≡ vector u c k
  without u c z k = combination R y (vector u c k) (given (R.neg (T.side k)) z ∷ [])
      (identity R (y ∷ c ∷ T.side k ∷ []) (λ ρ q1 q2 q3. search quotes depth 16) refl)
    where
      y : Q
      y = sum R s.columns (λ j. R.mul (T.matrix k j) (u j))

  pub column_pivot_in : {i : ℕ} → ColumnPivot s i → PivotOf (sized F) s.rows s.columns T.matrix T.side i
  column_pivot_in {i} P = record {
    vector = vector u c;
    parts = u;
    equal = λ k l. sym (without u c (none (Vectors.polynomial_list p prime [] P.pivot.part) refl) k);
    length = length (combination_of s P.parts [] i);
    pivot = pivot_in P.pivot;
  }
    where
      u : ℕ → Q
      u = vector_modulo p prime P.parts P.pivot.parts

      c : Q
      c = polynomial_modulo p prime [] P.pivot.part

  pub column_pivot_out : {i : ℕ} → PivotOf (sized F) s.rows s.columns T.matrix T.side i → ColumnPivot s i
  column_pivot_out {i} P = record {
    parts = lists p prime s.columns P.parts;
    pivot = pivot_out P.parts R.zero (λ k l. P.equal k l ∙ without P.parts R.zero refl k) P.pivot []
        (sym (Lists.list_zero p prime));
  }
