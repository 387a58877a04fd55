-- Certificates that are right and not chosen, one for each thing that the choice decides; and two that are chosen.
use Rattle.std.specs.Prelude.{ℕ, zero, suc, ◌<◌, ◌≤◌, ◌≡◌, refl, List, [], ◌∷◌, length, get_or, replicate}
use Rattle.std.proofs.Common.{ap, arith}
use Rattle.ring.specs.Total.{total}
use Rattle.algebra.specs.Coefficients.{add, mul, leading, coefficient}
use Rattle.modular.specs.Modulo.{modulo}
use Rattle.modular.specs.Canonical.{Canonical}
use Rattle.modular.specs.Closed.{canonical_mul}
use Rattle.modular.specs.Coefficientwise.{coefficient_add}
use Rattle.modular.specs.Product.{coefficient_mul}
use Rattle.words.specs.System.{System}
use Rattle.words.specs.Outcome.{Outcome}
use Rattle.words.specs.Outcome.Outcome.{accepted}
use Rattle.words.specs.Certificate.{Certificate}
use Rattle.words.specs.Certificate.Certificate.{solution, absence}
use Rattle.truth.specs.Solution.{AllCanonical, DividesModulo, Clears, Monic, Denominator}
use Rattle.truth.specs.Solution.{total_modulo, row_of, column_of, side_of}
use Rattle.truth.specs.Right.{certified}
use Rattle.truth.specs.Lift.{canonical_at}
use Rattle.truth.specs.Verdict.{certificate_verdict}
use Rattle.truth.specs.Chosen.{ColumnRelation, PivotAt, ColumnPivot, ShortEntry, Chosen, combination_of}

-- polynomials modulo 2, and modulo 3
abbrev 𝟙 : List ℕ
𝟙 = 1 ∷ []

abbrev x : List ℕ
x = 0 ∷ 1 ∷ []

abbrev x² : List ℕ
x² = 0 ∷ 0 ∷ 1 ∷ []

abbrev x+1 : List ℕ
x+1 = 1 ∷ 1 ∷ []

canonical_𝟙 : Canonical 2 𝟙
unfolding Canonical
canonical_𝟙 = (omega arith, omega arith, tt)

canonical_x : Canonical 2 x
unfolding Canonical
canonical_x = (omega arith, tt, canonical_𝟙)

some : (f : List ℕ) → ¬ (f ≡ []) → 0 < length f
some [] ne = absurd (ne refl)
some (a ∷ f) ne = omega arith

-- ---- x·y = 1: d = x, N = 1, and z = 1/x

abbrev inverse : System
inverse = record { modulus = 2; rows = 1; columns = 1; matrix = x ∷ []; side = 𝟙 ∷ [] }

-- z as x/x²: w is not the denominator of z
abbrev in_x² : Certificate
in_x² = solution x (𝟙 ∷ []) x² (x ∷ [])

pub not_lowest : ¬ Chosen inverse in_x²
unfolding Chosen Clears Monic leading mul modulo
not_lowest C = absurd (omega (arith, C.lowest.least x canonical_x refl divides))
  where
    divides : (j : ℕ) → j < 1 → DividesModulo 2 x² (mul (modulo 2) x (get_or (x ∷ []) j []))
    divides zero h = record { quotient = 𝟙; canonical = canonical_𝟙; product = refl }
    divides (suc j) h = absurd (omega arith)

-- z = 1/x + 1: its entry is not short, whatever vector it is held to
abbrev plus_1 : Certificate
plus_1 = solution x (𝟙 ∷ []) x (x+1 ∷ [])

pub not_short : ¬ Chosen inverse plus_1
unfolding Chosen
not_short C =
    let s = C.short 0 (omega arith) (λ e. absurd (omega (arith, ap length e))) in
    absurd (omega (arith, s.short, some _ s.at.pivot.nonzero))

-- ---- y₀ + x·y₁ = 1: d = 1, N = (1, 0), and z = 0

abbrev wide : System
wide = record { modulus = 2; rows = 1; columns = 2; matrix = 𝟙 ∷ x ∷ []; side = 𝟙 ∷ [] }

-- 1·x + x·1 = 0 modulo 2
relation : ColumnRelation wide (x ∷ 𝟙 ∷ []) 1
unfolding row_of AllCanonical
relation = record {
  canonical = (canonical_x, (canonical_𝟙, tt));
  count = refl;
  rows = zeros;
  nonzero = λ e. absurd (omega (arith, ap length e));
  last = λ k h l. absurd (omega arith);
}
  where
    zeros : (i : ℕ) → i < 1 → row_of wide (x ∷ 𝟙 ∷ []) i ≡ []
    zeros zero h = refl
    zeros (suc i) h = absurd (omega arith)

-- N = (1 + x, 1), with this relation added: as long at the end as the relation
abbrev plus_relation : Certificate
plus_relation = solution 𝟙 (x+1 ∷ 𝟙 ∷ []) 𝟙 ([] ∷ [])

pub not_reduced : ¬ Chosen wide plus_relation
unfolding Chosen
not_reduced C = absurd (omega (arith, C.reduced 1 (omega arith) (x ∷ 𝟙 ∷ []) relation))

-- ---- x·y = 1 and x·y = 0: no solution, and q = (1, 1)

abbrev none : System
none = record { modulus = 2; rows = 2; columns = 1; matrix = x ∷ x ∷ []; side = 𝟙 ∷ [] ∷ [] }

-- q = (x, x): whichever entry stands at the new pivot, it is not the denominator
abbrev times_x : Certificate
times_x = absence (x ∷ x ∷ [])

pub not_primitive : ¬ Chosen none times_x
unfolding Chosen Clears Monic leading mul modulo
not_primitive C = go C.at C.added.pivot.inside C.lowest
  where
    divides : (j : ℕ) → j < 2 → DividesModulo 2 x (mul (modulo 2) 𝟙 (get_or (x ∷ x ∷ []) j []))
    divides zero h = record { quotient = 𝟙; canonical = canonical_𝟙; product = refl }
    divides (suc zero) h = record { quotient = 𝟙; canonical = canonical_𝟙; product = refl }
    divides (suc (suc j)) h = absurd (omega arith)

    go : (at : ℕ) → at < 2 → Denominator 2 (x ∷ x ∷ []) (get_or (x ∷ x ∷ []) at []) (get_or (x ∷ x ∷ []) at []) → ⊥
    go zero h D = absurd (omega (arith, D.least 𝟙 canonical_𝟙 refl divides))
    go (suc zero) h D = absurd (omega (arith, D.least 𝟙 canonical_𝟙 refl divides))
    go (suc (suc at)) h D = absurd (omega arith)

-- ---- modulo 3, x·y = 1: d = x, N = 1, and z = 1/x

abbrev inverse₃ : System
inverse₃ = record { modulus = 3; rows = 1; columns = 1; matrix = x ∷ []; side = 𝟙 ∷ [] }

canonical_x₃ : Canonical 3 x
unfolding Canonical
canonical_x₃ = (omega arith, tt, (omega arith, omega arith, tt))

-- z = 2/x: d·(Z·b) = 2·x, and x + t·x² has 1 at x, whatever t is
abbrev doubled : Certificate
doubled = solution x (𝟙 ∷ []) x ((2 ∷ []) ∷ [])

pub not_inverted : ¬ Chosen inverse₃ doubled
unfolding Chosen side_of total_modulo mul modulo coefficient total
not_inverted C =
    let t = C.inverts.whole in
    let none = coefficient_mul 3 (omega arith) t x² 1 in
    let sum = coefficient_add 3 (omega arith) x (mul (modulo 3) t x²) 1 canonical_x₃ (canonical_mul 3 (omega arith) t x²) in
    absurd (omega (arith, ap (λ f. coefficient (modulo 3) f 1) C.inverts.equal, sum, none))

-- ---- modulo 3, 0·y = 1 twice: no solution, and q = (1, 0)

abbrev twice : System
twice = record { modulus = 3; rows = 2; columns = 1; matrix = [] ∷ [] ∷ []; side = 𝟙 ∷ 𝟙 ∷ [] }

-- q = (1, 1): whichever is the new pivot, the other entry is at no pivot of A
abbrev both : Certificate
both = absence (𝟙 ∷ 𝟙 ∷ [])

pub not_supported : ¬ Chosen twice both
unfolding Chosen combination_of row_of total_modulo add mul modulo
not_supported C = go C.at C.added.pivot.inside C.support
  where
    no_pivot : (i : ℕ) → i < 2 → ¬ ColumnPivot twice i
    no_pivot zero h P = P.pivot.nonzero refl
    no_pivot (suc zero) h P = P.pivot.nonzero refl
    no_pivot (suc (suc i)) h P = absurd (omega arith)

    some_𝟙 : ¬ (𝟙 ≡ [])
    some_𝟙 e = absurd (omega (arith, ap length e))

    go : (at : ℕ) → at < 2
        → ((i : ℕ) → i < 2 → ¬ (i ≡ at) → ¬ (get_or (𝟙 ∷ 𝟙 ∷ []) i [] ≡ []) → ColumnPivot twice i) → ⊥
    go zero h support = no_pivot 1 (omega arith) (support 1 (omega arith) (λ e. absurd (omega arith)) some_𝟙)
    go (suc zero) h support = no_pivot 0 (omega arith) (support 0 (omega arith) (λ e. absurd (omega arith)) some_𝟙)
    go (suc (suc at)) h support = absurd (omega arith)

-- ---- modulo 3, 0·y = 1: no solution, and q = 1

abbrev never : System
never = record { modulus = 3; rows = 1; columns = 1; matrix = [] ∷ []; side = 𝟙 ∷ [] }

-- q = 2: not monic at the new pivot
abbrev times_2 : Certificate
times_2 = absence ((2 ∷ []) ∷ [])

pub not_monic : ¬ Chosen never times_2
unfolding Chosen Monic leading modulo
not_monic C = go C.at C.added.pivot.inside C.lowest.monic
  where
    go : (at : ℕ) → at < 1 → Monic 3 (get_or ((2 ∷ []) ∷ []) at []) → ⊥
    go zero h m = absurd (omega arith)
    go (suc at) h m = absurd (omega arith)

-- ---- all are right

abbrev verdicts : List (Outcome (Unit {0}))
verdicts =
    certificate_verdict inverse in_x² ∷ certificate_verdict inverse plus_1 ∷ certificate_verdict wide plus_relation
    ∷ certificate_verdict none times_x ∷ certificate_verdict inverse₃ doubled ∷ certificate_verdict twice both
    ∷ certificate_verdict never times_2 ∷ []

pub all_accepted : verdicts ≡ replicate 7 (accepted tt)
unfolding certificate_verdict
all_accepted = refl

-- ---- chosen: z = 1/x for x·y = 1, which is case 1 of document 01

-- x·a = 0 only for a = 0
relation_long : (f : List ℕ) → Canonical 2 f → ¬ (f ≡ []) → mul (modulo 2) x f ≡ [] → 1 < length f
unfolding Canonical mul modulo coefficient total
relation_long [] hf ne z = absurd (ne refl)
relation_long (a ∷ []) hf ne z =
    absurd (omega (arith, coefficient_mul 2 (omega arith) x (a ∷ []) 1, ap (λ f. coefficient (modulo 2) f 1) z, hf.0, hf.1))
relation_long (a ∷ b ∷ f) hf ne z = omega arith

-- a constant times 1 is no multiple of x
clears_long : (f : List ℕ) → Canonical 2 f → Monic 2 f → Clears 2 f (𝟙 ∷ []) x → 2 ≤ length f
unfolding Clears Monic leading mul modulo coefficient total
clears_long [] hf m c = absurd (omega arith)
clears_long (a ∷ []) hf m c =
    let d = c 0 (omega arith) in
    absurd (omega (
      arith,
      ap (λ f. coefficient (modulo 2) f 0) d.product,
      coefficient_mul 2 (omega arith) (a ∷ []) 𝟙 0,
      coefficient_mul 2 (omega arith) d.quotient x 0,
    ))
clears_long (a ∷ b ∷ f) hf m c = omega arith

pub case_1_chosen : Chosen inverse (solution x (𝟙 ∷ []) x (𝟙 ∷ []))
unfolding Canonical Chosen Clears Monic AllCanonical combination_of certified row_of column_of side_of total_modulo leading add mul
    modulo
case_1_chosen = record {
  proper = record {
    denominator = canonical_x;
    numerators = (canonical_𝟙, tt);
    count = refl;
    certifying_denominator = canonical_x;
    certifying_numerators = (canonical_𝟙, tt);
  };
  count = refl;
  right = record { monic = refl; certifying_monic = refl; rows = rows; columns = columns; denominators = refl };
  reduced = reduced;
  inverts = record { whole = []; canonical = tt; equal = refl };
  short = short;
  lowest = record { canonical = canonical_x; monic = refl; clears = clears; least = clears_long };
}
  where
    rows : (i : ℕ) → i < 1 → row_of inverse (𝟙 ∷ []) i ≡ mul (modulo 2) x (get_or (𝟙 ∷ []) i [])
    rows zero h = refl
    rows (suc i) h = absurd (omega arith)

    columns : (j : ℕ) → j < 1 → DividesModulo 2 x (column_of inverse (𝟙 ∷ []) j)
    columns zero h = record { quotient = 𝟙; canonical = canonical_𝟙; product = refl }
    columns (suc j) h = absurd (omega arith)

    reduced : (j : ℕ) → j < 1 → (v : List (List ℕ)) → ColumnRelation inverse v j
        → length (get_or (𝟙 ∷ []) j []) < length (get_or v j [])
    reduced zero h v X = relation_long (get_or v 0 []) (canonical_at 2 v X.canonical 0) X.nonzero (X.rows 0 (omega arith))
    reduced (suc j) h v X = absurd (omega arith)

    short : (i : ℕ) → i < 1 → ¬ (get_or (𝟙 ∷ []) i [] ≡ []) → ShortEntry inverse x (𝟙 ∷ []) i
    short zero h ne = record {
      at = record { parts = [] ∷ []; part = 𝟙; pivot = pivot };
      short = omega arith;
    }
      where
        longest : (k : ℕ) → k < 1 → length (combination_of inverse ([] ∷ []) 𝟙 k) ≤ 1
        longest zero h = omega arith
        longest (suc k) h = absurd (omega arith)

        pivot : PivotAt inverse ([] ∷ []) 𝟙 0
        pivot = record {
          parts = (tt, tt);
          count = refl;
          part = canonical_𝟙;
          inside = omega arith;
          nonzero = λ e. absurd (omega (arith, ap length e));
          before = λ k l. absurd (omega arith);
          longest = longest;
        }
    short (suc i) h ne = absurd (omega arith)

    clears : (j : ℕ) → j < 1 → DividesModulo 2 x (mul (modulo 2) x (get_or (𝟙 ∷ []) j []))
    clears zero h = record { quotient = 𝟙; canonical = canonical_𝟙; product = refl }
    clears (suc j) h = absurd (omega arith)

-- ---- chosen: q = 1 for 0·y = 1 modulo 3

canonical_𝟙₃ : Canonical 3 𝟙
unfolding Canonical
canonical_𝟙₃ = (omega arith, omega arith, tt)

pub never_chosen : Chosen never (absence (𝟙 ∷ []))
unfolding Canonical Chosen Clears Monic AllCanonical combination_of row_of column_of side_of total_modulo leading add mul modulo
never_chosen = record {
  proper = (canonical_𝟙₃, tt);
  count = refl;
  right = record { columns = columns; side = some_side };
  at = 0;
  added = record {
    parts = [] ∷ [];
    part = 𝟙;
    pivot = record {
      parts = (tt, tt);
      count = refl;
      part = canonical_𝟙₃;
      inside = omega arith;
      nonzero = λ e. absurd (omega (arith, ap length e));
      before = λ k l. absurd (omega arith);
      longest = longest;
    };
  };
  new = λ P. P.pivot.nonzero refl;
  support = λ i l ne nz. absurd (ne (omega arith));
  lowest = record { canonical = canonical_𝟙₃; monic = refl; clears = clears; least = least };
}
  where
    columns : (j : ℕ) → j < 1 → column_of never (𝟙 ∷ []) j ≡ []
    columns zero h = refl
    columns (suc j) h = absurd (omega arith)

    some_side : ¬ (side_of never (𝟙 ∷ []) ≡ [])
    some_side e = absurd (omega (arith, ap length e))

    longest : (k : ℕ) → k < 1 → length (combination_of never ([] ∷ []) 𝟙 k) ≤ 1
    longest zero h = omega arith
    longest (suc k) h = absurd (omega arith)

    clears : (j : ℕ) → j < 1 → DividesModulo 3 𝟙 (mul (modulo 3) 𝟙 (get_or (𝟙 ∷ []) j []))
    clears zero h = record { quotient = 𝟙; canonical = canonical_𝟙₃; product = refl }
    clears (suc j) h = absurd (omega arith)

    least : (f : List ℕ) → Canonical 3 f → Monic 3 f → Clears 3 f (𝟙 ∷ []) 𝟙 → 1 ≤ length f
    least [] hf m c = absurd (omega arith)
    least (a ∷ f) hf m c = omega arith
