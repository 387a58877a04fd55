-- What is carried of a column of Z·A is the remainder by w of the sum of products so far, after every row.
use Rattle.std.specs.Prelude.{◌≡◌, List, [], length, get_or}
use Rattle.std.proofs.Math.Path.{refl, sym, ap}
use Rattle.std.proofs.Common.{◌∙◌, add-one, arith}
use Prim.Native.Nat.{ℕ, zero, suc, ◌+◌, ◌<◌}
use Rattle.algebra.specs.Coefficients.{add, divide, remainder}
use Rattle.modular.specs.Prime.{Prime}
use Rattle.modular.specs.Modulo.{modulo}
use Rattle.modular.specs.Canonical.{Canonical}
use Rattle.modular.specs.Closed.{canonical_nil, canonical_add, canonical_mul, canonical_remainder}
use Rattle.modular.specs.Lists.{length_remainder, remainder_short, remainder_add}
use Rattle.words.specs.System.{System, entry}
use Rattle.truth.specs.Solution.{total_modulo}
use Rattle.check_conditions.specs.Walk.{column_term, column_so_far, take_along, carried_after, TakesRow, Carries}

-- ---- "What is carried is shown to be, after every row, the remainder by w of the sum of products so far."

module _ (s : System) (prime : Prime s.modulus) (w : List ℕ) (canonical : Canonical s.modulus w) (some : 0 < length w)
    (Z : List (List ℕ)) (j : ℕ) where
  abbrev p : ℕ
  p = s.modulus

  positive : 0 < p
  positive = omega (arith, prime.large)

  canonical_so_far : (n : ℕ) → Canonical p (column_so_far s Z j n)
  unfolding column_so_far total_modulo
  canonical_so_far zero = canonical_nil p
  canonical_so_far (suc n) =
      canonical_add p positive (column_so_far s Z j n) (column_term s Z j n) (canonical_so_far n)
      (canonical_mul p positive (get_or Z n []) (entry s n j))

  -- one row more
  pub carried_on : (n : ℕ) (r : List ℕ) → r ≡ remainder (modulo p) (column_so_far s Z j n) w
      → take_along p w r (column_term s Z j n) ≡ remainder (modulo p) (column_so_far s Z j (suc n)) w
  unfolding column_so_far total_modulo take_along
  carried_on n r is =
      let S = column_so_far s Z j n in
      let f = column_term s Z j n in
      let h_S = canonical_so_far n in
      let hf = canonical_mul p positive (get_or Z n []) (entry s n j) in
      let rest = remainder (modulo p) S w in
      let hr = canonical_remainder p positive S w h_S in
      ap (λ c. remainder (modulo p) (add (modulo p) c f) w) is
      ∙ remainder_add p prime rest f w hr hf canonical some
      ∙ ap (λ c. add (modulo p) c (remainder (modulo p) f w))
      (remainder_short p prime rest w hr canonical (length_remainder p prime S w h_S canonical some))
      ∙ sym (remainder_add p prime S f w h_S hf canonical some)

  -- any number of rows
  pub carried_remainder : (n : ℕ) → carried_after s w Z j n ≡ remainder (modulo p) (column_so_far s Z j n) w
  unfolding column_so_far total_modulo carried_after divide
  carried_remainder zero = refl
  carried_remainder (suc n) = carried_on n (carried_after s w Z j n) (carried_remainder n)

-- so it is after every row, if it was before
pub carries_on : (s : System) → Prime s.modulus → (w : List ℕ) → Canonical s.modulus w → 0 < length w
    → (Z : List (List ℕ)) (i : ℕ) (before after : List ℕ) → Carries s w Z i before → TakesRow s w Z i before after
    → Carries s w Z (i + 1) after
carries_on s prime w canonical some Z i before after so_far takes = record {
  remainders = λ j lt.
      takes.along j lt
      ∙ carried_on s prime w canonical some Z j i _ (so_far.remainders j lt)
      ∙ ap (λ n. remainder (modulo s.modulus) (column_so_far s Z j n) w) (sym (add-one i));
  sums = takes.sums;
}
