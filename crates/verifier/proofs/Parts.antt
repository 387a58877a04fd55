-- The parts of a certificate in the area that it was loaded into.
use mathlib.Core.Path.{◌≡◌, ap, ◌∙◌}
use mathlib.Core.List.{List, [], ◌∷◌, ◌++◌}
use Prim.Native.Nat.{ℕ, suc, ◌+◌}
use native.Mathlib.Nat.{zero-add}
use native.Mathlib.Omega.{arith}
use lib.ListN.{length, get_or, length-append, get_or-append}
use lib.Seq.{get_or-append-add, get_or_at}
use Rattle.words.specs.System.{System}
use Rattle.truth.specs.Verdict.{solution_verdict}
use Rattle.loader.specs.Slot.{slot, InSlots}
use Rattle.loader.specs.Widths.{certificate_width}
use Rattle.check_conditions.specs.Areas.{vector_in}
use Rattle.check_conditions.specs.AreaLaws.{vector_is}

module _ (columns rows : ℕ) (area d : List ℕ) (N : List (List ℕ)) (w : List ℕ) (Z : List (List ℕ)) (e_N : length N ≡ columns)
    (e_Z : length Z ≡ rows)
    (stands : InSlots certificate_width area (d ∷ N ++ w ∷ Z)) where
  entries_count : length (d ∷ N ++ w ∷ Z) ≡ columns + 2 + rows
  entries_count = omega (arith, length-append N (w ∷ Z))

  denominator_is : slot certificate_width area 0 ≡ d
  denominator_is = stands.slots 0 (omega (arith, entries_count))

  numerators_is : vector_in columns 1 area ≡ N
  numerators_is =
      vector_is area (d ∷ N ++ w ∷ Z) N columns 1 stands e_N (omega (arith, entries_count)) (λ k lt.
      let next : 1 + k ≡ suc k = omega arith in
      ap (λ (i : ℕ). get_or (d ∷ N ++ w ∷ Z) i []) next ∙ get_or-append N (w ∷ Z) [] k (omega arith))

  certifying_denominator_is : slot certificate_width area (columns + 1) ≡ w
  certifying_denominator_is =
      stands.slots (columns + 1) (omega (arith, entries_count)) ∙ get_or_at (d ∷ N) w Z [] (columns + 1) (omega arith)

  certifying_numerators_is : vector_in rows (columns + 2) area ≡ Z
  certifying_numerators_is =
      vector_is area (d ∷ N ++ w ∷ Z) Z rows (columns + 2) stands e_Z (omega (arith, entries_count)) (λ k lt.
      let next : columns + 2 + k ≡ length (d ∷ N) + suc k = omega arith in
      ap (λ (i : ℕ). get_or (d ∷ N ++ w ∷ Z) i []) next ∙ get_or-append-add (d ∷ N) (w ∷ Z) (suc k) [])

  pub solution_is : (s : System)
      → solution_verdict s (slot certificate_width area 0) (vector_in columns 1 area) (slot certificate_width area (columns + 1))
      (vector_in rows (columns + 2) area) ≡ solution_verdict s d N w Z
  solution_is s = rw (denominator_is, numerators_is, certifying_denominator_is, certifying_numerators_is)

pub absence_is : (rows : ℕ) (area : List ℕ) (q : List (List ℕ)) → length q ≡ rows → InSlots certificate_width area q
    → vector_in rows 0 area ≡ q
absence_is rows area q e stands =
    vector_is area q q rows 0 stands e (omega arith) (λ k lt. ap (λ (i : ℕ). get_or q i []) (zero-add k))
