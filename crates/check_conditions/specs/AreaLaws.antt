-- The values in areas: what stands in the slots is what was loaded.
use Rattle.std.specs.Prelude.{◌≡◌, List, [], ◌++◌, get_or}
use Rattle.std.proofs.Math.Path.{sym, ap₂}
use Rattle.std.proofs.Common.{ap, ◌∙◌, arith, length-append, get_or-append-add}
use Prim.Native.Nat.{ℕ, ◌+◌, ◌*◌, ◌≤◌, ◌<◌}
use Rattle.std.proofs.Math.ListN.{length, get_or-append}
use Rattle.words.specs.System.{System}
use Rattle.truth.specs.Listed.{listed, listed_is}
use Rattle.loader.specs.Slot.{slot, InSlots}
use Rattle.loader.specs.Widths.{system_width, certificate_width}
use Rattle.check_conditions.specs.Areas.{system_in_slots, vector_in}
use Rattle.check_conditions.specs.declared.dimensions.Dimensions.{Dimensions}

-- some polynomials in a row among all that were loaded
pub vector_is : (area : List ℕ) (all fs : List (List ℕ)) (count start : ℕ) → InSlots certificate_width area all → length fs ≡ count
    → start + count ≤ length all
    → ((k : ℕ) → k < count → get_or all (start + k) [] ≡ get_or fs k []) → vector_in count start area ≡ fs
unfolding vector_in
vector_is area all fs count start stands long inside same =
    listed_is count (λ k. slot certificate_width area (start + k)) fs [] long
    (λ k lt. stands.slots (start + k) (omega arith) ∙ same k lt)

module _ (l : Dimensions) (area : List ℕ) (s : System) (stands : InSlots system_width area (s.matrix ++ s.side)) where
  matrix_is : length s.matrix ≡ l.rows * l.columns → listed (l.rows * l.columns) (slot system_width area) ≡ s.matrix
  matrix_is e =
      listed_is (l.rows * l.columns) (slot system_width area) s.matrix [] e (λ k lt.
      stands.slots k (omega (arith, length-append s.matrix s.side))
      ∙ get_or-append s.matrix s.side [] k (omega arith))

  side_is : length s.matrix ≡ l.rows * l.columns → length s.side ≡ l.rows
      → listed l.rows (λ i. slot system_width area (l.rows * l.columns + i)) ≡ s.side
  side_is e f =
      listed_is l.rows (λ i. slot system_width area (l.rows * l.columns + i)) s.side [] f (λ k lt.
      stands.slots (l.rows * l.columns + k) (omega (arith, length-append s.matrix s.side))
      ∙ ap (λ (n : ℕ). get_or (s.matrix ++ s.side) (n + k) []) (sym e)
      ∙ get_or-append-add s.matrix s.side k [])

  pub system_is : l.modulus.p ≡ s.modulus → l.rows ≡ s.rows → l.columns ≡ s.columns
      → length s.matrix ≡ s.rows * s.columns
      → length s.side ≡ s.rows → system_in_slots l area ≡ s
  unfolding system_in_slots
  system_is ep en em e_A eb =
      let places : length s.matrix ≡ l.rows * l.columns = e_A ∙ ap₂ ◌*◌ (sym en) (sym em) in
      let e_A' = matrix_is places in
      let eb' = side_is places (eb ∙ sym en) in
      rw (e_A', eb', ep, en, em)
