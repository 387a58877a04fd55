-- Rows, columns and sides of the definitions, as sums of products of slots.
use mathlib.Core.Path.{◌≡◌, refl, sym, ap, ap₂, ◌∙◌}
use mathlib.Core.List.{List, []}
use Prim.Native.Nat.{ℕ, ◌+◌, ◌*◌, ◌≤◌, ◌<◌}
use native.Mathlib.Nat.{mul-le-mul_right, suc-mul}
use native.Mathlib.Omega.{arith}
use lib.ListN.{get_or}
use Rattle.algebra.specs.Coefficients.{add, mul}
use Rattle.modular.specs.Modulo.{modulo}
use Rattle.modular.specs.Lists.{mul_comm}
use Rattle.words.specs.System.{entry, side_entry}
use Rattle.truth.specs.Solution.{total_modulo, row_of, column_of, side_of}
use Rattle.truth.specs.Listed.{listed_at, total_ext}
use Rattle.loader.specs.Slot.{slot}
use Rattle.loader.specs.Widths.{system_width, certificate_width}
use Rattle.check_conditions.specs.Products.{product}
use Rattle.check_conditions.specs.Walk.{RowFilled}
use Rattle.check_conditions.specs.Areas.{system_in_slots, vector_in, ValidDimensions, Loaded}
use Rattle.check_conditions.specs.declared.dimensions.Dimensions.{Dimensions}

-- the place of row i and column j
pub place_inside : {i j rows columns : ℕ} → i < rows → j < columns → i * columns + j < rows * columns
place_inside {i} {j} {rows} {columns} hi hj = omega (arith, mul-le-mul_right columns hi, suc-mul i columns)

module _ (l : Dimensions) (S C : List ℕ) where
  abbrev p : ℕ
  p = l.modulus.p

  pub entry_in : (i j : ℕ) → i < l.rows → j < l.columns → entry (system_in_slots l S) i j ≡ slot system_width S (i * l.columns + j)
  unfolding system_in_slots
  entry_in i j hi hj = listed_at (l.rows * l.columns) (slot system_width S) [] (i * l.columns + j) (place_inside hi hj)

  side_in : (i : ℕ) → i < l.rows → side_entry (system_in_slots l S) i ≡ slot system_width S (l.rows * l.columns + i)
  unfolding system_in_slots
  side_in i hi = listed_at l.rows (λ k. slot system_width S (l.rows * l.columns + k)) [] i hi

  pub vector_in_lem : (count start k : ℕ) → k < count → get_or (vector_in count start C) k [] ≡ slot certificate_width C (start + k)
  unfolding vector_in
  vector_in_lem count start k lt = listed_at count (λ i. slot certificate_width C (start + i)) [] k lt

  pub row_sum : (i : ℕ) → i < l.rows → total_modulo p l.columns (product p S (i * l.columns) 1 C 1)
      ≡ row_of (system_in_slots l S) (vector_in l.columns 1 C) i
  unfolding row_of system_in_slots product
  row_sum i hi = total_ext p l.columns _ _ (λ j hj.
      let e : i * l.columns + j * 1 ≡ i * l.columns + j = omega arith in
      ap₂ (mul (modulo p)) (ap (slot system_width S) e ∙ sym (entry_in i j hi hj)) (sym (vector_in_lem l.columns 1 j hj)))

  module _ {count : ℕ} (loaded : Loaded l count S C) where
    valid : ValidDimensions l
    valid = loaded.certificate.dimensions

    -- a product of slots with the certificate's polynomial first
    swapped : (a b k i : ℕ) → a ≡ k → k < l.rows * l.columns + l.rows → b ≡ i → i < count
        → mul (modulo p) (slot system_width S a) (slot certificate_width C b)
        ≡ mul (modulo p) (slot certificate_width C i) (slot system_width S k)
    swapped a b k i ea hk eb hi =
        ap₂ (λ (x y : ℕ). mul (modulo p) (slot system_width S x) (slot certificate_width C y)) ea eb
        ∙ mul_comm p valid.modulus.prime _ _ (loaded.system k hk).canonical (loaded.certificate.filled i hi).canonical

    module _ (i : ℕ) (hi : i < l.rows) where
      pub row_filled : RowFilled l S i
      row_filled j hj = loaded.system (i * l.columns + j) (omega (arith, place_inside hi hj))

      pub target_sum : 0 < count → total_modulo p 1 (product p S (l.rows * l.columns + i) 1 C 0)
          ≡ mul (modulo p) (slot certificate_width C 0) (side_entry (system_in_slots l S) i)
      unfolding total_modulo product add
      target_sum some =
          swapped (l.rows * l.columns + i + 0 * 1) (0 + 0) (l.rows * l.columns + i) 0 (omega arith) (omega arith) (omega arith)
          some
          ∙ ap (mul (modulo p) (slot certificate_width C 0)) (sym (side_in i hi))

    module _ (start : ℕ) (fits : start + l.rows ≤ count) where
      module _ (j : ℕ) (hj : j < l.columns) where
        pub column_sum : total_modulo p l.rows (product p S j l.columns C start)
            ≡ column_of (system_in_slots l S) (vector_in l.rows start C) j
        unfolding column_of system_in_slots product
        column_sum = total_ext p l.rows _ _ (λ i hi.
            swapped (j + i * l.columns) (start + i) (i * l.columns + j) (start + i) (omega arith)
            (omega (arith, place_inside hi hj)) refl (omega arith)
            ∙ ap₂ (mul (modulo p)) (sym (vector_in_lem l.rows start i hi)) (sym (entry_in i j hi hj)))

      pub side_sum : total_modulo p l.rows (product p S (l.rows * l.columns) 1 C start)
          ≡ side_of (system_in_slots l S) (vector_in l.rows start C)
      unfolding side_of system_in_slots product
      side_sum = total_ext p l.rows _ _ (λ i hi.
          swapped (l.rows * l.columns + i * 1) (start + i) (l.rows * l.columns + i) (start + i) (omega arith) (omega arith) refl
          (omega arith)
          ∙ ap₂ (mul (modulo p)) (sym (vector_in_lem l.rows start i hi)) (sym (side_in i hi)))
