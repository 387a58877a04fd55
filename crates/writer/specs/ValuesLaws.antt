-- The values that arrays stand for: the polynomials of a system or a certificate in written order, where those of one line lie, and
-- how large their numbers are.
use Rattle.std.specs.Prelude.{◌≡◌}
use Rattle.std.proofs.Math.Path.{refl, ap}
use Rattle.std.proofs.Common.{sym, ◌∙◌, get_or-take, get_or-drop}
use mathlib.Core.List.{List, [], ◌∷◌, ◌++◌}
use Prim.Native.Nat.{ℕ, suc, ◌+◌, ◌*◌, ◌≤◌, ◌<◌}
use Rattle.std.proofs.Math.Nat.{mul-le-mul_right}
use native.Mathlib.Omega.{arith}
use Rattle.modular.specs.Canonical.{Canonical}
use Rattle.words.specs.Word.{AllBelow}
use Rattle.words.specs.Limits.{Limits, system_count}
use Rattle.words.specs.System.{Shape, entry, side_entry}
use Rattle.words.specs.Systems.{Head, systems_entries, line}
use Rattle.words.specs.Certificate.{Form, certificate_form, certificate_entries, entry_count}
use Rattle.words.specs.Certificate.Form.{solving, absent}
use Rattle.words.proofs.WidthLaws.{below_nil, below_cons}
use Rattle.write_frame.specs.Values.{polynomial_in, polynomials_in}
use Rattle.write_frame.specs.ValuesLaws.{get_or_polynomials_in, polynomials_in_append}
use Rattle.writer.specs.Values.{system_in_arrays, certificate_in, certificate_stride}

module _ (limits : Limits) (h : Head) (sizes coefficients : List ℕ) where
  pub system_in_head : (system_in_arrays limits h sizes coefficients).head ≡ h
  unfolding system_in_arrays
  system_in_head = refl

  pub system_in_entries : systems_entries (system_in_arrays limits h sizes coefficients)
      ≡ polynomials_in limits.system_coefficients sizes coefficients 0
      (system_count h.shape.rows h.shape.columns h.sides)
  unfolding system_in_arrays
  system_in_entries =
      let room = limits.system_coefficients in
      let A = h.shape.rows * h.shape.columns in
      let right = h.sides * h.shape.rows in
      let e : A ≡ 0 + A = omega arith in
      ap (λ (k : ℕ). polynomials_in room sizes coefficients 0 A ++ polynomials_in room sizes coefficients k right) e
      ∙ polynomials_in_append room sizes coefficients 0 A right

  -- the polynomials of line k: A's at row i, column j; behind A and the right sides before it, that of right side k at row i
  abbrev in_array : ℕ → List ℕ
  in_array = polynomial_in limits.system_coefficients sizes coefficients

  pub entry_in : (k i j : ℕ) → i < h.shape.rows → j < h.shape.columns
      → entry (line (system_in_arrays limits h sizes coefficients) k) i j ≡ in_array (i * h.shape.columns + j)
  unfolding line system_in_arrays
  entry_in k i j row column =
      let m = h.shape.columns in
      let below : i + 1 ≤ h.shape.rows = omega arith in
      let e : 0 + (i * m + j) ≡ i * m + j = omega arith in
      get_or_polynomials_in limits.system_coefficients sizes coefficients 0 (h.shape.rows * m) (i * m + j)
      (omega (arith, mul-le-mul_right m below))
      ∙ ap in_array e

  pub side_in : (k i : ℕ) → k < h.sides → i < h.shape.rows
      → side_entry (line (system_in_arrays limits h sizes coefficients) k) i
      ≡ in_array (h.shape.rows * h.shape.columns + (k * h.shape.rows + i))
  unfolding line system_in_arrays
  side_in k i has row =
      let n = h.shape.rows in
      let below : k + 1 ≤ h.sides = omega arith in
      rw (get_or-take, get_or-drop)
      (get_or_polynomials_in limits.system_coefficients sizes coefficients (n * h.shape.columns) (h.sides * n) (k * n + i)
      (omega (arith, mul-le-mul_right n below)))

module _ (h : Shape) (sizes coefficients : List ℕ) where
  pub certificate_in_form : (form : Form) → certificate_form (certificate_in h form sizes coefficients) ≡ form
  unfolding certificate_in certificate_form
  certificate_in_form solving = refl
  certificate_in_form absent = refl

  pub certificate_in_entries : (form : Form) → certificate_entries (certificate_in h form sizes coefficients)
      ≡ polynomials_in certificate_stride sizes coefficients 0 (entry_count h form)
  unfolding certificate_in certificate_entries entry_count polynomials_in
  certificate_in_entries solving =
      let m = h.columns in
      let n = h.rows in
      let e : 1 + m + 1 + n ≡ suc (m + suc n) = omega arith in
      ap (λ (rest : List (List ℕ)). polynomial_in certificate_stride sizes coefficients 0 ∷ rest)
      (polynomials_in_append certificate_stride sizes coefficients 1 m (suc n))
      ∙ ap (polynomials_in certificate_stride sizes coefficients 0) (sym e)
  certificate_in_entries absent = refl

-- the coefficients of a polynomial modulo p
pub canonical_below : (p bound : ℕ) → p ≤ bound → 0 < bound → (f : List ℕ) → Canonical p f → AllBelow bound f
unfolding Canonical
canonical_below p bound small pos [] h = below_nil bound pos
canonical_below p bound small pos (a ∷ f) h =
    let b = h.0 in below_cons bound a f (omega arith) (canonical_below p bound small pos f h.2)
