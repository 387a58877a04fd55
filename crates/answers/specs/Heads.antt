-- What heads say as one number: p, n, m and the right sides of a system, the kind of a certificate, each as it stands in the head's
-- word.
use Rattle.std.specs.Prelude.{ℕ, ◌+◌, ◌-◌, ◌*◌, ◌/◌, ◌%◌, ◌≤◌, ◌≡◌, refl, get_or}
use Rattle.std.proofs.Common.{ap, ◌∙◌}
use native.Mathlib.Omega.{arith}
use Rattle.modular.specs.Bits.{bound4, most4}
use Rattle.words.specs.Limits.{Limits}
use Rattle.words.specs.LimitsLaws.{LimitsFit}
use Rattle.words.specs.Word.{payload}
use Rattle.words.specs.Systems.{Head, HeadWithin, Systems, systems_words, row_unit, column_unit, side_unit}
use Rattle.words.specs.Certificate.{Certificate, Form, certificate_form, certificate_words}
use Rattle.words.specs.Certificate.Form.{solving, absent}
use Rattle.words.specs.Certificate.Certificate.{solution, absence}

abbrev pub head_number : Head → ℕ
head_number h = h.shape.modulus + h.shape.rows * row_unit + h.shape.columns * column_unit + (h.sides - 1) * side_unit

abbrev pub kind_number : Form → ℕ
kind_number solving = 1
kind_number absent = 2

module _ (limits : Limits) (fit : LimitsFit limits) where
  module _ (h : Head) (within : HeadWithin limits h) where
    rows_fit : h.shape.rows ≤ most4
    rows_fit = omega (arith, within.shape.rows.1, fit.rows)

    columns_fit : h.shape.columns ≤ most4
    columns_fit = omega (arith, within.shape.columns.1, fit.columns)

    sides_fit : h.sides - 1 ≤ most4
    sides_fit = omega (arith, within.sides.1, fit.sides)

    -- p, n, m and the number of right sides can be taken out of the number
    pub head_apart : (head_number h % row_unit ≡ h.shape.modulus) × (head_number h / row_unit % bound4 ≡ h.shape.rows)
        × (head_number h / column_unit % bound4 ≡ h.shape.columns) × (head_number h / side_unit % bound4 + 1 ≡ h.sides)
    head_apart =
        let rows = rows_fit in
        let columns = columns_fit in
        let sides = sides_fit in
        let some = within.sides.0 in
        let p = within.shape.modulus in
        let b : ℕ = h.sides - 1 in
        let above : head_number h / row_unit ≡ h.shape.rows + (h.shape.columns + b * bound4) * bound4 = omega arith in
        let higher : head_number h / column_unit ≡ h.shape.columns + b * bound4 = omega arith in (
          omega arith,
          ap (λ (q : ℕ). q % bound4) above ∙ omega arith,
          ap (λ (q : ℕ). q % bound4) higher ∙ omega arith,
          omega arith,
        )

  -- and it is what the head has beside its kind
  pub head_written : (s : Systems) → HeadWithin limits s.head → head_number s.head ≡ payload (get_or (systems_words s) 0 0)
  unfolding systems_words
  head_written s within =
      let rows = rows_fit s.head within in
      let columns = columns_fit s.head within in
      let sides = sides_fit s.head within in
      let p = within.shape.modulus in
      omega arith

pub form_written : (c : Certificate) → kind_number (certificate_form c) ≡ payload (get_or (certificate_words c) 0 0)
unfolding certificate_words
form_written (solution d N w Z) = refl
form_written (absence q) = refl
