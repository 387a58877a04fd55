-- The head of a sheet, which is the first word: what is told at each test of the code.
use mathlib.Core.Path.{◌≡◌, refl, sym, ap, ◌∙◌}
use mathlib.Core.Bool.{true, false}
use mathlib.Core.List.{List, [], ◌∷◌}
use Prim.Native.Nat.{ℕ, suc, ◌+◌, ◌-◌, ◌/◌, ◌%◌, ◌≤◌, ◌<◌}
use native.Mathlib.Omega.{arith}
use lib.ListN.{length, get_or, drop, length-drop}
use lib.Seq.{drop-cons}
use borrow.Author.Tests.{eq-eqb, ne_eqb, le-leb, lt-leb}
use Rattle.modular.specs.Bits.{bound4}
use Rattle.modular.specs.Prime.{prime?}
use Rattle.words.specs.Word.{kind}
use Rattle.words.specs.Limits.{Limits}
use Rattle.words.specs.Outcome.{Outcome}
use Rattle.words.specs.Outcome.Outcome.{accepted, refused}
use Rattle.words.specs.Reading.{outcome}
use Rattle.words.specs.System.{one_to}
use Rattle.words.specs.Systems.{Head, head_in, systems_head_from, row_unit, column_unit, side_unit}

module _ (limits : Limits) where
  abbrev pub OfHead : List ℕ → Outcome Head
  OfHead ws = outcome (length ws) (systems_head_from limits ws)

  pub head_missing : (ws : List ℕ) → length ws ≤ 0 → OfHead ws ≡ refused 4 0
  unfolding systems_head_from
  head_missing [] e = refl
  head_missing (w ∷ ws) e = absurd (omega arith)

  module _ (ws : List ℕ) (w : ℕ) (some : 0 < length ws) (is : w ≡ get_or ws 0 0) where
    step : OfHead ws ≡ outcome (length ws) (systems_head_from limits (w ∷ drop 1 ws))
    step =
        ap (λ (v : List ℕ). outcome (length ws) (systems_head_from limits v))
        (drop-cons ws 0 0 (omega arith) ∙ ap (λ (x : ℕ). x ∷ drop 1 ws) (sym is))

    place : length ws - suc (length (drop 1 ws)) ≡ 0
    place = omega (arith, length-drop 1 ws)

    pub head_kind : (kind w ≡ 1 → ⊥) → OfHead ws ≡ refused 1 0
    unfolding systems_head_from
    head_kind k = step ∙ simp (ne_eqb _ _ k, place)

    module _ (one : kind w ≡ 1) where
      pub head_bits : limits.sides < w / side_unit % bound4 + 1 → OfHead ws ≡ refused 1 0
      unfolding systems_head_from head_in
      head_bits many = step ∙ simp (eq-eqb _ _ one, lt-leb _ _ many, place)

      module _ (few : w / side_unit % bound4 + 1 ≤ limits.sides) where
        pub head_composite : prime? (w % row_unit) ≡ false → OfHead ws ≡ refused 2 0
        unfolding systems_head_from head_in
        head_composite c = step ∙ simp (eq-eqb _ _ one, le-leb _ _ few, c, place)

        module _ (prime : prime? (w % row_unit) ≡ true) where
          pub head_rows : one_to limits.rows (w / row_unit % bound4) ≡ false → OfHead ws ≡ refused 3 0
          unfolding systems_head_from head_in
          head_rows r = step ∙ simp (eq-eqb _ _ one, le-leb _ _ few, prime, r, place)

          module _ (rows : one_to limits.rows (w / row_unit % bound4) ≡ true) where
            pub head_columns : one_to limits.columns (w / column_unit % bound4) ≡ false → OfHead ws ≡ refused 3 0
            unfolding systems_head_from head_in
            head_columns c = step ∙ simp (eq-eqb _ _ one, le-leb _ _ few, prime, rows, c, place)

            pub head_right : one_to limits.columns (w / column_unit % bound4) ≡ true
                → OfHead ws ≡ accepted (record {
                  shape = record { modulus = w % row_unit; rows = w / row_unit % bound4; columns = w / column_unit % bound4 };
                  sides = w / side_unit % bound4 + 1;
                })
            unfolding systems_head_from head_in
            head_right c = step ∙ simp (eq-eqb _ _ one, le-leb _ _ few, prime, rows, c)
