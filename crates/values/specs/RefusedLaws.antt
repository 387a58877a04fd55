-- The refusals of the calls that hand out values, each under its condition only: of a system the reader's; of a certificate 2 and 3
-- at 0, of the p, n and m that the call is given, then the reader's.
use Rattle.std.specs.Prelude.{◌≡◌, ◌⊎◌, ◌↔◌, Bool, not, ◌&&◌, ◌||◌, List, ℕ, ltb, Result}
use Rattle.std.proofs.Common.{sym, ◌∙◌, inl, inr, ⊎_elim}
use Rattle.modular.specs.LargestPrime.{largest_modulus}
use Rattle.modular.specs.Prime.{prime?}
use Rattle.words.specs.Limits.{Limits}
use Rattle.words.specs.Outcome.{Outcome, refuse}
use Rattle.words.specs.Outcome.Outcome.{refused}
use Rattle.words.specs.OutcomeLaws.{mapped_refused_iff, refuse_refused_iff}
use Rattle.words.specs.System.{Shape, ShapeWithin, one_to}
use Rattle.words.specs.Systems.{systems_head, read_systems}
use Rattle.words.specs.Certificate.{certificate_form, read_certificate}
use Rattle.words.specs.Table.{ByTable, system_table, certificate_table}
use Rattle.words.proofs.RefusedLaws.{systems_refused_iff, certificate_refused_iff}
use Rattle.answers.specs.declared.answer.Refusal.{Refusal}
use Rattle.answers.specs.declared.shape.Form.{Form as FormValue}
use Rattle.answers.specs.declared.shape.Head.{Head as HeadValue}
use Rattle.answers.specs.Answer.{system_outcome, certificate_outcome}
use Rattle.writer.specs.Writing.{refuse_shape}
use Rattle.writer.specs.WritingLaws.{shape_within}
use Rattle.writer.specs.Refused.{MayBeModulus, MayBeSizes}
use Rattle.writer.proofs.RefusedLaws.{failed_iff, modulus_iff, sizes_iff, shape_of}
use Rattle.values.specs.Loading.{LoadsSystem, certificate_to_load, LoadsCertificate}

-- ---- p, n and m, tried first

module _ (limits : Limits) (h : Shape) where
  abbrev no_modulus : Bool
  no_modulus = not (prime? h.modulus) || ltb largest_modulus h.modulus

  abbrev no_sizes : Bool
  no_sizes = not (one_to limits.rows h.rows && one_to limits.columns h.columns)

  -- 2, then 3, at 0; else what comes next
  abbrev pub ShapeFirst : (Others : (number place : ℕ) → Type 0) (number place : ℕ) → Type 0
  ShapeFirst Others number place =
      (¬ MayBeModulus h.modulus × (number ≡ 2) × (place ≡ 0))
      ⊎ ((MayBeModulus h.modulus × ¬ MayBeSizes limits h × (number ≡ 3) × (place ≡ 0))
      ⊎ (ShapeWithin limits h × Others number place))

  module _ {A : Type 0} (next : Outcome A) (Others : (number place : ℕ) → Type 0)
      (iff : (n k : ℕ) → (next ≡ refused n k) ↔ Others n k) (n k : ℕ) where
    shape_first : refuse_shape limits h next ≡ refused n k → ShapeFirst Others n k
    shape_first e =
        ⊎_elim
        (λ t. inl ((failed_iff no_modulus (modulus_iff h.modulus)).0 t.0, t.1, t.2))
        (λ t.
        let m = (modulus_iff h.modulus).0 t.0 in
        ⊎_elim
        (λ u. inr (inl (m, (failed_iff no_sizes (sizes_iff limits h)).0 u.0, u.1, u.2)))
        (λ u. inr (inr (shape_of {limits = limits} {h = h} m ((sizes_iff limits h).0 u.0), (iff n k).0 u.1)))
        ((refuse_refused_iff no_sizes 3 0 next n k).0 t.1))
        ((refuse_refused_iff no_modulus 2 0 (refuse no_sizes 3 0 next) n k).0 e)

    of_shape : ShapeFirst Others n k → refuse_shape limits h next ≡ refused n k
    of_shape (inl t) =
        (refuse_refused_iff no_modulus 2 0 (refuse no_sizes 3 0 next) n k).1
        (inl ((failed_iff no_modulus (modulus_iff h.modulus)).1 t.0, t.1, t.2))
    of_shape (inr (inl t)) =
        (refuse_refused_iff no_modulus 2 0 (refuse no_sizes 3 0 next) n k).1
        (inr (
          (modulus_iff h.modulus).1 t.0,
          (refuse_refused_iff no_sizes 3 0 next n k).1
              (inl ((failed_iff no_sizes (sizes_iff limits h)).1 t.1, t.2, t.3)),
        ))
    of_shape (inr (inr t)) = shape_within limits h next t.0 ∙ (iff n k).1 t.1

    shape_first_iff : (refuse_shape limits h next ≡ refused n k) ↔ ShapeFirst Others n k
    shape_first_iff = (shape_first, of_shape)

-- ---- what the calls answer

module _ {limits : Limits} {ws : List ℕ} {answer : Result HeadValue Refusal} {sizes sizes' values values' : List ℕ}
    (loads : LoadsSystem limits ws answer sizes sizes' values values') (n k : ℕ) where
  pub system_load_refused_iff : (system_outcome answer ≡ refused n k) ↔ ByTable (system_table limits) 0 ws n k
  system_load_refused_iff =
      let iff = mapped_refused_iff systems_head (read_systems limits ws) _ (systems_refused_iff limits ws) n k in
      (λ e. iff.0 (sym loads.answer_is ∙ e), λ t. loads.answer_is ∙ iff.1 t)

pub certificate_to_load_refused_iff : (limits : Limits) (h : Shape) (cs : List ℕ) (n k : ℕ)
    → (certificate_to_load limits h cs ≡ refused n k) ↔ ShapeFirst limits h (ByTable (certificate_table limits h) 20 cs) n k
certificate_to_load_refused_iff limits h cs =
    shape_first_iff limits h (read_certificate limits h cs) _ (certificate_refused_iff limits h cs)

module _ {limits : Limits} {h : Shape} {cs : List ℕ} {answer : Result FormValue Refusal} {sizes sizes' values values' : List ℕ}
    (loads : LoadsCertificate limits h cs answer sizes sizes' values values') (n k : ℕ) where
  pub certificate_load_refused_iff : (certificate_outcome answer ≡ refused n k)
      ↔ ShapeFirst limits h (ByTable (certificate_table limits h) 20 cs) n k
  certificate_load_refused_iff =
      let iff = mapped_refused_iff certificate_form (certificate_to_load limits h cs) _
      (certificate_to_load_refused_iff limits h cs) n k in
      (λ e. iff.0 (sym loads.answer_is ∙ e), λ t. loads.answer_is ∙ iff.1 t)
