-- A system and a certificate that were read and loaded into areas, or a refusal: what the steps behind may count on, and what is
-- said then. Areas have as many slots as the kept limits ask for, each as wide as the office's do.
use Rattle.std.specs.Prelude.{ℕ, ◌+◌, ◌*◌, ◌≤◌, ◌≡◌, List, length, Result, Ok, Err}
use Rattle.words.specs.Limits.{Limits, office}
use Rattle.words.specs.Outcome.{Outcome}
use Rattle.words.specs.System.{Shape, ShapeWithin}
use Rattle.words.specs.Systems.{Systems, Head, systems_head}
use Rattle.words.specs.Certificate.{Certificate, Form}
use Rattle.words.specs.Certificate.Form.{solving, absent}
use Rattle.words.specs.Kept.{read_sided}
use Rattle.truth.specs.Verdict.{solution_verdict, absence_verdict}
use Rattle.truth.specs.Within.{both_read}
use Rattle.answers.specs.declared.answer.Refusal.{Refusal}
use Rattle.answers.specs.declared.shape.Form.{Form as FormValue}
use Rattle.answers.specs.declared.shape.Head.{Head as HeadValue}
use Rattle.answers.specs.Answer.{head_of, form_of, refused_by}
use Rattle.reader.specs.BothRead.{ReadWith}
use Rattle.loader.specs.Widths.{system_width, certificate_width}
use Rattle.check_conditions.specs.declared.dimensions.Dimensions.{Dimensions}
use Rattle.check_conditions.specs.Areas.{Loaded, system_in_slots, vector_in, denominator_in}
use Rattle.check_conditions.specs.Areas.{numerators_in, certifying_denominator_in, certifying_numerators_in}

-- ---- reading

-- a sheet with right side k and a certificate for it
abbrev pub BothSided : ℕ → Head → Form → (ws cs : List ℕ) → Type 0
BothSided k h form ws cs = ReadWith (read_sided office k ws) systems_head (λ g. g.shape) h form cs

-- both were read; or a refusal, whatever would be asked of what is read
abbrev pub FindsBoth : ℕ → (ws cs : List ℕ) → Result (HeadValue × FormValue) Refusal → Type 0
FindsBoth k ws cs (Ok read) = BothSided k (head_of read.0) (form_of read.1) ws cs
FindsBoth k ws cs (Err r) =
    (next : Systems → Certificate → Outcome (Unit {0})) → both_read office k ws cs next ≡ refused_by r

-- ---- loading

-- how many polynomials a certificate has
abbrev pub loaded_count : Dimensions → Form → ℕ
loaded_count l solving = l.columns + 2 + l.rows
loaded_count l absent = l.rows

-- 31 to 36 of the values in areas
abbrev pub area_verdict : Dimensions → Form → (A C : List ℕ) → Outcome (Unit {0})
area_verdict l solving A C =
    solution_verdict (system_in_slots l A) (denominator_in C) (numerators_in l C) (certifying_denominator_in l C)
    (certifying_numerators_in l C)
area_verdict l absent A C = absence_verdict (system_in_slots l A) (vector_in l.rows 0 C)

-- there is room for a system of a shape, one right side of it, and for a certificate
pub record AreaRoom (h : Shape) (A C : List ℕ) : Type 0 where
  pub system : (h.rows * h.columns + h.rows) * system_width ≤ length A
  pub certificate : (h.columns + 2 + h.rows) * certificate_width ≤ length C

-- for all that the office reads and that keeps the limits
abbrev pub AreasFor : Limits → (A C : List ℕ) → Type 0
AreasFor kept A C = (h : Shape) → ShapeWithin office h → ShapeWithin kept h → AreaRoom h A C

-- areas of so many words are such
abbrev pub AreasOf : Limits → (system certificate : ℕ) → Type 0
AreasOf kept system certificate = (A C : List ℕ) → length A ≡ system → length C ≡ certificate → AreasFor kept A C

-- what was loaded stands in the areas
abbrev pub Ready : Result (Dimensions × FormValue) Refusal → (A C : List ℕ) → Type 0
Ready (Ok loaded) A C = Loaded loaded.0 (loaded_count loaded.0 (form_of loaded.1)) A C
Ready (Err r) A C = Unit {0}

-- the refusal, or 31 to 36
abbrev pub loading_verdict : Result (Dimensions × FormValue) Refusal → (A C : List ℕ) → Outcome (Unit {0})
loading_verdict (Ok loaded) A C = area_verdict loaded.0 (form_of loaded.1) A C
loading_verdict (Err r) A C = refused_by r

-- it is loaded so that a verdict can be told from it
pub record Loads (told : Outcome (Unit {0})) (A C : List ℕ) (found : Result (Dimensions × FormValue) Refusal) : Type 0 where
  pub ready : Ready found A C
  pub verdict : told ≡ loading_verdict found A C
