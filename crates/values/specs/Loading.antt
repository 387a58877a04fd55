-- What the calls do that hand out values: the answer of the reader, and the polynomials in the lent arrays; on a refusal all lent
-- numbers stay.
use Rattle.std.specs.Prelude.{◌≡◌, List, ℕ, Result}
use Rattle.words.specs.Limits.{Limits}
use Rattle.words.specs.Outcome.{Outcome, mapped}
use Rattle.words.specs.Outcome.Outcome.{accepted, refused}
use Rattle.words.specs.System.{Shape}
use Rattle.words.specs.Systems.{systems_head, systems_entries, read_systems}
use Rattle.words.specs.Certificate.{Certificate, certificate_form, certificate_entries, read_certificate}
use Rattle.answers.specs.declared.answer.Refusal.{Refusal}
use Rattle.answers.specs.declared.shape.Form.{Form as FormValue}
use Rattle.answers.specs.declared.shape.Head.{Head as HeadValue}
use Rattle.answers.specs.Answer.{system_outcome, certificate_outcome}
use Rattle.writer.specs.Writing.{refuse_shape}
use Rattle.writer.specs.Values.{certificate_stride}
use Rattle.values.specs.Laid.{sizes_over, laid_over}

-- the lent arrays afterwards, where polynomials or a refusal are found
unfoldable pub sizes_after : Outcome (List (List ℕ)) → List ℕ → List ℕ
unfolding sizes_over
sizes_after (accepted fs) lent = sizes_over fs lent
sizes_after (refused number place) lent = lent

unfoldable pub values_after : ℕ → Outcome (List (List ℕ)) → List ℕ → List ℕ
unfolding laid_over
values_after stride (accepted fs) lent = laid_over stride fs lent
values_after stride (refused number place) lent = lent

-- ---- systems: A and all right sides

pub record LoadsSystem (limits : Limits) (words : List ℕ) (answer : Result HeadValue Refusal) (sizes sizes' values values' : List ℕ) : Type 0
  where
    pub answer_is : system_outcome answer ≡ mapped systems_head (read_systems limits words)
    pub sizes_are : sizes' ≡ sizes_after (mapped systems_entries (read_systems limits words)) sizes
    pub values_are : values' ≡ values_after limits.system_coefficients (mapped systems_entries (read_systems limits words)) values

-- ---- certificates for a system of a shape, which is tried first, as the writer tries it

abbrev pub certificate_to_load : Limits → Shape → List ℕ → Outcome Certificate
certificate_to_load limits h words = refuse_shape limits h (read_certificate limits h words)

pub record LoadsCertificate (limits : Limits) (h : Shape) (words : List ℕ) (answer : Result FormValue Refusal)
    (sizes sizes' values values' : List ℕ) : Type 0 where
  pub answer_is : certificate_outcome answer ≡ mapped certificate_form (certificate_to_load limits h words)
  pub sizes_are : sizes' ≡ sizes_after (mapped certificate_entries (certificate_to_load limits h words)) sizes
  pub values_are : values' ≡ values_after certificate_stride (mapped certificate_entries (certificate_to_load limits h words)) values
