-- What the code's values say: of which of the two a polynomial is asked for, where it stands, and the number and the place of
-- document 01's table.
use Rattle.std.specs.Prelude.{ℕ, Result}
use Rattle.words.specs.Outcome.{Outcome}
use Rattle.lookup.specs.Lookup.{Of}
use Rattle.lookup.specs.Lookup.Of.{system, certificate}
use Rattle.answers.specs.declared.answer.Of.{Of as OfValue}
use Rattle.answers.specs.declared.answer.Of.TheVariants.{System, Certificate}
use Rattle.answers.specs.declared.answer.Refusal.{Refusal}
use Rattle.answers.specs.Answer.{outcome}

abbrev pub of_asked : OfValue → Of
of_asked System = system
of_asked Certificate = certificate

-- from one place up to before another, or why nowhere
abbrev pub part_outcome : Result (ℕ × ℕ) Refusal → Outcome (ℕ × ℕ)
part_outcome = outcome (λ part. part)
