-- What stands in the areas: A and b with d, N, w and Z, or with q.
use Rattle.std.specs.Prelude.{List, ℕ}
use Rattle.words.specs.System.{System}
use Rattle.check_conditions.specs.Areas.{system_in_slots, vector_in, denominator_in, numerators_in}
use Rattle.check_conditions.specs.Areas.{certifying_denominator_in, certifying_numerators_in}
use Rattle.check_conditions.specs.declared.areas.SolutionAreas.{SolutionAreas}
use Rattle.check_conditions.specs.declared.areas.AbsenceAreas.{AbsenceAreas}

abbrev pub system_of : SolutionAreas → System
system_of a = system_in_slots a.dimensions a.system.now

abbrev pub denominator_of : SolutionAreas → List ℕ
denominator_of a = denominator_in a.certificate.now

abbrev pub numerators_of : SolutionAreas → List (List ℕ)
numerators_of a = numerators_in a.dimensions a.certificate.now

abbrev pub certifying_denominator_of : SolutionAreas → List ℕ
certifying_denominator_of a = certifying_denominator_in a.dimensions a.certificate.now

abbrev pub certifying_numerators_of : SolutionAreas → List (List ℕ)
certifying_numerators_of a = certifying_numerators_in a.dimensions a.certificate.now

abbrev pub absent_system_of : AbsenceAreas → System
absent_system_of a = system_in_slots a.dimensions a.system.now

abbrev pub kernel_of : AbsenceAreas → List (List ℕ)
kernel_of a = vector_in a.dimensions.rows 0 a.certificate.now
