-- What limits by value are: those of the definitions.
use Rattle.words.specs.Limits.{Limits}
use Rattle.limits.specs.declared.Limits.{Limits as Value}

abbrev pub limits_of : Value → Limits
limits_of v =
    record {
      rows = v.rows;
      columns = v.columns;
      sides = v.sides;
      system_coefficients = v.coefficients;
      certificate_coefficients = v.certificate_coefficients;
    }
