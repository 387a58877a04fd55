-- The loop keeps: the numbers that are left are due.
use mathlib.Core.List.{map}
use lib.ListN.{drop}
use Rattle.report_text.specs.Decimal.{decimal}
use Rattle.report_text.specs.Text.{spaced, all_spaced}
use Rattle.report_text.proofs.Due.{Due}
use Rattle.report_text.proofs.text.Text.append_numbers.Given as goal

abbrev pub invariant-loop-n : goal.invariant-loop-n
invariant-loop-n l =
    Due (all_spaced (map decimal l.numbers)) l.initial.self (map (λ n. spaced (decimal n)) (drop l.n-index l.numbers)) l.self
