-- The text of the report (document 01, "The report"; its third line by document 02, item 2).
use Rattle.std.specs.Prelude.{ℕ, List, [], ◌∷◌, ◌++◌, map}
use Rattle.modular.specs.Delay.{delay, feedback}
use Rattle.words.specs.Outcome.{Outcome}
use Rattle.words.specs.Outcome.Outcome.{accepted, refused}
use Rattle.truth.specs.Solution.{Answer}
use Rattle.truth.specs.Solution.Answer.{none, least}
use Rattle.report_text.specs.Ascii.{ascii}
use Rattle.report_text.specs.Decimal.{decimal}

-- a part of a line behind another: "one space between the parts of a line"
abbrev pub spaced : List ℕ → List ℕ
spaced part = ascii " " ++ part

abbrev pub all_spaced : List (List ℕ) → List ℕ
all_spaced [] = []
all_spaced (part ∷ parts) = spaced part ++ all_spaced parts

-- a line by its label and the parts behind it
abbrev pub line : List ℕ → List (List ℕ) → List ℕ
line label parts = label ++ (all_spaced parts ++ ascii "\n")

-- "the coefficients of d lowest first"; for zero, which has none, the label alone
unfoldable pub denominator_line : List ℕ → List ℕ
denominator_line d = line (ascii "denominator") (map decimal d)

-- ""feedback", that degree, "delay", the number of factors" (document 02, item 2)
unfoldable pub feedback_line : (n k : ℕ) → List ℕ
feedback_line n k = line (ascii "feedback") (decimal n ∷ ascii "delay" ∷ decimal k ∷ [])

-- "three lines, labelled answer, denominator and feedback": of a denominator d, with feedback n and delay k
unfoldable pub solution_text : (d : List ℕ) (n k : ℕ) → List ℕ
solution_text d n k = line (ascii "answer") (ascii "solution" ∷ []) ++ denominator_line d ++ feedback_line n k

-- "feedback is the degree of d after all" factors x "are taken out"; "For none it prints the first line only; for a refusal
-- "refused", number, "at", place."
unfoldable pub report_text : Outcome Answer → List ℕ
unfolding solution_text
report_text (accepted none) = line (ascii "answer") (ascii "none" ∷ [])
report_text (accepted (least d)) = solution_text d (feedback d) (delay d)
report_text (refused number place) = line (ascii "refused") (decimal number ∷ ascii "at" ∷ decimal place ∷ [])
