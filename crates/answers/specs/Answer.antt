-- What the answers of the code say: the number and the place of document 01's table, or what was read, counted or accepted.
use Rattle.std.specs.Prelude.{ℕ, zero, suc, ◌+◌, List, ◌++◌, codes, decimal, Result, Ok, Err}
use Rattle.words.specs.Outcome.{Outcome}
use Rattle.words.specs.Outcome.Outcome.{accepted, refused}
use Rattle.words.specs.System.{Shape}
use Rattle.words.specs.Systems.{Head}
use Rattle.words.specs.Certificate.{Form}
use Rattle.words.specs.Certificate.Form.{solving, absent}
use Rattle.answers.specs.declared.answer.Of.{Of}
use Rattle.answers.specs.declared.answer.Of.TheVariants as of
use Rattle.answers.specs.declared.answer.Fault.{Fault}
use Rattle.answers.specs.declared.answer.Fault.TheVariants as fault
use Rattle.answers.specs.declared.answer.Reason.{Reason}
use Rattle.answers.specs.declared.answer.Reason.TheVariants as reason
use Rattle.answers.specs.declared.answer.Misread.{Misread}
use Rattle.answers.specs.declared.answer.Refusal.{Refusal}
use Rattle.answers.specs.declared.shape.Shape.{Shape as ShapeValue}
use Rattle.answers.specs.declared.shape.Head.{Head as HeadValue}
use Rattle.answers.specs.declared.shape.Form.{Form as FormValue}
use Rattle.answers.specs.declared.shape.Form.TheVariants as form

-- ---- the numbers of the table

-- of a fault in the words of a system
abbrev pub fault_number : Fault → ℕ
fault_number fault.EndsEarly = 4
fault_number fault.WrongKind = 5
fault_number fault.TooManyCoefficients = 6
fault_number fault.CoefficientTooLarge = 7
fault_number fault.LastCoefficientZero = 8
fault_number fault.BadEnd = 9

-- in those of a certificate it is greater by 20
abbrev pub by_of : Of → ℕ
by_of of.System = 0
by_of of.Certificate = 20

-- which of the two a number names: 0 the system, any other the certificate
abbrev pub numbered : ℕ → Of
numbered zero = of.System
numbered (suc _) = of.Certificate

abbrev pub reason_number : Reason → ℕ
reason_number reason.BadSystemHead = 1
reason_number reason.NotPrime = 2
reason_number reason.BadShape = 3
reason_number (reason.Words of fault) = fault_number fault + by_of of
reason_number reason.BadFileLength = 10
reason_number reason.SpaceShort = 11
reason_number reason.NoSuchPolynomial = 12
reason_number reason.BadCertificateHead = 21
reason_number reason.NotMonic = 31
reason_number reason.NotASolution = 32
reason_number reason.ColumnNotDivisible = 33
reason_number reason.DenominatorsDiffer = 34
reason_number reason.NotAKernel = 35
reason_number reason.NoContradiction = 36
reason_number reason.NoSuchSide = 40
reason_number reason.BeyondPanel = 41
reason_number (reason.Other other) = other.number

-- ---- number and place

abbrev pub refused_by : {A : Type 0} → Refusal → Outcome A
refused_by r = refused (reason_number r.reason) r.place

-- of a fault, where it is not said of which of the two: that of a system
abbrev pub misread_by : {A : Type 0} → Misread → Outcome A
misread_by m = refused (fault_number m.fault) m.place

-- document 01's line, without the end of a line
abbrev pub refusal_text : Refusal → List ℕ
refusal_text r = codes "refused " ++ (decimal (reason_number r.reason) ++ (codes " at " ++ decimal r.place))

-- ---- what a call answers: what it found, or its refusal

abbrev pub outcome : {A B : Type 0} → (A → B) → Result A Refusal → Outcome B
outcome f (Ok a) = accepted (f a)
outcome f (Err r) = refused_by r

-- the count, of words or of bytes
abbrev pub counted_outcome : Result ℕ Refusal → Outcome ℕ
counted_outcome (Ok n) = accepted n
counted_outcome (Err r) = refused_by r

-- the number of words that were used
abbrev pub used_outcome : Result ℕ Misread → Outcome ℕ
used_outcome (Ok n) = accepted n
used_outcome (Err m) = misread_by m

-- that nothing is turned back
abbrev pub verdict_outcome : Result (Unit {0}) Refusal → Outcome (Unit {0})
verdict_outcome (Ok _) = accepted tt
verdict_outcome (Err r) = refused_by r

abbrev pub shape_of : ShapeValue → Shape
shape_of h = record { modulus = h.modulus; rows = h.rows; columns = h.columns }

abbrev pub head_of : HeadValue → Head
head_of h = record { shape = shape_of h.shape; sides = h.sides }

-- p, n, m and the number of right sides
abbrev pub system_outcome : Result HeadValue Refusal → Outcome Head
system_outcome = outcome head_of

-- p, n and m, of one line
abbrev pub line_outcome : Result ShapeValue Refusal → Outcome Shape
line_outcome = outcome shape_of

abbrev pub form_of : FormValue → Form
form_of form.Solution = solving
form_of form.Absence = absent

-- whether a certificate is a solution or an absence
abbrev pub certificate_outcome : Result FormValue Refusal → Outcome Form
certificate_outcome = outcome form_of
