-- The numbers in a case, and what they stand for.
use Rattle.std.specs.Prelude.{◌≡◌, ◌<◌, ◌⊎◌, ℕ, zero, suc, Result, MatchResult}
use Rattle.answers.specs.declared.shape.Form.TheVariants.{Solution, Absence}
use Rattle.stored_cases.specs.declared.codes.Call.{Call}
use Rattle.stored_cases.specs.declared.codes.Call.TheVariants as call
use Rattle.stored_cases.specs.declared.codes.WordsCall.{WordsCall}
use Rattle.stored_cases.specs.declared.codes.WordsCall.TheVariants.{Arithmetic, Writer, ReadForOffice, ReadForPanel, Both}
use Rattle.stored_cases.specs.declared.codes.BothCall.{BothCall}
use Rattle.stored_cases.specs.declared.codes.BothCall.TheVariants.{Read, Check, Lookup}
use Rattle.stored_cases.specs.declared.codes.BytesCall.{BytesCall}
use Rattle.stored_cases.specs.declared.codes.BytesCall.TheVariants.{Heading, Describe, List, Report, SolveSide, CheckPanel}
use Rattle.stored_cases.specs.declared.codes.UnknownCall.{UnknownCall}
use Rattle.stored_cases.specs.declared.codes.Operation.{Operation}
use Rattle.stored_cases.specs.declared.codes.Operation.TheVariants.{Prime, Residues, Multiple, Pair}
use Rattle.stored_cases.specs.declared.codes.PairOperation.{PairOperation}
use Rattle.stored_cases.specs.declared.codes.PairOperation.TheVariants.{Sum, Difference, Product, Remainder, Quotient}
use Rattle.stored_cases.specs.declared.codes.PairOperation.TheVariants.{Monic, Gcd, Equal}
use Rattle.stored_cases.specs.declared.codes.UnknownOperation.{UnknownOperation}
use Rattle.stored_cases.specs.declared.codes.Kind.{Kind}
use Rattle.stored_cases.specs.declared.codes.Kind.TheVariants.{System, Certificate}

-- the number of a call on both
abbrev pub both_number : BothCall → ℕ
both_number Read = 9
both_number Check = 10
both_number Lookup = 11

-- the number of a call on words
abbrev pub words_number : WordsCall → ℕ
words_number Arithmetic = 1
words_number Writer = 2
words_number ReadForOffice = 3
words_number ReadForPanel = 4
words_number (Both call) = both_number call

-- the number of a call on bytes
abbrev pub bytes_number : BytesCall → ℕ
bytes_number Heading = 5
bytes_number Describe = 6
bytes_number List = 7
bytes_number Report = 8
bytes_number SolveSide = 12
bytes_number CheckPanel = 13

-- the number of a call
abbrev pub call_number : Call → ℕ
call_number (call.Words on) = words_number on
call_number (call.Bytes on) = bytes_number on

-- the result is the call with this number, or an error with a number that no call has
abbrev pub NamesCall : ℕ → Result Call UnknownCall → Type 0
NamesCall number r =
    MatchResult r (λ call. call_number call ≡ number) (λ e. (e.0 ≡ number) × ((number ≡ 0) ⊎ (13 < number)))

-- the code of an operation on two polynomials
abbrev pub pair_code : PairOperation → ℕ
pair_code Sum = 3
pair_code Difference = 4
pair_code Product = 6
pair_code Remainder = 7
pair_code Quotient = 8
pair_code Monic = 9
pair_code Gcd = 10
pair_code Equal = 11

-- the code of an operation
abbrev pub operation_code : Operation → ℕ
operation_code Prime = 1
operation_code Residues = 2
operation_code Multiple = 5
operation_code (Pair operation) = pair_code operation

-- the result is the operation with this code, or an error with a code that no operation has
abbrev pub NamesOperation : ℕ → Result Operation UnknownOperation → Type 0
NamesOperation code r =
    MatchResult r (λ operation. operation_code operation ≡ code) (λ e. (e.0 ≡ code) × ((code ≡ 0) ⊎ (11 < code)))

-- what a number has written: 0 a system, 1 a solution, any other an absence
abbrev pub kind_numbered : ℕ → Kind
kind_numbered zero = System
kind_numbered (suc zero) = Certificate Solution
kind_numbered (suc (suc _)) = Certificate Absence
