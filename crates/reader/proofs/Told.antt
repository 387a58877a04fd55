-- What is told behind a `?`, and of a fault in the words of a system or a certificate.
use Rattle.std.proofs.Common.{◌≡◌, ◌+◌, ap, ap₂, ◌∙◌, ℕ, Result, Err, IsErrAnd}
use Rattle.std.proofs.lemmas.Result.{err_from_is_err_and}
use Rattle.words.specs.Outcome.{Outcome}
use Rattle.words.specs.Outcome.Outcome.{refused}
use Rattle.answers.specs.declared.answer.Of.{Of}
use Rattle.answers.specs.declared.answer.Misread.{Misread}
use Rattle.answers.specs.declared.answer.Reason.{Reason}
use Rattle.answers.specs.declared.answer.Reason.TheVariants.{Words}
use Rattle.answers.specs.declared.answer.Refusal.{Refusal}
use Rattle.answers.specs.Answer.{fault_number, by_of, reason_number, refused_by}

-- a refusal is passed on as it is
pub passed_on : {T : Type 0} (r : Result T Refusal) (e : Refusal) → IsErrAnd r (λ x. x ≡ e) → r ≡ Err e
passed_on r e h = let p = err_from_is_err_and r h in p.1 ∙ ap Err p.2

pub told_of : {A : Type 0} (of : Of) (r : Refusal) (m : Misread) → r.reason ≡ Words of m.fault → r.place ≡ m.place
    → ◌≡◌ {A = Outcome A} (refused_by r) (refused (fault_number m.fault + by_of of) m.place)
told_of of r m e f = ap₂ (λ (reason : Reason) (place : ℕ). refused (reason_number reason) place) e f
