-- What a right certificate answers to its system: kind and d, which leave nothing free.
use Rattle.std.specs.Prelude.{ℕ, ◌≡◌, List}
use Rattle.std.proofs.Common.{arith}
use Rattle.words.specs.Limits.{Limits}
use Rattle.words.specs.System.{System, SystemWithin, shape}
use Rattle.words.specs.Certificate.{Certificate, CertificateWithin}
use Rattle.words.specs.Certificate.Certificate.{solution, absence}
use Rattle.truth.specs.Solution.{Answer, Answers}
use Rattle.truth.specs.Solution.Answer.{none, least}
use Rattle.truth.specs.Right.{Right}
use Rattle.truth.specs.Lift.{Proper}
use Rattle.truth.proofs.Truth.{right_least, right_absent}
use Rattle.truth.specs.Chosen.{Chosen}
use Rattle.truth.specs.Demand.{True}
use Rattle.truth.proofs.DemandTruth.{right_true}

-- the least denominator, or none
unfoldable pub answer_of : Certificate → Answer
answer_of (solution d N w Z) = least d
answer_of (absence q) = none

pub distinct : (d : List ℕ) → ¬ (least d ≡ none)
distinct d e = let z : ◌≡◌ {A = ℕ} 0 1 = cc in omega arith

pub least_same : {c d : List ℕ} → least c ≡ least d → c ≡ d
least_same e = cc

pub true_answers : (s : System) (c : Certificate) → True s c → Answers s (answer_of c)
unfolding True Answers answer_of
true_answers s (solution d N w Z) t = t.least
true_answers s (absence q) t = t

pub right_answers : (limits : Limits) (s : System) → SystemWithin limits s
    → (c : Certificate) → CertificateWithin limits (shape s) c → Right s c → Answers s (answer_of c)
right_answers limits s h c k r = true_answers s c (right_true limits s h c k r)

-- of the chosen one whatever its degrees
pub chosen_answers : (s : System) → Proper s → (c : Certificate) → Chosen s c → Answers s (answer_of c)
unfolding Chosen Answers answer_of
chosen_answers s h (solution d N w Z) C = right_least s h C.proper C.right
chosen_answers s h (absence q) C = right_absent s h q C.proper C.right
