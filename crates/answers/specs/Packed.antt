-- Answers as one number, for programs in other languages (document 02, item 4, packs so): a refusal is 64 times its place plus its
-- number.
use Rattle.std.specs.Prelude.{ℕ, ◌+◌, ◌*◌, ◌≤◌, ◌≡◌}
use Rattle.std.proofs.Common.{le_trans}
use Rattle.words.specs.Outcome.{Outcome}
use Rattle.words.specs.Outcome.Outcome.{accepted, refused}

-- a place, or a count, is above the numbers of the table: one place further is so much more
abbrev pub place_unit : ℕ
place_unit = 64

-- numbers of the table are at most so much
abbrev pub number_most : ℕ
number_most = 63

-- a count stands where a refusal has its place, with number 0
abbrev pub packed : Outcome ℕ → ℕ
packed (accepted count) = place_unit * count
packed (refused number place) = place_unit * place + number

-- 0 is accepted
abbrev pub packed_verdict : Outcome (Unit {0}) → ℕ
packed_verdict (accepted _) = 0
packed_verdict (refused number place) = place_unit * place + number

-- an answer's count and place are at most so much, so that the packed number fits
pub record AnswerMost (count place : ℕ) (answer : Outcome ℕ) : Type 0 where
  pub counts : (n : ℕ) → answer ≡ accepted n → n ≤ count
  pub places : (number n : ℕ) → answer ≡ refused number n → n ≤ place

-- a verdict's place is at most so much
pub record VerdictMost (most : ℕ) (v : Outcome (Unit {0})) : Type 0 where
  pub places : (number place : ℕ) → v ≡ refused number place → place ≤ most

-- what is packed is at most so much
abbrev pub packed_most : ℕ
packed_most = 65535

pub most_wider : {count place more further : ℕ} {answer : Outcome ℕ} → count ≤ more → place ≤ further
    → AnswerMost count place answer → AnswerMost more further answer
most_wider h k m = record {
  counts = λ n e. le_trans (m.counts n e) h;
  places = λ number n e. le_trans (m.places number n e) k;
}
