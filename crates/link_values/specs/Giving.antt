-- What a call leaves that is to give a list of numbers: the list stands over the first of the lent ones, and its count is answered.
-- On a refusal all stand as they were.
use Rattle.std.specs.Prelude.{ℕ, ◌≡◌, List, length}
use Rattle.words.specs.Outcome.{Outcome, mapped}
use Rattle.answers.specs.Packed.{packed}
use Rattle.writer.specs.Writing.{lent_after}

pub record GivesList (outcome : Outcome (List ℕ)) (entry exit : List ℕ) (answer : Outcome ℕ) : Type 0 where
  pub told : answer ≡ mapped length outcome
  pub lent : exit ≡ lent_after outcome entry

-- the answer as one number
pub record GivesPacked (outcome : Outcome (List ℕ)) (entry exit : List ℕ) (r : ℕ) : Type 0 where
  pub result : r ≡ packed (mapped length outcome)
  pub lent : exit ≡ lent_after outcome entry
