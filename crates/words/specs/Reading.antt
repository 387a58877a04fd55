-- Reading words one after another (document 01, "Turned back": "the first word at fault decides, its conditions tried in the order
-- of the table"). What was read is given with the words that are left; a refusal, by its number, with the words from the one at
-- fault on, so that its place is the number of words before these; where a word is missing, that of all words.
use Rattle.std.specs.Prelude.{ℕ, ◌+◌, ◌-◌, Bool, true, false, List, length, drop}
use Rattle.words.specs.Outcome.{Outcome}
use Rattle.words.specs.Outcome.Outcome.{accepted, refused}

pub data Reading (A : Type 0) : Type 0 where
  read : A → List ℕ → Reading A
  fault : ℕ → List ℕ → Reading A

-- a row of the table: where its condition holds, its number, at the words given; else what comes next
abbrev pub turn_back : {A : Type 0} → Bool → ℕ → List ℕ → Reading A → Reading A
turn_back true number ws next = fault number ws
turn_back false number ws next = next

-- one thing after another
abbrev pub and_then : {A B : Type 0} → Reading A → (A → List ℕ → Reading B) → Reading B
and_then (read a rest) next = next a rest
and_then (fault number ws) next = fault number ws

-- the same with greater numbers: 24 to 29 are 4 to 9, on the certificate
abbrev pub renumber : {A : Type 0} → ℕ → Reading A → Reading A
renumber by (read a rest) = read a rest
renumber by (fault number ws) = fault (number + by) ws

-- what a caller is told of the reading of so many words: the value
abbrev pub outcome : {A : Type 0} → ℕ → Reading A → Outcome A
outcome total (read a rest) = accepted a
outcome total (fault number ws) = refused number (total - length ws)

-- or the number of words used
abbrev pub words_used : {A : Type 0} → ℕ → Reading A → Outcome ℕ
words_used total (read a rest) = accepted (total - length rest)
words_used total (fault number ws) = refused number (total - length ws)

-- the same of a way to read, from the first of the words on, or from word `at` on
abbrev pub outcome_of : {A : Type 0} → (List ℕ → Reading A) → List ℕ → Outcome A
outcome_of reading ws = outcome (length ws) (reading ws)

abbrev pub used : {A : Type 0} → (List ℕ → Reading A) → List ℕ → Outcome ℕ
used reading ws = words_used (length ws) (reading ws)

abbrev pub used_from : {A : Type 0} → ℕ → (List ℕ → Reading A) → List ℕ → Outcome ℕ
used_from at reading ws = words_used (length ws) (reading (drop at ws))
