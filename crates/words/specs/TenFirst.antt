-- "Number 10 comes before all others." (document 01, "Turned back")
use Rattle.std.specs.Prelude.{ℕ, ◌≡◌, Bool, true, false, ◌||◌, List}
use Rattle.words.specs.Limits.{Limits}
use Rattle.words.specs.Bytes.{words_of, broken, too_long}
use Rattle.words.specs.Table.{ByTable, system_table}
use Rattle.words.specs.Line.{LineRefused}

pub data TenFirst (at_fault : Bool) (Others : (number place : ℕ) → Type 0) (number place : ℕ) : Type 0 where
  -- 10 at 0: "file of bytes not a multiple of four", or of more than are allowed
  ten : at_fault ≡ true → number ≡ 10 → place ≡ 0 → TenFirst at_fault Others number place
  others : at_fault ≡ false → Others number place → TenFirst at_fault Others number place

-- the refusals of a system's file: 10, or those of its words
abbrev pub FileRefused : Limits → List ℕ → (number place : ℕ) → Type 0
FileRefused limits file = TenFirst (broken file || too_long limits file) (ByTable (system_table limits) 0 (words_of file))

-- the same of one line
abbrev pub LineFileRefused : Limits → (k : ℕ) → List ℕ → (number place : ℕ) → Type 0
LineFileRefused limits k file = TenFirst (broken file || too_long limits file) (LineRefused limits k (words_of file))
