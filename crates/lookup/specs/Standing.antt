-- Where a polynomial stands by the words alone, to which the start words lead: what the crate's inner functions speak of.
use Rattle.std.specs.Prelude.{not, List, ℕ, suc, ◌<◌, length, get_or, eqb}
use Rattle.words.specs.Word.{kind}
use Rattle.words.specs.Outcome.{Outcome, refuse}
use Rattle.words.specs.Outcome.Outcome.{accepted}
use Rattle.words.specs.Starts.{start_place}

-- the start words, and the word behind the last polynomial, are there
abbrev pub StartsInside : List ℕ → Type 0
StartsInside ws = (k : ℕ) → start_place ws k < length ws

-- "from its start word to its last coefficient": up to before the next start word; 12 where another word stands. Of words that were
-- read it is the lookup's part (`StandingLaws`).
abbrev pub part_in : List ℕ → ℕ → Outcome (ℕ × ℕ)
part_in ws k = refuse (not (eqb (kind (get_or ws (start_place ws k) 0)) 2)) 12 0 (accepted (start_place ws k, start_place ws (suc k)))
