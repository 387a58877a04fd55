-- Some of the polynomials of words loaded into slots, as their payloads stand there.
use Rattle.std.specs.Prelude.{◌≡◌, List, ℕ, ◌+◌, ◌*◌, ◌≤◌, ◌<◌, length, get_or}
use Rattle.words.specs.Word.{payload}
use Rattle.words.specs.Starts.{start_place}

-- the number of coefficients that start word k says
abbrev pub size_of : List ℕ → ℕ → ℕ
size_of ws k = payload (get_or ws (start_place ws k) 0)

-- slot j has the payloads of start word k and of the coefficients behind it
abbrev pub InSlot : (width : ℕ) (ws area : List ℕ) (j k : ℕ) → Type 0
InSlot width ws area j k = (i : ℕ) → i ≤ size_of ws k → get_or area (j * width + i) 0 ≡ payload (get_or ws (start_place ws k + i) 0)

-- those from number `from` to before number `to` stand in the slots from number `first` on, and what stood before these slots stays
pub record PartLoaded (width : ℕ) (ws : List ℕ) (first from to : ℕ) (before after : List ℕ) : Type 0 where
  pub same_length : length after ≡ length before
  pub filled : (i : ℕ) → from + i < to → InSlot width ws after (first + i) (from + i)
  pub kept : (i : ℕ) → i < first * width → get_or after i 0 ≡ get_or before i 0
