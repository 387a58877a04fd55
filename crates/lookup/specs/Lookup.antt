-- The lookup (document 01, end of "Turned back"): it "reads sheet and card likewise, then tries 12 and none of 31 to 36, then shows
-- one polynomial of either".
use Rattle.std.specs.Prelude.{ℕ, ◌+◌, ◌*◌, ◌≡◌, List, [], length, get_or, leb}
use Rattle.words.specs.Limits.{Limits}
use Rattle.words.specs.Outcome.{Outcome, refuse, followed_by, mapped}
use Rattle.words.specs.Outcome.Outcome.{accepted, refused}
use Rattle.words.specs.Polynomial.{polynomial_words}
use Rattle.words.specs.Frame.{entry_place}
use Rattle.words.specs.Systems.{Systems, systems_entries, read_systems}
use Rattle.words.specs.Certificate.{Certificate, certificate_entries, read_certificate}
use Rattle.words.specs.Bytes.{word_bytes}

-- of which of the two a polynomial is asked for
pub data Of : Type 0 where
  system : Of
  certificate : Of

-- that of the two
abbrev pub on : {A : Type 0} → Of → A → A → A
on system a b = a
on certificate a b = b

-- "Polynomials count from 0 in written order, on each side": of a sheet A's, then those of every right side, since "the lookup
-- counts all" (document 02, item 1)
abbrev pub entries_on : Of → Systems → Certificate → List (List ℕ)
entries_on of s c = on of (systems_entries s) (certificate_entries c)

-- "that part of the lent words": the place of its first word, and its words
pub record Part : Type 0 where
  pub from : ℕ
  pub words : List ℕ

-- a polynomial's, "from its start word to its last coefficient"
abbrev pub part_of : List (List ℕ) → ℕ → Part
part_of fs k = record { from = entry_place fs k; words = polynomial_words (get_or fs k []) }

-- the polynomial of that number
abbrev pub shown : ℕ → List (List ℕ) → Outcome Part
shown k fs = refuse (leb (length fs) k) 12 0 (accepted (part_of fs k))  -- 12: no polynomial of that number; 0

unfoldable pub polynomial_lookup : Limits → List ℕ → List ℕ → Of → ℕ → Outcome Part
unfolding read_systems read_certificate certificate_entries polynomial_words entry_place
polynomial_lookup limits ss cs of k =
    followed_by (read_systems limits ss) (λ s.
    followed_by (read_certificate limits s.head.shape cs) (λ c.
    shown k (entries_on of s c)))

-- "On a refusal the part is empty"
abbrev pub words_shown : Outcome Part → List ℕ
words_shown (accepted part) = part.words
words_shown (refused number place) = []

-- the place of its first word among those lent; an empty part stands at their beginning
abbrev pub place_shown : Outcome Part → ℕ
place_shown (accepted part) = part.from
place_shown (refused number place) = 0

-- an address of memory: a block, and the bytes before it there. A word takes four.
abbrev pub Address : Type 0
Address = ℕ × ℕ

abbrev pub word_address : Address → ℕ → Address
word_address lent k = (lent.0, lent.1 + word_bytes * k)

-- "the result is that part of the lent words": of a slice, its words and its address. Equal words elsewhere are not that part.
pub record Borrows (told : Outcome Part) (lent address : Address) (words : List ℕ) : Type 0 where
  pub same_words : words ≡ words_shown told
  pub same_place : address ≡ word_address lent (place_shown told)

-- "a companion call on the same words gives number and place"
abbrev pub companion : Outcome Part → Outcome (Unit {0})
companion told = mapped (λ part. tt) told

-- where a part stands: from its first word up to before the second place
abbrev pub bounds : Part → ℕ × ℕ
bounds part = (part.from, part.from + length part.words)

abbrev pub bounds_shown : Outcome Part → Outcome (ℕ × ℕ)
bounds_shown told = mapped bounds told
