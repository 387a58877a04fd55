-- Limits that are kept beside those of reading (document 02, item 4): what "reads in the office but exceeds a panel limit". They
-- are a parameter; the panel's are `panel`.
use Rattle.std.specs.Prelude.{ℕ, ◌<◌, ◌≡◌, Bool, false, not, ◌||◌, List, [], ◌∷◌, length, ltb}
use Rattle.words.specs.Limits.{Limits, longest_certificate}
use Rattle.words.specs.Outcome.{Outcome, refuse, followed_by}
use Rattle.words.specs.Outcome.Outcome.{accepted}
use Rattle.words.specs.Systems.{Systems, SystemsWithin, systems_words, systems_entries, read_systems}
use Rattle.words.specs.Certificate.{Certificate, certificate_entries, certificate_words}
use Rattle.words.specs.Line.{LineRefused}
use Rattle.words.specs.Pair.{Source}

-- ---- what exceeds them

-- some polynomial has more coefficients than so many
unfoldable pub longer? : ℕ → List (List ℕ) → Bool
longer? most [] = false
longer? most (f ∷ fs) = ltb most (length f) || longer? most fs

-- "systems of 1 to 4 rows and columns", "one right side", "sheet polynomials of at most 8 coefficients"
unfoldable pub systems_exceed : Limits → Systems → Bool
unfolding longer?
systems_exceed kept s =
    ltb kept.rows s.head.shape.rows
    || (ltb kept.columns s.head.shape.columns
    || (ltb kept.sides s.head.sides
    || longer? kept.system_coefficients (systems_entries s)))

-- "card polynomials of at most 29", "cards of at most 302 words"
unfoldable pub certificate_exceeds : Limits → Certificate → Bool
unfolding longer? certificate_entries certificate_words
certificate_exceeds kept c =
    longer? kept.certificate_coefficients (certificate_entries c) || ltb (longest_certificate kept) (length (certificate_words c))

-- ---- a sheet that has right side k, all of it

-- 40: "a right side that the sheet doesn't have, place 0, after the sheet has been read"
abbrev pub sided_of : ℕ → Systems → Outcome Systems
sided_of k s = refuse (not (ltb k s.head.sides)) 40 0 (accepted s)

unfoldable pub read_sided : Limits → ℕ → List ℕ → Outcome Systems
unfolding read_systems
read_sided limits k ws = followed_by (read_systems limits ws) (sided_of k)

-- the words are its written form
pub record SidedIn (limits : Limits) (k : ℕ) (s : Systems) (ws : List ℕ) : Type 0 where
  pub words : ws ≡ systems_words s
  pub within : SystemsWithin limits s
  pub has : k < s.head.sides

abbrev pub sided : Limits → ℕ → Source Systems
sided limits k = record {
  from = read_sided limits k;
  shape_in = λ s. s.head.shape;
  Holds = SidedIn limits k;
  Refused = LineRefused limits k;
}
